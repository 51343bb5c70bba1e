-- What the exports say of lent cells: the point that they hold, and what normalising leaves in them. Definitions only.
use Rattle.std.specs.Prelude.{◌≡◌, Bool, List, get_or, Float, Option, is_some}
use Rattle.std.specs.Float.{nan}
use Rattle.numbers.specs.declared.vec3.Vec3.{Vec3}
use Rattle.numbers.specs.declared.vec4.Vec4.{Vec4}
use Rattle.numbers.specs.Normal.{normalised3, normalised4, cells3, cells4}

-- the point whose components are the cells, in order
unfoldable pub point3 : List Float → Vec3
point3 s = record { x = get_or s 0 nan; y = get_or s 1 nan; z = get_or s 2 nan }

unfoldable pub point4 : List Float → Vec4
point4 s = record { x = get_or s 0 nan; y = get_or s 1 nan; z = get_or s 2 nan; w = get_or s 3 nan }

-- whether a normal is a direction
abbrev pub directed3 : Option Vec3 → Bool
directed3 = is_some

abbrev pub directed4 : Option Vec4 → Bool
directed4 = is_some

-- what normalising answers, and leaves of the cells that it was lent
pub record Normalised3 (before after : List Float) (answer : Bool) : Type 0 where
  pub cells : after ≡ cells3 (normalised3 (point3 before))
  pub direction : answer ≡ directed3 (normalised3 (point3 before))

pub record Normalised4 (before after : List Float) (answer : Bool) : Type 0 where
  pub cells : after ≡ cells4 (normalised4 (point4 before))
  pub direction : answer ≡ directed4 (normalised4 (point4 before))
