-- Normalising. A normal is a direction with its components (`Some`), or Flat with none (`None`). Each definition is given over what a vector's
-- sum of squares and multiples are, and is then that of three components and of four. The tests for Flat are definitions of their own, and stay shut to callers.
-- Definitions only.
use Rattle.std.specs.Prelude.{Bool, cond, List, Float, Option, Some, None}
use Rattle.std.specs.Float.Ieee.{eq}
use Rattle.numbers.specs.declared.vec3.Vec3.{Vec3}
use Rattle.numbers.specs.declared.vec4.Vec4.{Vec4}
use Rattle.numbers.specs.Binary32.{◌⊘◌, zero, one}
use Rattle.numbers.specs.Points3 as Points3
use Rattle.numbers.specs.Points4 as Points4
use Rattle.numbers.specs.Root.{root}

-- whether v has no direction: its square rounds to 0
unfoldable pub flat : {V : Type 0} → (V → V → Float) → V → Bool
flat dot v = eq (dot v v) zero

unfoldable pub flat3 : Vec3 → Bool
flat3 = flat Points3.dot

unfoldable pub flat4 : Vec4 → Bool
flat4 = flat Points4.dot

-- r = 1 / root(dot(v, v)), each component times r
unfoldable pub unit : {V : Type 0} → (V → V → Float) → (Float → V → V) → V → V
unit dot scaled v = scaled (one ⊘ root (dot v v)) v

unfoldable pub unit3 : Vec3 → Vec3
unit3 = unit Points3.dot Points3.scaled

unfoldable pub unit4 : Vec4 → Vec4
unit4 = unit Points4.dot Points4.scaled

-- the direction of v, or Flat
unfoldable pub normalised : {V : Type 0} → (V → V → Float) → (Float → V → V) → V → Option V
normalised dot scaled v = cond (flat dot v) None (Some (unit dot scaled v))

unfoldable pub normalised3 : Vec3 → Option Vec3
normalised3 = normalised Points3.dot Points3.scaled

unfoldable pub normalised4 : Vec4 → Option Vec4
normalised4 = normalised Points4.dot Points4.scaled

-- what a lent list of normals is written for each case: a direction's components; for Flat +0 in every place, the components of the origin
unfoldable pub cells : {V : Type 0} → (V → List Float) → V → Option V → List Float
cells components origin (Some v) = components v
cells components origin None = components origin

unfoldable pub cells3 : Option Vec3 → List Float
cells3 = cells Points3.components Points3.origin

unfoldable pub cells4 : Option Vec4 → List Float
cells4 = cells Points4.components Points4.origin
