-- What normalising gives, by the test for Flat; and how many words stand for a normal. Assumes nothing.
use Rattle.std.proofs.Common.{◌≡◌, true, false, ℕ, List, length, refl, Option, Some, None}
use lib.Ieee.{Float}
use Rattle.numbers.specs.declared.vec3.Vec3.{Vec3}
use Rattle.numbers.specs.declared.vec4.Vec4.{Vec4}
use Rattle.numbers.specs.Normal.{flat, unit, normalised, cells, flat3, flat4, unit3, unit4, normalised3, normalised4, cells3, cells4}

module _ {V : Type 0} (dot : V → V → Float) (scaled : Float → V → V) (v : V) where
  pub flat_is_Flat : flat dot v ≡ true → normalised dot scaled v ≡ None
  unfolding normalised
  flat_is_Flat h = rw h

  pub else_a_direction : flat dot v ≡ false → normalised dot scaled v ≡ Some (unit dot scaled v)
  unfolding normalised
  else_a_direction h = rw h

pub flat_is_Flat3 : (v : Vec3) → flat3 v ≡ true → normalised3 v ≡ None
unfolding flat3 normalised3
flat_is_Flat3 v h = flat_is_Flat _ _ v h

pub else_a_direction3 : (v : Vec3) → flat3 v ≡ false → normalised3 v ≡ Some (unit3 v)
unfolding flat3 unit3 normalised3
else_a_direction3 v h = else_a_direction _ _ v h

pub flat_is_Flat4 : (v : Vec4) → flat4 v ≡ true → normalised4 v ≡ None
unfolding flat4 normalised4
flat_is_Flat4 v h = flat_is_Flat _ _ v h

pub else_a_direction4 : (v : Vec4) → flat4 v ≡ false → normalised4 v ≡ Some (unit4 v)
unfolding flat4 unit4 normalised4
else_a_direction4 v h = else_a_direction _ _ v h

-- a normal is as wide as its cell
pub wide : {V : Type 0} (components : V → List Float) (origin : V) (width : ℕ) → ((v : V) → length (components v) ≡ width) → (n : Option V) → length (cells components origin n) ≡ width
unfolding cells
wide components origin width w (Some v) = w v
wide components origin width w None = w origin

pub wide3 : (n : Option Vec3) → length (cells3 n) ≡ 3
unfolding cells3
wide3 = wide _ _ 3 (λ v. refl)

pub wide4 : (n : Option Vec4) → length (cells4 n) ≡ 4
unfolding cells4
wide4 = wide _ _ 4 (λ v. refl)
