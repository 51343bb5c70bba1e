-- What is done with three numbers, the axes x, y and z alone. Every component is worked out by itself, in the order written.
-- Definitions only.
use Rattle.std.specs.Prelude.{List, [], ◌∷◌, Float}
use Rattle.numbers.specs.declared.vec3.Vec3.{Vec3}
use Rattle.numbers.specs.Binary32.{◌⊕◌, ◌⊖◌, ◌⊗◌, zero}

abbrev pub components : Vec3 → List Float
components p = p.x ∷ p.y ∷ p.z ∷ []

-- +0 on each axis: where a sum starts
abbrev pub origin : Vec3
origin = record { x = zero; y = zero; z = zero }

unfoldable pub sum : Vec3 → Vec3 → Vec3
sum p q = record { x = p.x ⊕ q.x; y = p.y ⊕ q.y; z = p.z ⊕ q.z }

unfoldable pub difference : Vec3 → Vec3 → Vec3
difference p q = record { x = p.x ⊖ q.x; y = p.y ⊖ q.y; z = p.z ⊖ q.z }

-- k times each component
unfoldable pub scaled : Float → Vec3 → Vec3
scaled k p = record { x = k ⊗ p.x; y = k ⊗ p.y; z = k ⊗ p.z }

unfoldable pub dot : Vec3 → Vec3 → Float
dot p q = p.x ⊗ q.x ⊕ p.y ⊗ q.y ⊕ p.z ⊗ q.z

unfoldable pub cross : Vec3 → Vec3 → Vec3
cross p q =
    record { x = p.y ⊗ q.z ⊖ p.z ⊗ q.y; y = p.z ⊗ q.x ⊖ p.x ⊗ q.z; z = p.x ⊗ q.y ⊖ p.y ⊗ q.x }

-- of the matrix with the columns p, q and r
unfoldable pub determinant : Vec3 → Vec3 → Vec3 → Float
determinant p q r =
    p.x ⊗ (q.y ⊗ r.z ⊖ r.y ⊗ q.z) ⊖ q.x ⊗ (p.y ⊗ r.z ⊖ r.y ⊗ p.z) ⊕ r.x ⊗ (p.y ⊗ q.z ⊖ q.y ⊗ p.z)
