-- A point is four binary32 numbers carried together, axes x, y, z and w (time). Every component is worked out by itself, in the
-- order written. Definitions only.
use Rattle.std.specs.Prelude.{List, [], ◌∷◌, length, Float}
use Rattle.numbers.specs.declared.vec4.Vec4.{Vec4}
use Rattle.numbers.specs.Binary32.{◌⊕◌, ◌⊖◌, ◌⊗◌, ◌⊘◌, zero, half, count}

abbrev pub components : Vec4 → List Float
components p = p.x ∷ p.y ∷ p.z ∷ p.w ∷ []

unfoldable pub sum : Vec4 → Vec4 → Vec4
sum p q = record { x = p.x ⊕ q.x; y = p.y ⊕ q.y; z = p.z ⊕ q.z; w = p.w ⊕ q.w }

unfoldable pub difference : Vec4 → Vec4 → Vec4
difference p q = record { x = p.x ⊖ q.x; y = p.y ⊖ q.y; z = p.z ⊖ q.z; w = p.w ⊖ q.w }

-- k times each component
unfoldable pub scaled : Float → Vec4 → Vec4
scaled k p = record { x = k ⊗ p.x; y = k ⊗ p.y; z = k ⊗ p.z; w = k ⊗ p.w }

-- each component divided by k
unfoldable pub quotient : Vec4 → Float → Vec4
quotient p k = record { x = p.x ⊘ k; y = p.y ⊘ k; z = p.z ⊘ k; w = p.w ⊘ k }

unfoldable pub dot : Vec4 → Vec4 → Float
dot p q = p.x ⊗ q.x ⊕ p.y ⊗ q.y ⊕ p.z ⊗ q.z ⊕ p.w ⊗ q.w

-- 0.5 · (A + B)
unfoldable pub midpoint : Vec4 → Vec4 → Vec4
midpoint p q = scaled half (sum p q)

-- +0 on every axis: where a sum of corners starts
unfoldable pub origin : Vec4
origin = record { x = zero; y = zero; z = zero; w = zero }

-- s with the points added one by one
unfoldable pub added : Vec4 → List Vec4 → Vec4
added s [] = s
added s (p ∷ ps) = added (sum s p) ps

-- the sum of an element's corners, divided by how many they are
unfoldable pub mean : List Vec4 → Vec4
mean ps = quotient (added origin ps) (count (length ps))

-- the matrix with the columns a, b, c and d times the column of weights k: ((a·k0 + b·k1) + c·k2) + d·k3
unfoldable pub columns : Vec4 → Vec4 → Vec4 → Vec4 → Vec4 → Vec4
columns a b c d k = sum (sum (sum (scaled k.x a) (scaled k.y b)) (scaled k.z c)) (scaled k.w d)
