-- The steps. In sums, differences, products and quotients each step rounds once, to nearest, ties to even. The four signs below are
-- IEEE 754's operations on binary32 as `lib.Ieee` defines them, and each use of one is one rounded step; they group to the left. Definitions only.
use Rattle.std.specs.Prelude.{ℕ, false, pos, negsuc, Float}
use Rattle.std.specs.Float.{fin, binary32}
use Rattle.std.specs.Float.Ieee.{add, sub, mul, div, of_int}

infixl 65 ◌⊕◌
infixl 65 ◌⊖◌
infixl 70 ◌⊗◌
infixl 70 ◌⊘◌
abbrev pub ◌⊕◌ : Float → Float → Float
x ⊕ y = add binary32 x y

abbrev pub ◌⊖◌ : Float → Float → Float
x ⊖ y = sub binary32 x y

abbrev pub ◌⊗◌ : Float → Float → Float
x ⊗ y = mul binary32 x y

abbrev pub ◌⊘◌ : Float → Float → Float
x ⊘ y = div binary32 x y

-- +0, 1 and 0.5
abbrev pub zero : Float
zero = fin false 0 (pos 0)

abbrev pub one : Float
one = fin false 1 (pos 0)

abbrev pub half : Float
half = fin false 1 (negsuc 0)

-- the count n as a binary32 number, exact up to 2 ^ 24
abbrev pub count : ℕ → Float
count n = of_int binary32 (pos n)
