-- What IEEE 754 (clause 5.4.1) says of the root of zeros, infinities, NaNs and numbers below zero: one list of bit patterns, one test that antt computes over it,
-- and the theorem that the definition passes. Assumes nothing.
use Rattle.std.proofs.Common.{◌≡◌, ℕ, List, [], ◌∷◌, map, refl}
use lib.Ieee.{binary32, of_bits, to_bits}
use Rattle.numbers.specs.Root.{root}

-- a pattern and the pattern of its root; 7FC00000 is the one that `to_bits` writes for a NaN
abbrev pub cases : List (ℕ × ℕ)
cases =
    (0x0000_0000, 0x0000_0000)
    ∷ (0x8000_0000, 0x8000_0000)
    ∷ (0x7F80_0000, 0x7F80_0000)
    ∷ (0xFF80_0000, 0x7FC0_0000)
    ∷ (0xBF80_0000, 0x7FC0_0000)
    ∷ (0x8000_0001, 0x7FC0_0000)
    ∷ (0x7FC0_0000, 0x7FC0_0000)
    ∷ []

abbrev pub found : List (ℕ × ℕ) → List ℕ
found = map (λ c. to_bits binary32 (root (of_bits binary32 c.0)))

pub all_as_said : found cases ≡ map (λ c. c.1) cases
unfolding to_bits of_bits root
all_as_said = refl
