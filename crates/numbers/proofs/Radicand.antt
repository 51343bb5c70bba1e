-- The number whose root is taken digit by digit: a * 2 ^ w is `radicand a w` * 4 ^ `half a w`, and the radicand has 49 or 50 digits and is even, for an a of at
-- most 24 digits and a w from 149 on. Assumes nothing.
use Rattle.std.proofs.Common.{◌≡◌, ℕ, suc, ◌+◌, ◌-◌, ◌*◌, ◌/◌, ◌%◌, ◌^◌, ◌<◌, ◌≤◌, sym, subst, le_trans, le_of_eq, lt_of_lt_of_le, mul-le-mul_right, mul_assoc, pow-suc, lt_of_not-le, not-le_of_lt, arith, pow_mono, pow-add, shl_lt, shl_exact}
use native.Mathlib.Nat.{mul-mod_left}
use lib.Count.{count_leading_zeros, leading_top}
use Rattle.numbers.proofs.WholeRoot.{four_power}

abbrev pub half : ℕ → ℕ → ℕ
half a w = (w - count_leading_zeros 32 a - 17) / 2

abbrev pub shift : ℕ → ℕ → ℕ
shift a w = w - 2 * half a w

abbrev pub radicand : ℕ → ℕ → ℕ
radicand a w = a * 2 ^ shift a w

-- where the highest digit of a stands, and how many zeros are above it
record Highest (a : ℕ) : Type 0 where
  place : ℕ
  zeros : count_leading_zeros 32 a + suc place ≡ 32
  from : 2 ^ place ≤ a
  below : a < 2 ^ suc place

highest : (a : ℕ) → 0 < a → a < 2 ^ 24 → Highest a
highest a pos small =
    let t = leading_top 32 a pos (lt_of_lt_of_le small (pow_mono {i = 24} {j = 32} (omega arith))) in
    record { place = t.0; zeros = t.1; from = t.2; below = t.3 }

module _ (a w : ℕ) (pos : 0 < a) (small : a < 2 ^ 24) (heavy : 149 ≤ w) where
  top : Highest a
  top = highest a pos small

  place_small : top.place < 24
  place_small = lt_of_not-le (λ g. not-le_of_lt small (le_trans (pow_mono g) top.from))

  pub zeros_to : count_leading_zeros 32 a ≤ 31
  zeros_to = omega (arith, top.zeros)

  -- the highest digit goes to place 48 or 49
  from_48 : 48 ≤ top.place + shift a w
  from_48 = omega (arith, top.zeros, place_small)

  to_49 : suc top.place + shift a w ≤ 50
  to_49 = omega (arith, top.zeros, place_small)

  pub radicand_from : 2 ^ 48 ≤ radicand a w
  radicand_from = le_trans (pow_mono from_48) (le_trans (le_of_eq (pow-add 2 top.place (shift a w))) (mul-le-mul_right (2 ^ shift a w) top.from))

  pub radicand_below : radicand a w < 2 ^ 50
  radicand_below = lt_of_lt_of_le (shl_lt (suc top.place) (shift a w) top.below) (pow_mono to_49)

  pub shift_small : shift a w < 64
  shift_small = omega (arith, top.zeros)

  -- the machine's shift loses nothing
  pub shifted : (a * 2 ^ shift a w) % 2 ^ 64 ≡ radicand a w
  shifted = shl_exact (suc top.place) (shift a w) 64 top.below (omega (arith, to_49))

  pub radicand_even : radicand a w % 2 ≡ 0
  radicand_even =
      let s : shift a w ≡ suc (shift a w - 1) = omega (arith, top.zeros) in
      subst (λ (k : ℕ). a * 2 ^ k % 2 ≡ 0) (sym s) (rw (pow-suc, ← mul_assoc) (mul-mod_left (a * 2 ^ (shift a w - 1)) 2))

  pub radicand_is : radicand a w * 4 ^ half a w ≡ a * 2 ^ w
  radicand_is =
      let e : shift a w + (half a w + half a w) ≡ w = omega (arith, top.zeros) in
      subst (λ (k : ℕ). radicand a w * 4 ^ half a w ≡ a * 2 ^ k) e (simp (pow-add, four_power, mul_assoc))
