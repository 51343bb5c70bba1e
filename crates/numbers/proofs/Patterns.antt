-- Bit patterns of binary32: the number that a pattern stands for, and the pattern of a number given by its digits; and which patterns of either format are no
-- NaN's. Assumes nothing.
use Rattle.std.proofs.Common.{◌≡◌, ℕ, suc, ◌+◌, ◌-◌, ◌*◌, ◌/◌, ◌%◌, ◌^◌, ◌<◌, ◌≤◌, Bool, true, false, not, T, leb, sym, refl, ap, ◌∙◌, subst, ⊎_elim, le_trans, le_of_lt, mul-le-mul_right, suc-add, eq-or-lt_of_le, pow-suc, mul-div_cancel, arith, pow-add, shl_lt, le-ltb, ne_eqb}
use native.Mathlib.Nat.{mod-le}
use lib.Pow.{shl-shr}
use lib.Ieee.{Float, nan, inf, fin, Format, binary32, binary64, size, fits, hid, ones, top, of_fields, of_bits, to_bits, nan_bits, is_nan, ne, down}
use lib.Ieee.Bits.{nan_bits_above, to_bits-lt}
use lib.Ieee.Compare.{nan_differs}
use lib.Ieee.Exact.{HasValue, odd_sign}
use lib.Ieee.Fits.{down_pos}
use Rattle.numbers.proofs.RoundedRoot.{size_is}

-- ---- the pattern of s * 2 ^ k units, s having 24 digits or being 2 ^ 24

-- n kept to 24 digits, as `to_bits` has it
abbrev pattern : ℕ → ℕ
pattern n = 0 + (size n - 24) * 8388608 + n / 2 ^ (size n - 24)

-- a number of z + 24 digits
pattern_at : (n z : ℕ) → size n ≡ suc (23 + z) → pattern n ≡ z * 8388608 + n / 2 ^ z
pattern_at n z e =
    let d : size n - 24 ≡ z = omega arith in
    rw d (omega arith)

full : (s k : ℕ) → 2 ^ 23 ≤ s → s < 2 ^ 24 → pattern (s * 2 ^ k) ≡ k * 8388608 + s
full s k long short =
    let from : 2 ^ (23 + k) ≤ s * 2 ^ k = rw (pow-add 2 23 k) (mul-le-mul_right (2 ^ k) long) in
    pattern_at (s * 2 ^ k) k (size_is (s * 2 ^ k) (23 + k) from (rw (← suc-add 23 k) (shl_lt 24 k short)))
    ∙ ap (λ (n : ℕ). k * 8388608 + n) (shl-shr s k)

pattern_of : (s k : ℕ) → 2 ^ 23 ≤ s → s ≤ 2 ^ 24 → pattern (s * 2 ^ k) ≡ k * 8388608 + s
pattern_of s k long short = ⊎_elim carried (full s k long) (eq-or-lt_of_le short)
  where
    carried : s ≡ 2 ^ 24 → pattern (s * 2 ^ k) ≡ k * 8388608 + s
    carried e =
        let next : s * 2 ^ k ≡ 2 ^ 23 * 2 ^ suc k = rw (e, pow-suc) (omega arith) in
        ap pattern next ∙ full (2 ^ 23) (suc k) (omega arith) (omega arith) ∙ omega arith

pub bits_of_value : (v : Float) (s k : ℕ) → HasValue v false (s * 2 ^ k) (2 ^ 149) → 2 ^ 23 ≤ s → s ≤ 2 ^ 24 → to_bits binary32 v ≡ k * 8388608 + s
unfolding to_bits
bits_of_value nan s k h long short = absurd h
bits_of_value (inf t) s k h long short = absurd h
bits_of_value (fin true m e) s k h long short = absurd (subst T h.0 tt)
bits_of_value (fin false m e) s k h long short =
    ap pattern (ap (λ (n : ℕ). n / down e) h.1 ∙ mul-div_cancel (s * 2 ^ k) (down_pos e)) ∙ pattern_of s k long short

-- ---- what a pattern stands for, by its sign, its exponent's field and its digits

pub subnormal_value : (s : Bool) (t : ℕ) → HasValue (of_fields binary32 s 0 t) s (t * 2 ^ 0) (2 ^ 149)
unfolding of_fields
subnormal_value s t = odd_sign 24 s t 0 149

pub normal_value : (s : Bool) (x t : ℕ) → suc x < 255 → HasValue (of_fields binary32 s (suc x) t) s ((8388608 + t) * 2 ^ x) (2 ^ 149)
unfolding of_fields
normal_value s x t h = rw (ne_eqb (suc x) 255 (λ e. omega arith)) (odd_sign 24 s (8388608 + t) x 149)

pub fields : (b : ℕ) → of_bits binary32 b ≡ of_fields binary32 (leb 2147483648 b) (b % 2147483648 / 8388608) (b % 8388608)
unfolding of_bits
fields b = refl

-- ---- which are no NaN

pub equal_to_itself : (x : Float) → ne x x ≡ false → T (not (is_nan x))
unfolding is_nan
equal_to_itself nan h = subst T (sym nan_differs ∙ h) tt
equal_to_itself (inf s) h = tt
equal_to_itself (fin s m e) h = tt

pub below_infinity : (f : Format) (n : ℕ) → n < ones f * hid f → T (not (nan_bits f n))
below_infinity f n h = rw (nan_bits_above f n, le-ltb (ones f * hid f) (n % top f) (le_trans (mod-le n (top f)) (le_of_lt h))) tt

-- ---- a binary64 pattern that is cut to 36 digits has room for one more

pub one_more_fits : (x : Float) → T (fits binary64 x) → to_bits binary64 x / 0x1000_0000 + 1 < 2 ^ 64
one_more_fits x h = let l : to_bits binary64 x < 2 ^ 64 = to_bits-lt binary64 x h in omega arith
