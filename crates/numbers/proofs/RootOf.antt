-- The definition of the root at a number that is known by its digits, or by its bit pattern. Assumes nothing.
use Rattle.std.proofs.Common.{◌≡◌, ℕ, zero, suc, ◌+◌, ◌-◌, ◌*◌, ◌/◌, ◌%◌, ◌^◌, ◌<◌, ◌≤◌, Bool, true, false, cond, ◌&&◌, T, eqb, ltb, leb, sym, refl, ap, ◌∙◌, subst, ⊎_elim, lt_of_le_of_lt, mul_assoc, mul_comm, mul-le-mul, eq-or-lt_of_le, mul-pos, zero-mul, le-add_left, add-one, arith, lit<, pow_pos, pow_mono, pow-add, ltb-false, ltb-true, le-leb}
use mathlib.Core.Bool.{and-eq-true_iff, false≢true}
use borrow.Author.Tests.{lt-leb}
use lib.Ieee.{Float, nan, inf, fin, binary32, of_fields, of_bits, to_bits, up, down, units, fits, is_nan}
use lib.Ieee.Exact.{HasValue, units_val}
use lib.Ieee.Fits.{down_pos, nan-fits}
use Rattle.numbers.specs.Root.{whole_root, rounded_root, root}
use Rattle.numbers.proofs.RoundedRoot.{four_pos, rounded_from, rounded_to, rounded_at, rounded_fits}
use Rattle.numbers.proofs.Patterns.{bits_of_value, subnormal_value, normal_value, fields}
use Rattle.numbers.proofs.Radicand.{half, radicand, radicand_from, radicand_below, radicand_even, radicand_is}

-- the root of a * 2 ^ w / 2 ^ 298, rounded
abbrev pub root_at : ℕ → ℕ → Float
root_at a w = units binary32 false ((whole_root (radicand a w) + 1) / 2) (suc (half a w))

module _ (a w : ℕ) (pos : 0 < a) (small : a < 2 ^ 24) (heavy : 149 ≤ w) where
  pub rounded_is : (num den : ℕ) → 0 < den → num * 4 ^ 149 ≡ a * 2 ^ w * den → rounded_root binary32 num den ≡ root_at a w
  rounded_is num den d exact =
      rounded_at num den (radicand a w) (half a w) d (rw (radicand_is a w pos small heavy) exact)
      (radicand_from a w pos small heavy) (radicand_below a w pos small heavy) (radicand_even a w pos small heavy)

  pub rounded_here : rounded_root binary32 (a * 2 ^ w) (4 ^ 149) ≡ root_at a w
  rounded_here = rounded_is (a * 2 ^ w) (4 ^ 149) (four_pos 149) refl

  -- its size in units
  pub root_units : w ≤ 500 → HasValue (root_at a w) false ((whole_root (radicand a w) + 1) / 2 * 2 ^ suc (half a w)) (2 ^ 149)
  root_units light =
      let to = rounded_to (radicand_below a w pos small heavy) in
      let h : suc (half a w) ≤ 242 = omega arith in
      units_val binary32 false ((whole_root (radicand a w) + 1) / 2) (suc (half a w)) (lt_of_le_of_lt (mul-le-mul to (pow_mono h)) (lit< tt))

  -- and its pattern
  pub pattern_is : w ≤ 402 → (half a w + 1) * 8388608 + (whole_root (radicand a w) + 1) / 2 ≡ to_bits binary32 (rounded_root binary32 (a * 2 ^ w) (4 ^ 149))
  pattern_is light =
      let from = rounded_from (radicand a w) (radicand_from a w pos small heavy) (radicand_below a w pos small heavy) in
      let to = rounded_to (radicand_below a w pos small heavy) in
      rw (add-one (half a w), rounded_here) (sym (bits_of_value (root_at a w) ((whole_root (radicand a w) + 1) / 2) (suc (half a w)) (root_units (omega arith)) from to))

-- a product is not 0 where its factors are not
never_zero : (a k u d l : ℕ) → 0 < a → 0 < d → 0 * u * l ≡ a * 2 ^ k * d → ⊥
never_zero a k u d l A D e =
    let p : 0 < a * 2 ^ k * d = mul-pos (mul-pos A (pow_pos k)) D in
    let z : 0 * u * l ≡ 0 = simp zero-mul in
    omega arith

-- the same number in units, and in units of the square
squared : (x a q d l : ℕ) → x * l ≡ a * q * d → x * (l * l) ≡ a * (q * l) * d
squared x a q d l e = sym (mul_assoc x l l) ∙ ap (λ (n : ℕ). n * l) e ∙ simp (mul_assoc, mul_comm)

pub in_squares_lem : (x a k d : ℕ) → x * 2 ^ 149 ≡ a * 2 ^ k * d → x * 4 ^ 149 ≡ a * 2 ^ (k + 149) * d
in_squares_lem x a k d e = rw (pow-add 2 k 149) (squared x a (2 ^ k) d (2 ^ 149) e)

pub root_of_value : (x : Float) (a k : ℕ) → 0 < a → a < 2 ^ 24 → HasValue x false (a * 2 ^ k) (2 ^ 149)
    → root x ≡ rounded_root binary32 (a * 2 ^ (k + 149)) (4 ^ 149)
unfolding root
root_of_value nan a k pos small h = absurd h
root_of_value (inf t) a k pos small h = absurd h
root_of_value (fin t zero e) a k pos small h = absurd (never_zero a k (up e) (down e) (2 ^ 149) pos (down_pos e) h.1)
root_of_value (fin true (suc m) e) a k pos small h = absurd (subst T h.0 tt)
root_of_value (fin false (suc m) e) a k pos small h =
    rounded_is a (k + 149) pos small (le-add_left 149 k) (suc m * up e) (down e) (down_pos e) (in_squares_lem (suc m * up e) a k (down e) h.1)
    ∙ sym (rounded_here a (k + 149) pos small (le-add_left 149 k))

pub root_below_zero : (x : Float) (a k : ℕ) → 0 < a → HasValue x true (a * 2 ^ k) (2 ^ 149) → root x ≡ nan
unfolding root
root_below_zero nan a k pos h = absurd h
root_below_zero (inf t) a k pos h = absurd h
root_below_zero (fin t zero e) a k pos h = absurd (never_zero a k (up e) (down e) (2 ^ 149) pos (down_pos e) h.1)
root_below_zero (fin true (suc m) e) a k pos h = refl
root_below_zero (fin false (suc m) e) a k pos h = absurd (subst T (sym h.0) tt)

-- ---- by the pattern

fields_at : (b : ℕ) (s : Bool) (x t : ℕ) → leb 2147483648 b ≡ s → b % 2147483648 / 8388608 ≡ x → b % 8388608 ≡ t → of_bits binary32 b ≡ of_fields binary32 s x t
fields_at b s x t p q r = fields b ∙ rw (p, q, r)

pub root_of_subnormal : (b : ℕ) → 0 < b → b < 8388608 → root (of_bits binary32 b) ≡ rounded_root binary32 (b * 2 ^ 149) (4 ^ 149)
root_of_subnormal b pos small =
    let e = fields_at b false 0 b (lt-leb 2147483648 b (omega arith)) (omega arith) (omega arith) in
    rw e (root_of_value (of_fields binary32 false 0 b) b 0 pos (omega arith) (subnormal_value false b))

pub root_of_normal : (b : ℕ) → 8388608 ≤ b → b < 0x7F80_0000 → root (of_bits binary32 b) ≡ rounded_root binary32 ((8388608 + b % 8388608) * 2 ^ (b / 8388608 + 148)) (4 ^ 149)
root_of_normal b big small =
    let x = b / 8388608 - 1 in
    let t = b % 8388608 in
    let e = fields_at b false (suc x) t (lt-leb 2147483648 b (omega arith)) (omega arith) refl in
    let w : x + 149 ≡ b / 8388608 + 148 = omega arith in
    rw (e, ← w) (root_of_value (of_fields binary32 false (suc x) t) (8388608 + t) x (omega arith) (omega arith) (normal_value false x t (omega arith)))

zero_own : (s : Bool) → root (of_fields binary32 s 0 0) ≡ of_fields binary32 s 0 0
unfolding root of_fields
zero_own s = refl

root_of_zero : (b : ℕ) → b % 2147483648 ≡ 0 → root (of_bits binary32 b) ≡ of_bits binary32 b
root_of_zero b e = rw (fields_at b (leb 2147483648 b) 0 0 refl (omega arith) (omega arith)) (zero_own (leb 2147483648 b))

pub root_of_nan : (x : Float) → is_nan x ≡ true → root x ≡ x
unfolding root is_nan
root_of_nan nan e = refl
root_of_nan (inf s) e = absurd (false≢true e)
root_of_nan (fin s m k) e = absurd (false≢true e)

-- the field of all ones
top_field : (s : Bool) (t : ℕ) → of_fields binary32 s 255 t ≡ cond (eqb t 0) (inf s) nan
unfolding of_fields
top_field s t = refl

top_own : (z : Bool) → root (cond z (inf false) nan) ≡ cond z (inf false) nan
unfolding root
top_own true = refl
top_own false = refl

root_of_top : (b : ℕ) → 0x7F80_0000 ≤ b → b < 2147483648 → root (of_bits binary32 b) ≡ of_bits binary32 b
root_of_top b big small =
    let t = b % 8388608 in
    rw (fields_at b false 255 t (lt-leb 2147483648 b small) (omega arith) refl, top_field false t) (top_own (eqb t 0))

-- whether the pattern is of a number above 0 and below the infinity, as two comparisons tell it
abbrev is_above_zero : ℕ → Bool
is_above_zero b = ltb 0 b && ltb b 0x7F80_0000

pub above_zero : (b : ℕ) → is_above_zero b ≡ true → (0 < b) × (b < 0x7F80_0000)
above_zero b e =
    let both = (and-eq-true_iff (ltb 0 b) (ltb b 0x7F80_0000)).0 e in
    (ltb-true _ _ both.0, ltb-true _ _ both.1)

-- where it is not, and none below 0 either, it is of a zero or has the field of all ones
pub root_of_own : (b : ℕ) → is_above_zero b ≡ false → b ≤ 2147483648 → root (of_bits binary32 b) ≡ of_bits binary32 b
root_of_own b none most = go (ltb 0 b) (ltb b 0x7F80_0000) refl refl
  where
    go : (p q : Bool) → ltb 0 b ≡ p → ltb b 0x7F80_0000 ≡ q → root (of_bits binary32 b) ≡ of_bits binary32 b
    go false q zero_told top_told = let l : b ≤ 0 = ltb-false _ _ zero_told in root_of_zero b (omega arith)
    go true true zero_told top_told = absurd (false≢true (sym none ∙ rw (zero_told, top_told)))
    go true false zero_told top_told =
        let l : 0x7F80_0000 ≤ b = ltb-false _ _ top_told in
        ⊎_elim (λ (e : b ≡ 2147483648). root_of_zero b (omega arith)) (λ small. root_of_top b l small) (eq-or-lt_of_le most)

top_none : (z : Bool) → root (cond z (inf true) nan) ≡ nan
unfolding root
top_none true = refl
top_none false = refl

negative_fields : (x t : ℕ) → x ≤ 255 → 0 < x * 8388608 + t → root (of_fields binary32 true x t) ≡ nan
negative_fields zero t most pos = root_below_zero (of_fields binary32 true 0 t) t 0 (omega arith) (subnormal_value true t)
negative_fields (suc x) t most pos =
    ⊎_elim
    (λ (e : suc x ≡ 255). rw (e, top_field true t) (top_none (eqb t 0)))
    (λ l. root_below_zero (of_fields binary32 true (suc x) t) (8388608 + t) x (omega arith) (normal_value true x t l))
    (eq-or-lt_of_le most)

pub root_of_negative : (b : ℕ) → 2147483648 < b → b < 2 ^ 32 → root (of_bits binary32 b) ≡ nan
root_of_negative b big small =
    rw (fields_at b true (b % 2147483648 / 8388608) (b % 8388608) (le-leb 2147483648 b (omega arith)) refl refl)
    (negative_fields (b % 2147483648 / 8388608) (b % 8388608) (omega arith) (omega arith))

-- ---- the root of a binary32 value is one

pub root_fits : (x : Float) → T (fits binary32 x) → T (fits binary32 (root x))
unfolding root
root_fits nan h = h
root_fits (inf false) h = h
root_fits (inf true) h = nan-fits binary32
root_fits (fin s zero e) h = h
root_fits (fin false (suc m) e) h = rounded_fits (suc m * up e) (down e)
root_fits (fin true (suc m) e) h = nan-fits binary32
