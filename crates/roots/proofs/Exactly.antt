-- What `nearest` comes to, by how far the argument's digits are shifted to stand beside the root's. Assumes nothing.
use Rattle.std.proofs.Common.{◌≡◌, ℕ, ◌+◌, ◌-◌, ◌*◌, ◌/◌, ◌%◌, ◌^◌, ◌<◌, ◌≤◌, Bool, true, false, ◌&&◌, eqb, ltb, leb, sym, refl, ap, ◌∙◌, mul-le-mul_right, mul_assoc, div-lt_iff_lt-mul, mul-le-mul, mul-lt-mul_of_pos_right, le-div_iff_mul-le, sub-add_cancel, arith, pow_pos, pow_mono, pow-add, ltb-false, ltb-true, le-ltb, lt-ltb, eq-eqb, ne_eqb, eqb-true, le-leb}
use borrow.Author.Tests.{lt-leb, eqb-false}
use Rattle.roots.specs.Exact.{digits, weight, lower, upper, between, shifted, Patterns, nearest}

-- ---- tests

and_false : (b : Bool) → b && false ≡ false
and_false true = refl
and_false false = refl

-- a test on multiples of k is the test itself
scaled : (a b k : ℕ) → 0 < k → ltb (a * k) (b * k) ≡ ltb a b
scaled a b k pos = go (ltb a b) refl
  where
    go : (t : Bool) → ltb a b ≡ t → ltb (a * k) (b * k) ≡ t
    go true e = lt-ltb (a * k) (b * k) (mul-lt-mul_of_pos_right (ltb-true a b e) pos)
    go false e = le-ltb (a * k) (b * k) (mul-le-mul_right k (ltb-false a b e))

-- x * 2 ^ n is below h where x is at most the whole part of (h - 1) / 2 ^ n
below : (x n h : ℕ) → 0 < h → leb x ((h - 1) / 2 ^ n) ≡ ltb (x * 2 ^ n) h
below x n h pos = go (ltb (x * 2 ^ n) h) refl
  where
    go : (t : Bool) → ltb (x * 2 ^ n) h ≡ t → leb x ((h - 1) / 2 ^ n) ≡ t
    go true e =
        let l : x * 2 ^ n < h = ltb-true _ _ e in
        le-leb x ((h - 1) / 2 ^ n) ((le-div_iff_mul-le (pow_pos n)).1 (omega arith))
    go false e =
        let l : h ≤ x * 2 ^ n = ltb-false _ _ e in
        lt-leb x ((h - 1) / 2 ^ n) ((div-lt_iff_lt-mul (pow_pos n)).1 (omega arith))

-- ---- a number between two others, as the program finds it: shifted back, it need not fit a word

pub not_above : (l x n h : ℕ) → x ≤ l / 2 ^ n → between l (shifted x n) h ≡ false
unfolding between shifted
not_above l x n h p = rw (le-ltb l (x * 2 ^ n) ((le-div_iff_mul-le (pow_pos n)).0 p))

pub above : (l x n h : ℕ) → 0 < h → l / 2 ^ n < x → leb x ((h - 1) / 2 ^ n) ≡ between l (shifted x n) h
unfolding between shifted
above l x n h pos p = rw (lt-ltb l (x * 2 ^ n) ((div-lt_iff_lt-mul (pow_pos n)).0 p)) (below x n h pos)

-- ---- three numbers, two of them shifted by d and the middle one by u

too_low : (l x h d u : ℕ) → u < d → x ≤ l → between (shifted l d) (shifted x u) (shifted h d) ≡ false
unfolding between shifted
too_low l x h d u p q =
    let o : u ≤ d = omega arith in
    rw (le-ltb (l * 2 ^ d) (x * 2 ^ u) (mul-le-mul q (pow_mono o)))

aligned : (l x h d u : ℕ) → d ≤ u → between (shifted l d) (shifted x u) (shifted h d) ≡ between l (shifted x (u - d)) h
unfolding between shifted
aligned l x h d u p =
    let e : x * 2 ^ u ≡ x * 2 ^ (u - d) * 2 ^ d = ap (λ (k : ℕ). x * 2 ^ k) (sym (sub-add_cancel p)) ∙ ap (λ (k : ℕ). x * k) (pow-add 2 (u - d) d) ∙ sym (mul_assoc x (2 ^ (u - d)) (2 ^ d)) in
    rw (e, scaled l (x * 2 ^ (u - d)) (2 ^ d) (pow_pos d), scaled (x * 2 ^ (u - d)) h (2 ^ d) (pow_pos d))

too_high : (l x n h : ℕ) → 64 ≤ n → 0 < x → h ≤ 2 ^ 64 → between l (shifted x n) h ≡ false
unfolding between shifted
too_high l x n h p q r =
    let a : 1 * 2 ^ 64 ≤ x * 2 ^ n = mul-le-mul q (pow_mono p) in
    let b : h ≤ x * 2 ^ n = omega arith in
    rw (le-ltb (x * 2 ^ n) h b) (and_false (ltb l (x * 2 ^ n)))

-- ---- the digits and their bounds

pub digits_subnormal : (p : ℕ) → p < 2 ^ 23 → digits p ≡ p
unfolding digits
digits_subnormal p h = rw (lt-ltb p (2 ^ 23) h)

pub digits_normal : (p : ℕ) → 2 ^ 23 ≤ p → digits p ≡ 2 ^ 23 + p % 2 ^ 23
unfolding digits
digits_normal p h = rw (le-ltb p (2 ^ 23) h)

pub weight_subnormal : (p : ℕ) → p < 2 ^ 23 → weight p ≡ 1
unfolding weight
weight_subnormal p h = rw (lt-ltb p (2 ^ 23) h)

pub weight_normal : (p : ℕ) → 2 ^ 23 ≤ p → weight p ≡ p / 2 ^ 23
unfolding weight
weight_normal p h = rw (le-ltb p (2 ^ 23) h)

-- of a pattern below the infinity's there are at most 24 digits, and some where it is not 0; of a normal one there are 24
pub digits_below : (p : ℕ) → digits p < 2 ^ 24
digits_below p = go (ltb p (2 ^ 23)) refl
  where
    go : (t : Bool) → ltb p (2 ^ 23) ≡ t → digits p < 2 ^ 24
    go true e = omega (arith, digits_subnormal p (ltb-true p (2 ^ 23) e), ltb-true p (2 ^ 23) e)
    go false e = omega (arith, digits_normal p (ltb-false p (2 ^ 23) e))

digits_above : (p : ℕ) → 0 < p → 0 < digits p
digits_above p h = go (ltb p (2 ^ 23)) refl
  where
    go : (t : Bool) → ltb p (2 ^ 23) ≡ t → 0 < digits p
    go true e = omega (arith, digits_subnormal p (ltb-true p (2 ^ 23) e))
    go false e = omega (arith, digits_normal p (ltb-false p (2 ^ 23) e))

pub leading : (p : ℕ) → 2 ^ 23 ≤ p → 2 ^ 23 ≤ digits p
leading p h = omega (arith, digits_normal p h)

pub lower_at : (d : ℕ) → d ≡ 2 ^ 23 → lower d ≡ 4 * d - 1
unfolding lower
lower_at d h = rw (eq-eqb d (2 ^ 23) h)

pub lower_past : (d : ℕ) → (d ≡ 2 ^ 23 → ⊥) → lower d ≡ 4 * d - 2
unfolding lower
lower_past d h = rw (ne_eqb d (2 ^ 23) h)

lower_above : (d : ℕ) → 2 ^ 23 ≤ d → 2 ^ 24 ≤ lower d
lower_above d h = go (eqb d (2 ^ 23)) refl
  where
    go : (t : Bool) → eqb d (2 ^ 23) ≡ t → 2 ^ 24 ≤ lower d
    go true e = omega (arith, lower_at d (eqb-true d (2 ^ 23) e))
    go false e = omega (arith, lower_past d (eqb-false d (2 ^ 23) e))

-- ---- the judgement

squared : (a k : ℕ) → k ≤ a → k * k ≤ a * a
squared a k h = mul-le-mul h h

-- the square of a number below 2 ^ 27 fits a word
pub square_fits : (a : ℕ) → a < 2 ^ 27 → a * a < 2 ^ 64
square_fits a h =
    let s : a * a ≤ 2 ^ 27 * 2 ^ 27 = squared (2 ^ 27) a (omega arith) in
    omega arith

module _ (x r : ℕ) (p : Patterns x r) where
  pub lies_below : weight x + 150 < 2 * weight r → nearest x r ≡ false
  unfolding nearest
  lies_below h =
      let a : 2 ^ 24 * 2 ^ 24 ≤ lower (digits r) * lower (digits r) = squared (lower (digits r)) (2 ^ 24) (lower_above (digits r) (leading r p.normal)) in
      too_low _ (16 * digits x) _ (2 * weight r) (weight x + 150) h (omega (arith, digits_below x))

  pub lies_beside : 2 * weight r ≤ weight x + 150 → nearest x r ≡ between (lower (digits r) * lower (digits r)) (shifted (16 * digits x) (weight x + 150 - 2 * weight r)) (upper (digits r) * upper (digits r))
  unfolding nearest
  lies_beside h = aligned _ (16 * digits x) _ (2 * weight r) (weight x + 150) h

  pub lies_above : 2 * weight r ≤ weight x + 150 → 64 ≤ weight x + 150 - 2 * weight r → nearest x r ≡ false
  unfolding upper
  lies_above h far =
      let b : (4 * digits r + 2) * (4 * digits r + 2) < 2 ^ 64 = square_fits (4 * digits r + 2) (omega (arith, digits_below r)) in
      lies_beside h ∙ too_high _ (16 * digits x) (weight x + 150 - 2 * weight r) (upper (digits r) * upper (digits r)) far (omega (arith, digits_above x p.above)) (omega arith)
