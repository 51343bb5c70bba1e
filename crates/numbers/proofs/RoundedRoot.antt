-- `rounded_root binary32` at a fraction that is r * 4 ^ h units of the square of the smallest value, r having 49 or 50 digits and being even: the 25 digits of
-- r's root are rounded to 24 by the last of them, and stand h + 1 places up. Assumes nothing.
use Rattle.std.proofs.Common.{◌≡◌, ℕ, zero, suc, ◌+◌, ◌-◌, ◌*◌, ◌/◌, ◌%◌, ◌^◌, ◌<◌, ◌≤◌, Bool, true, false, cond, not, T, ltb, ◌⊎◌, refl, ap, ◌∙◌, subst, inl, inr, ⊎_elim, le_trans, lt_of_lt_of_le, lt_of_le_of_lt, lt_irrefl, mul-le-mul_right, mod-lt, zero-lt-suc, mul_assoc, mul_comm, add-mul, le_antisymm, lt_of_mul-lt-mul_right, suc-add, mul-lt-mul_of_pos_right, mul-pos, one-mul, pow-suc, lt_of_not-le, mul-one, mul-add, div-mul-le_self, mul-div_cancel, mul_left_comm, arith, eqb→eq, ltb→lt, leb→le, pow_pos, pow_mono, pow-add}
use Prim.Native.Nat.{compare, Ordering}
use native.Mathlib.Nat.{div-div-eq-div-mul}
use lib.Dec.{is_le, compare_is_eq, nleb→lt}
use lib.Ieee.{inf, binary32, size, nearest, odd, units, fits}
use lib.Ieee.Digits.{size-lt, size-le}
use lib.Ieee.Fits.{nearest-le, odd-fits, inf-fits}
use lib.Ieee.Nearest.{div_same}
use Rattle.numbers.specs.Root.{whole_root, root_to, rounded_root}
use Rattle.numbers.proofs.WholeRoot.{WholeRoot, whole_root_lem, whole_root_unique, square_lt, square_le, square_double, four_power}

-- ---- which way `nearest` goes

nearest_down : (q a b : ℕ) → a < b → nearest q (compare a b) ≡ q
nearest_down q a b h = go (compare a b) (eqb→eq a b) (nleb→lt a b)
  where
    go : (o : Ordering) → (T (compare_is_eq o) → a ≡ b) → (T (not (is_le o)) → b < a) → nearest q o ≡ q
    go Ordering.lt e g = refl
    go Ordering.eq e g = let x = e tt in absurd (omega arith)
    go Ordering.gt e g = let x = g tt in absurd (omega arith)

nearest_up : (q a b : ℕ) → b < a → nearest q (compare a b) ≡ suc q
nearest_up q a b h = go (compare a b) (leb→le a b)
  where
    go : (o : Ordering) → (T (is_le o) → a ≤ b) → nearest q o ≡ suc q
    go Ordering.lt e = let x = e tt in absurd (omega arith)
    go Ordering.eq e = let x = e tt in absurd (omega arith)
    go Ordering.gt e = refl

-- ---- odd and even

pub parity : (n : ℕ) → (n % 2 ≡ 0) ⊎ (n % 2 ≡ 1)
parity n = go (n % 2) (mod-lt n (zero-lt-suc 1))
  where
    go : (m : ℕ) → m < 2 → (m ≡ 0) ⊎ (m ≡ 1)
    go zero h = inl refl
    go (suc zero) h = inr refl
    go (suc (suc m)) h = absurd (omega arith)

pub odd_square : (t : ℕ) → (2 * t + 1) * (2 * t + 1) ≡ 4 * (t * t) + 4 * t + 1
odd_square t = simp (add-mul, mul-add, mul-one, one-mul, square_double) (omega arith)

-- The rounding: w is r's root, w / 2 has its last digit dropped, and that digit decides. There is no tie, since r is even and the square of an odd number is not.
abbrev middle : ℕ → ℕ
middle w = (2 * (w / 2) + 1) * (2 * (w / 2) + 1)

module _ (r w u : ℕ) (pos : 0 < u) (root : WholeRoot r w) (even : r % 2 ≡ 0) where
  rounded_down : w % 2 ≡ 0 → nearest (w / 2) (compare (r * u) (middle w * u)) ≡ (w + 1) / 2
  rounded_down e =
      let d : 2 * (w / 2) + 1 ≡ w + 1 = omega arith in
      nearest_down (w / 2) (r * u) (middle w * u) (mul-lt-mul_of_pos_right (rw d root.above) pos) ∙ omega arith

  rounded_up : w % 2 ≡ 1 → nearest (w / 2) (compare (r * u) (middle w * u)) ≡ (w + 1) / 2
  rounded_up e =
      let d : 2 * (w / 2) + 1 ≡ w = omega arith in
      let s : middle w ≤ r = rw d root.below in
      let l : middle w < r = omega (arith, odd_square (w / 2)) in
      nearest_up (w / 2) (r * u) (middle w * u) (mul-lt-mul_of_pos_right l pos) ∙ omega arith

  rounded : nearest (w / 2) (compare (r * u) (middle w * u)) ≡ (w + 1) / 2
  rounded = ⊎_elim rounded_down rounded_up (parity w)

-- ---- digits

pub four_pos : (h : ℕ) → 0 < 4 ^ h
four_pos h = rw four_power (mul-pos (pow_pos h) (pow_pos h))

-- a number from 2 ^ k up and below 2 ^ (k + 1) has k + 1 digits
pub size_is : (n k : ℕ) → 2 ^ k ≤ n → n < 2 ^ suc k → size n ≡ suc k
size_is n k low high = le_antisymm (size-le n (suc k) high) (lt_of_not-le λ g. lt_irrefl n (lt_of_lt_of_le (lt_of_lt_of_le (size-lt n) (pow_mono g)) low))

square_power : (k h : ℕ) → 2 ^ (k + h) * 2 ^ (k + h) ≡ 2 ^ k * 2 ^ k * 4 ^ h
square_power k h = simp (pow-add, four_power, mul_assoc, mul_left_comm)

-- the root of r has 25 digits, and that of r * 4 ^ h has h more
module _ (r h : ℕ) (long : 2 ^ 48 ≤ r) (short : r < 2 ^ 50) where
  root_from : 2 ^ (24 + h) ≤ whole_root (r * 4 ^ h)
  root_from =
      let s : 2 ^ (24 + h) * 2 ^ (24 + h) ≤ r * 4 ^ h = rw square_power (mul-le-mul_right (4 ^ h) long) in
      let l : 2 ^ (24 + h) < whole_root (r * 4 ^ h) + 1 = square_lt (lt_of_le_of_lt s (whole_root_lem (r * 4 ^ h)).above) in
      omega arith

  root_below : whole_root (r * 4 ^ h) < 2 ^ suc (24 + h)
  root_below =
      let s : r * 4 ^ h < 2 ^ (25 + h) * 2 ^ (25 + h) = rw square_power (mul-lt-mul_of_pos_right short (four_pos h)) in
      rw (← suc-add 24 h) (square_lt (lt_of_le_of_lt (whole_root_lem (r * 4 ^ h)).below s))

  root_size : size (whole_root (r * 4 ^ h)) - 24 ≡ suc h
  root_size = rw (size_is (whole_root (r * 4 ^ h)) (24 + h) root_from root_below) (omega arith)

-- rounded to 24 digits it has 24, or is 2 ^ 24
pub rounded_to : {r : ℕ} → r < 2 ^ 50 → (whole_root r + 1) / 2 ≤ 2 ^ 24
rounded_to {r} short = let h : whole_root r < 2 ^ 25 = square_lt (lt_of_le_of_lt (whole_root_lem r).below short) in omega arith

module _ (r : ℕ) (long : 2 ^ 48 ≤ r) (short : r < 2 ^ 50) where
  pub root_long : 2 ^ 24 ≤ whole_root r
  root_long = subst (λ (n : ℕ). 2 ^ 24 ≤ whole_root n) (mul-one r) (root_from r 0 long short)

  pub rounded_from : 2 ^ 23 ≤ (whole_root r + 1) / 2
  rounded_from = omega (arith, root_long)

-- half of a root is the root of a quarter
half_root : (r q : ℕ) → WholeRoot r q → WholeRoot (r / 4) (q / 2)
half_root r q w =
    let t = q / 2 in
    let low : 2 * t * (2 * t) ≤ q * q = square_le (omega arith) in
    let high : (q + 1) * (q + 1) ≤ 2 * (t + 1) * (2 * (t + 1)) = square_le (omega arith) in
    record {
      below = omega (arith, square_double t, w.below);
      above = omega (arith, square_double (t + 1), w.above);
    }

root_to_lem : (den r h : ℕ) → 0 < den → r % 2 ≡ 0 → root_to binary32 (r * 4 ^ h * den) den (suc h) ≡ units binary32 false ((whole_root r + 1) / 2) (suc h)
unfolding root_to
root_to_lem den r h pos even =
    let w = whole_root r in
    let u = den * 4 ^ suc h in
    let up : 0 < u = mul-pos pos (four_pos (suc h)) in
    let four : 4 * (r * 4 ^ h * den) ≡ r * u = simp (pow-suc, mul_assoc, mul_comm, mul_left_comm) in
    let quarter : r * 4 ^ h * den / u ≡ r / 4 = div_same (r * 4 ^ h * den) u r 4 up (zero-lt-suc 3) (mul_comm (r * 4 ^ h * den) 4 ∙ four) in
    let q : whole_root (r * 4 ^ h * den / u) ≡ w / 2 = ap whole_root quarter ∙ whole_root_unique (whole_root_lem (r / 4)) (half_root r w (whole_root_lem r)) in
    rw (q, four) (ap (λ (s : ℕ). units binary32 false s (suc h)) (rounded r w u up (whole_root_lem r) even))

pub rounded_at : (num den r h : ℕ) → 0 < den → num * 4 ^ 149 ≡ r * 4 ^ h * den → 2 ^ 48 ≤ r → r < 2 ^ 50 → r % 2 ≡ 0
    → rounded_root binary32 num den ≡ units binary32 false ((whole_root r + 1) / 2) (suc h)
unfolding rounded_root
rounded_at num den r h pos exact long short even =
    ap (λ (n : ℕ). root_to binary32 n den (size (whole_root (n / den)) - 24)) exact
    ∙ ap (λ (x : ℕ). root_to binary32 (r * 4 ^ h * den) den (size (whole_root x) - 24)) (mul-div_cancel (r * 4 ^ h) pos)
    ∙ ap (root_to binary32 (r * 4 ^ h * den) den) (root_size r h long short)
    ∙ root_to_lem den r h pos even

-- ---- the result is a binary32 value

-- with the k digits dropped that make a root of more than 24 digits too long, the whole part has at most 24
kept_short : (n k : ℕ) → whole_root n < 2 ^ (24 + k) → whole_root (n / 4 ^ k) < 2 ^ 24
kept_short n k h =
    let q = whole_root (n / 4 ^ k) in
    let w = whole_root n in
    let square : q * 2 ^ k * (q * 2 ^ k) ≡ q * q * 4 ^ k = simp (four_power, mul_assoc, mul_comm, mul_left_comm) in
    let at_most : q * q * 4 ^ k ≤ n = le_trans (mul-le-mul_right (4 ^ k) (whole_root_lem (n / 4 ^ k)).below) (div-mul-le_self n (4 ^ k)) in
    let l : q * 2 ^ k < w + 1 = square_lt (lt_of_le_of_lt (rw square at_most) (whole_root_lem n).above) in
    let m : q * 2 ^ k < 2 ^ 24 * 2 ^ k = rw (← pow-add 2 24 k) (omega arith) in
    lt_of_mul-lt-mul_right (2 ^ k) m

units_fit : (q k : ℕ) → q ≤ 2 ^ 24 → T (fits binary32 (units binary32 false q k))
unfolding units
units_fit q k h = go (ltb (q * 2 ^ k) (2 ^ 277)) (ltb→lt (q * 2 ^ k) (2 ^ 277))
  where
    go : (b : Bool) → (T b → q * 2 ^ k < 2 ^ 277) → T (fits binary32 (cond b (odd 25 false q k 149) (inf false)))
    go true small = odd-fits binary32 25 false q k (omega arith) h (small tt)
    go false small = inf-fits binary32 false

root_to_fits : (n den k : ℕ) → whole_root (n / (den * 4 ^ k)) < 2 ^ 24 → T (fits binary32 (root_to binary32 n den k))
unfolding root_to
root_to_fits n den k short =
    let u = den * 4 ^ k in
    let q = whole_root (n / u) in
    let o = compare (4 * n) ((2 * q + 1) * (2 * q + 1) * u) in
    units_fit (nearest q o) k (le_trans (nearest-le q o) short)

pub rounded_fits : (num den : ℕ) → T (fits binary32 (rounded_root binary32 num den))
unfolding rounded_root
rounded_fits num den =
    let n = num * 4 ^ 149 in
    let k = size (whole_root (n / den)) - 24 in
    let long : whole_root (n / den) < 2 ^ (24 + k) = lt_of_lt_of_le (size-lt (whole_root (n / den))) (pow_mono (omega arith)) in
    let short : whole_root (n / (den * 4 ^ k)) < 2 ^ 24 = subst (λ (x : ℕ). whole_root x < 2 ^ 24) (div-div-eq-div-mul n den (4 ^ k)) (kept_short (n / den) k long) in
    root_to_fits n den k short
