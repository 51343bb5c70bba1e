-- The whole part of a square root: `whole_root n` squared is at most n, and the next number squared is above it, and no other number is so. Nothing here is about
-- floats. Assumes nothing.
use Rattle.std.proofs.Common.{◌≡◌, ℕ, zero, suc, ◌+◌, ◌-◌, ◌*◌, ◌/◌, ◌^◌, ◌<◌, ◌≤◌, Bool, true, false, cond, not, ◌&&◌, T, ltb, leb, refl, subst, lt_of_lt_of_le, lt_of_le_of_lt, add-zero, mul_assoc, add-mul, mul-le-mul, le_antisymm, pow-suc, lt_of_not-le, mul-add, not-le_of_lt, le-mul_of_pos_right, mul_left_comm, arith, lit<, leb→le, pow_pos, ltb-true, leb-true}
use mathlib.Core.Bool.{and-eq-true_iff}
use lib.Dec.{nleb→lt}
use lib.Ieee.{size}
use lib.Ieee.Digits.{size-lt}
use Rattle.numbers.specs.Root.{root_digits, whole_root}

-- q is the whole part of the square root of n
pub record WholeRoot (n q : ℕ) : Type 0 where
  pub below : q * q ≤ n
  pub above : n < (q + 1) * (q + 1)

-- ---- squares keep the order

pub square_le : {a b : ℕ} → a ≤ b → a * a ≤ b * b
square_le h = mul-le-mul h h

pub square_lt : {a b : ℕ} → a * a < b * b → a < b
square_lt h = lt_of_not-le (λ g. not-le_of_lt h (square_le g))

pub whole_root_unique : {n p q : ℕ} → WholeRoot n p → WholeRoot n q → p ≡ q
whole_root_unique {n} {p} {q} v w = le_antisymm (no_more p q (lt_of_le_of_lt v.below w.above)) (no_more q p (lt_of_le_of_lt w.below v.above))
  where
    no_more : (a b : ℕ) → a * a < (b + 1) * (b + 1) → a ≤ b
    no_more a b h = let l : a < b + 1 = square_lt h in omega arith

-- ---- the digits

pub square_double : (r : ℕ) → 2 * r * (2 * r) ≡ 4 * (r * r)
square_double r = simp (mul_assoc, mul_left_comm) (omega arith)

pub four_power : (k : ℕ) → 4 ^ k ≡ 2 ^ k * 2 ^ k
four_power zero = refl
four_power (suc k) = simp (pow-suc, four_power k, mul_assoc, mul_left_comm) (omega arith)

digits_step : (n r : ℕ) → WholeRoot (n / 4) r → (b : Bool) → (T b → (2 * r + 1) * (2 * r + 1) ≤ n) → (T (not b) → n < (2 * r + 1) * (2 * r + 1)) → WholeRoot n (2 * r + cond b 1 0)
digits_step n r w true at_most less =
    let d : 2 * r + 1 + 1 ≡ 2 * (r + 1) = omega arith in
    let e : (2 * r + 1 + 1) * (2 * r + 1 + 1) ≡ 4 * ((r + 1) * (r + 1)) = rw d (square_double (r + 1)) in
    record { below = at_most tt; above = omega (arith, w.above) }
digits_step n r w false at_most less =
    let e = square_double r in
    record { below = rw add-zero (omega (arith, w.below)); above = rw add-zero (less tt) }

digits_are : (k n : ℕ) → n < 4 ^ k → WholeRoot n (root_digits k n)
unfolding root_digits
digits_are zero n h = record { below = omega arith; above = omega arith }
digits_are (suc k) n h =
    let r = root_digits k (n / 4) in
    let m = (2 * r + 1) * (2 * r + 1) in
    let l : n / 4 < 4 ^ k = omega (arith, pow-suc 4 k) in
    digits_step n r (digits_are k (n / 4) l) (leb m n) (leb→le m n) (nleb→lt m n)

pub whole_root_lem : (n : ℕ) → WholeRoot n (whole_root n)
unfolding whole_root
whole_root_lem n =
    digits_are (size n) n (rw four_power (lt_of_lt_of_le (size-lt n) (le-mul_of_pos_right (2 ^ size n) (pow_pos (size n)))))

-- ---- the root between two numbers, for a search that halves what is between them

pub record Between (n low high : ℕ) : Type 0 where
  pub below : low * low ≤ n
  pub above : n < high * high
  pub apart : low < high
  pub small : high ≤ 2 ^ 25

pub between_done : {n low high : ℕ} → Between n low high → high - low ≤ 1 → low ≡ whole_root n
between_done {n} {low} {high} b h =
    let next : high ≡ low + 1 = omega (arith, b.apart) in
    whole_root_unique (record { below = b.below; above = subst (λ (k : ℕ). n < k * k) next b.above }) (whole_root_lem n)

-- ---- half of the root, rounded by the root's last digit, is known by the squares of the odd numbers next to its double

-- the square of the odd number before 2 * q
abbrev pub under : ℕ → ℕ
under q = (2 * q - 1) * (2 * q - 1)

pub under_small : {q : ℕ} → q ≤ 2 ^ 24 → under q < 2 ^ 50
under_small {q} h =
    let l : 2 * q - 1 ≤ 0x01FF_FFFF = omega arith in
    lt_of_le_of_lt (square_le l) (lit< tt)

square_after : (d : ℕ) → (d + 2) * (d + 2) ≡ d * d + 4 * d + 4
square_after d = simp (add-mul, mul-add) (omega arith)

rounded_between : {n q : ℕ} → 0 < q → under q ≤ n → n < under q + 8 * q → (whole_root n + 1) / 2 ≡ q
rounded_between {n} {q} pos from to =
    let w = whole_root_lem n in
    let low : 2 * q - 1 < whole_root n + 1 = square_lt (lt_of_le_of_lt from w.above) in
    let high : whole_root n < 2 * q - 1 + 2 = square_lt (lt_of_le_of_lt w.below (rw square_after (omega arith))) in
    omega arith

-- the same, of the two comparisons
pub squares_decide : (n q : ℕ) → 0 < q → (leb (under q) n && ltb n (under q + 8 * q)) ≡ true → (whole_root n + 1) / 2 ≡ q
squares_decide n q pos both =
    let t = (and-eq-true_iff (leb (under q) n) (ltb n (under q + 8 * q))).0 both in
    rounded_between pos (leb-true _ _ t.0) (ltb-true _ _ t.1)
