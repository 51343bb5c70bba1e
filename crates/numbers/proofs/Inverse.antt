-- Squares added up, as a dot product does, and one over the root of that: where no component is above 2 ^ 58 the dot product doesn't overflow, and where it isn't
-- zero its inverse root is a number that isn't negative, since no root is below the normal range. Assumes nothing.
use Rattle.std.proofs.Common.{◌≡◌, ℕ, zero, suc, ◌+◌, ◌*◌, ◌^◌, ◌<◌, ◌≤◌, Bool, true, false, cond, not, T, ltb, sym, refl, ap, ◌∙◌, subst, ap₂, true≢false, le_trans, le_of_eq, lt_of_le_of_lt, mul-le-mul_right, zero-lt-suc, mul_assoc, suc-mul, mul_comm, add-mul, mul-pos, one-mul, mul-zero, zero-mul, mul-one, arith, lit<, leb→le, pow_pos, ne_eqb}
use native.Mathlib.Nat.{le_of_mul-le-mul_left}
use lib.Ieee.{Float, nan, inf, fin, binary32, fits, unlike, up, down, level, round, units, odd, sum, add, mul, div, eq, is_nan}
use lib.Ieee.Exact.{HasValue}
use lib.Ieee.Fits.{down_pos, up_pos, round_is, add-fits, mul-fits}
use lib.Ieee.Order.{drop, kept}
use Rattle.numbers.specs.Binary32 as Binary32
use Rattle.numbers.specs.Binary32.{◌⊕◌, ◌⊗◌, ◌⊘◌, one}
use Rattle.numbers.specs.Root.{root}
use Rattle.numbers.proofs.Small.{Small, Plain, Cap, cap_shifted, round_plain, small_round, small_add, small_mul}
use Rattle.numbers.proofs.Mirror.{round_zero}
use Rattle.numbers.proofs.Nearest.{s, unit, root_value, root_normal}

-- a number that isn't negative, by its sign
abbrev pub Plus : Float → Type 0
Plus nan = ⊥
Plus (inf s) = ⊥
Plus (fin s m e) = s ≡ false

plus_of : (B : ℕ) (x : Float) → Small B x → Plain x → Plus x
plus_of B nan h p = h
plus_of B (inf s) h p = h
plus_of B (fin s m e) h p = p

-- times +0
pub plus_zero : (x : Float) → Plus x → x ⊗ Binary32.zero ≡ Binary32.zero
unfolding mul
plus_zero nan p = absurd p
plus_zero (inf s) p = absurd p
plus_zero (fin true m e) p = absurd (true≢false p)
plus_zero (fin false m e) p =
    ap (λ (n : ℕ). round binary32 false n (down e * 1)) (nought (m * up e)) ∙ round_zero (down e * 1) (mul-pos (down_pos e) (zero-lt-suc 0))
  where
    nought : (a : ℕ) → a * (0 * 1) ≡ 0
    nought a = mul-zero a

-- times a number
units_number : (s : Bool) (q k : ℕ) → T (not (is_nan (units binary32 s q k)))
unfolding units odd is_nan
units_number s q k = go (ltb (q * 2 ^ k) (2 ^ 277))
  where
    odd_number : (q : ℕ) → T (not (is_nan (odd 25 s q k 149)))
    odd_number zero = tt
    odd_number (suc q) = tt

    go : (b : Bool) → T (not (is_nan (cond b (odd 25 s q k 149) (inf s))))
    go true = odd_number q
    go false = tt

pub product_number : (x y : Float) (B : ℕ) → Plus x → Small B y → T (not (is_nan (x ⊗ y)))
unfolding mul
product_number nan y B p h = absurd p
product_number (inf s) y B p h = absurd p
product_number (fin s m e) nan B p h = absurd h
product_number (fin s m e) (inf t) B p h = absurd h
product_number (fin s m e) (fin t n d) B p h =
    let a = m * up e * (n * up d) in
    let c = down e * down d in
    subst (λ (z : Float). T (not (is_nan z))) (sym (round_is binary32 (unlike s t) a c)) (units_number (unlike s t) (kept 24 (a * 2 ^ 149) c) (drop 24 (a * 2 ^ 149) c))

-- ---- the root

cap_inverse : Cap (2 ^ 126) (2 ^ 126)
unfolding round units odd
cap_inverse = (refl, refl)

low : (x d Q : ℕ) → x * 2 ^ 149 ≡ Q * d → 2 ^ 23 ≤ Q → d ≤ 2 ^ 126 * x
low x d Q e l =
    le_of_mul-le-mul_left {k = 2 ^ 23}
    (le_trans (mul-le-mul_right d l) (le_of_eq (sym e ∙ mul_comm x (2 ^ 149) ∙ mul_assoc (2 ^ 23) (2 ^ 126) x))) (pow_pos 23)

-- of a number of at least 2 ^ -126
over_normal : (y : Float) (Q : ℕ) → HasValue y false Q (2 ^ 149) → 2 ^ 23 ≤ Q → Plus (one ⊘ y)
unfolding div
over_normal nan Q h l = absurd h
over_normal (inf t) Q h l = absurd h
over_normal (fin true n d) Q h l = absurd (true≢false h.0)
over_normal (fin false zero d) Q h l =
    absurd (never (down d) (2 ^ 126 * (0 * up d)) (down_pos d) (low (0 * up d) (down d) Q h.1 l) (ap (λ (z : ℕ). 2 ^ 126 * z) (zero-mul (up d))))
  where
    never : (a b : ℕ) → 0 < a → a ≤ b → b ≡ 0 → ⊥
    never a b p q e = omega arith
over_normal (fin false (suc n) d) Q h l =
    let a = 1 * 1 * down d in
    let c = suc n * up d * 1 in
    let le : a ≤ 2 ^ 126 * c =
    le_trans (le_of_eq (one-mul (down d))) (le_trans (low (suc n * up d) (down d) Q h.1 l) (le_of_eq (ap (λ (z : ℕ). 2 ^ 126 * z) (sym (mul-one (suc n * up d)))))) in
    rw (ne_eqb (suc n) 0 (λ e. omega arith))
    (plus_of (2 ^ 126) (round binary32 false a c)
    (small_round false a c (2 ^ 126) (2 ^ 126) cap_inverse (mul-pos (mul-pos (zero-lt-suc n) (up_pos d)) (zero-lt-suc 0)) le)
    (round_plain a c))

inverse_plus : (d : Float) → T (fits binary32 d) → Plus d → eq d Binary32.zero ≡ false → Plus (one ⊘ root d)
unfolding eq
inverse_plus nan f p e = absurd p
inverse_plus (inf t) f p e = absurd p
inverse_plus (fin true m k) f p e = absurd (true≢false p)
inverse_plus (fin false zero k) f p e = absurd (true≢false (sym (ap₂ (λ (a b : ℕ). level false a false b) (ap (λ (z : ℕ). z * 1) (zero-mul (up k))) (zero-mul (down k))) ∙ e))
inverse_plus (fin false (suc m) k) f p e = over_normal (root (fin false (suc m) k)) (s m k f * unit m k f) (root_value m k f) (root_normal m k f)

-- ---- squares added up

-- 2 ^ 116: what a square is at most
abbrev S : ℕ
S = 4096 * 2 ^ 104

-- k squares
pub record Dot (k : ℕ) (d : Float) : Type 0 where
  pub small : Small (k * S) d
  pub plain : Plain d
  pub held : T (fits binary32 d)

square_plain : (x : Float) (B : ℕ) → Small B x → Plain (x ⊗ x)
unfolding mul
square_plain nan B h = absurd h
square_plain (inf s) B h = absurd h
square_plain (fin true m e) B h = round_plain (m * up e * (m * up e)) (down e * down e)
square_plain (fin false m e) B h = round_plain (m * up e * (m * up e)) (down e * down e)

sum_plain : (A B : ℕ) (x y : Float) → Small A x → Small B y → Plain x → Plain y → Plain (x ⊕ y)
unfolding add sum
sum_plain A B nan y h k p q = absurd h
sum_plain A B (inf s) y h k p q = absurd h
sum_plain A B (fin s m e) nan h k p q = absurd k
sum_plain A B (fin s m e) (inf t) h k p q = absurd k
sum_plain A B (fin true m e) (fin t n d) h k p q = absurd (true≢false p)
sum_plain A B (fin false m e) (fin true n d) h k p q = absurd (true≢false q)
sum_plain A B (fin false m e) (fin false n d) h k p q = round_plain (m * up e * down d + n * up d * down e) (down e * down d)

pub first_square : (x : Float) → Small (2 ^ 58) x → Dot 1 (x ⊗ x)
first_square x h =
    record {
      small = small_mul (2 ^ 58) (2 ^ 58) (1 * S) x x (cap_shifted 4096 104 (lit< tt) (leb→le 277 277 tt)) h h;
      plain = square_plain x (2 ^ 58) h;
      held = mul-fits binary32 x x;
    }

pub next_square : (k : ℕ) (d x : Float) → k < 4 → Dot k d → Small (2 ^ 58) x → Dot (suc k) (d ⊕ x ⊗ x)
next_square k d x few h s =
    let f = first_square x s in
    let e : k * S + 1 * S ≡ suc k * 4096 * 2 ^ 104 = one_more k 4096 (2 ^ 104) in
    let l : suc k * 4096 < 2 ^ 24 = lt_of_le_of_lt (mul-le-mul_right 4096 few) (lit< {m = 4 * 4096} {n = 2 ^ 24} tt) in
    record {
      small =
          subst (λ (b : ℕ). Small b (d ⊕ x ⊗ x)) (mul_assoc (suc k) 4096 (2 ^ 104))
          (small_add (k * S) (1 * S) (suc k * 4096 * 2 ^ 104) d (x ⊗ x)
          (subst (λ (b : ℕ). Cap b (suc k * 4096 * 2 ^ 104)) (sym e) (cap_shifted (suc k * 4096) 104 l (leb→le 277 277 tt))) h.small f.small);
      plain = sum_plain (k * S) (1 * S) d (x ⊗ x) h.small f.small h.plain f.plain;
      held = add-fits binary32 d (x ⊗ x);
    }
  where
    one_more : (k a b : ℕ) → k * (a * b) + 1 * (a * b) ≡ suc k * a * b
    one_more k a b = simp (suc-mul, mul_assoc, add-mul, one-mul) (omega arith)

pub dot_inverse : (k : ℕ) (d : Float) → Dot k d → eq d Binary32.zero ≡ false → Plus (one ⊘ root d)
dot_inverse k d h e = inverse_plus d h.held (plus_of (k * S) d h.small h.plain) e
