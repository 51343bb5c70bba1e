-- What becomes of a sum when every term changes its sign: from +0 on, two sums that run side by side are both +0, or neither is zero and they differ in the sign
-- alone. So a sum from +0 on is never -0. Assumes nothing.
use Rattle.std.proofs.Common.{◌≡◌, ℕ, zero, suc, ◌+◌, ◌-◌, ◌*◌, ◌^◌, ◌<◌, ◌≤◌, Bool, true, false, cond, not, ◌&&◌, ◌||◌, T, eqb, ltb, ◌⊎◌, ℤ, sym, refl, ap, ◌∙◌, subst, ap₂, inl, inr, ⊎_elim, mul-le-mul_right, mul_assoc, mul_comm, add-mul, eq-zero-or-pos, lt_of_mul-lt-mul_right, mul-lt-mul_of_pos_right, mul-pos, zero-add, zero-mul, mul-one, mul_right_comm, arith, ltb→lt, pow_pos, ltb-false, ltb-true, le-ltb, lt-ltb, ne_eqb}
use mathlib.Core.Bool.{beq}
use native.Mathlib.Nat.{mul-sub, sub-zero}
use native.Mathlib.Decide.{dec_lt}
use lib.Ieee.{Float, nan, inf, fin, Format, binary32, fits, up, down, odd, units, round, sum, add, neg, eq}
use lib.Ieee.Exact.{HasValue}
use lib.Ieee.Fits.{down_pos, up_pos}
use lib.Ieee.Order.{round_mono}
use lib.Ieee.Positive.{above, above_of_le, first_pos}
use lib.Ieee.Scale.{round_same, finite}
use Rattle.numbers.specs.Binary32 as Binary32
use Rattle.numbers.specs.Binary32.{◌⊕◌, ◌⊗◌}
use Rattle.numbers.proofs.Nearest.{exponent, held}
use Rattle.numbers.proofs.Negation.{round_neg, square_neg}

-- ---- a sum of fractions, in whole units of 2 ^ -149

abbrev L : ℕ
L = 2 ^ 149

value : (x : Float) → T (fits binary32 x) → T (finite x) → (s : Bool) × (X : ℕ) × HasValue x s X L
value nan h t = absurd t
value (inf s) h t = absurd t
value (fin s zero e) h t = (s, 0, (refl, simp zero-mul))
value (fin s (suc m) e) h t = let v = exponent s (suc m) e (held s m e h).fine in (s, suc m * 2 ^ v.0, v.1)

ltb_same : (a b x y : ℕ) → (a < b → x < y) → (x < y → a < b) → ltb a b ≡ ltb x y
ltb_same a b x y f g = go (dec_lt a b)
  where
    go : Dec (a < b) → ltb a b ≡ ltb x y
    go (yes h) = lt-ltb a b h ∙ sym (lt-ltb x y (f h))
    go (no n) = le-ltb a b (not_lt n) ∙ sym (le-ltb x y (not_lt (λ (h : x < y). n (g h))))
      where
        not_lt : {p q : ℕ} → (p < q → ⊥) → q ≤ p
        not_lt {p} {q} n = omega arith

crossed_sub : (a b c x y l : ℕ) → a * l ≡ x * c → b * l ≡ y * c → (a - b) * l ≡ (x - y) * c
crossed_sub a b c x y l h k =
    mul_comm (a - b) l ∙ mul-sub l a b ∙ ap₂ ◌-◌ (mul_comm l a ∙ h ∙ mul_comm x c) (mul_comm l b ∙ k ∙ mul_comm y c) ∙ sym (mul_comm (x - y) c ∙ mul-sub c x y)

order_same : (a b c x y l : ℕ) → 0 < c → 0 < l → a * l ≡ x * c → b * l ≡ y * c → ltb a b ≡ ltb x y
order_same a b c x y l C P h k =
    ltb_same a b x y
    (λ (g : a < b). lt_of_mul-lt-mul_right c (subst (λ (z : ℕ). z < y * c) h (subst (λ (z : ℕ). a * l < z) k (mul-lt-mul_of_pos_right g P))))
    (λ (g : x < y). lt_of_mul-lt-mul_right l (subst (λ (z : ℕ). z < b * l) (sym h) (subst (λ (z : ℕ). x * c < z) (sym k) (mul-lt-mul_of_pos_right g C))))

sum_same : (f : Format) (s t : Bool) (a b c x y l : ℕ) → 0 < c → 0 < l → a * l ≡ x * c → b * l ≡ y * c → sum f s a t b c ≡ sum f s x t y l
unfolding sum
sum_same f s t a b c x y l C P h k =
    let both : round f s (a + b) c ≡ round f s (x + y) l = round_same f s (a + b) c (x + y) l C P (add-mul a b l ∙ ap₂ ◌+◌ h k ∙ sym (add-mul x y c)) in
    let less : round f t (b - a) c ≡ round f t (y - x) l = round_same f t (b - a) c (y - x) l C P (crossed_sub b a c y x l k h) in
    let more : (u : Bool) → round f u (a - b) c ≡ round f u (x - y) l = (λ u. round_same f u (a - b) c (x - y) l C P (crossed_sub a b c x y l h k)) in
    rw (order_same a b c x y l C P h k, order_same b a c y x l C P k h, both, less) (ap (λ (z : Float). cond (beq s t) (round f s (x + y) l) (cond (ltb x y) (round f t (y - x) l) z)) (more (s && ltb y x)))

add_sum : (x y : Float) (s t : Bool) (X Y : ℕ) → HasValue x s X L → HasValue y t Y L → add binary32 x y ≡ sum binary32 s X t Y L
unfolding add
add_sum nan y s t X Y h k = absurd h
add_sum (inf p) y s t X Y h k = absurd h
add_sum (fin p m e) nan s t X Y h k = absurd k
add_sum (fin p m e) (inf q) s t X Y h k = absurd k
add_sum (fin p m e) (fin q n d) s t X Y h k =
    ap₂ (λ (a b : Bool). sum binary32 a (m * up e * down d) b (n * up d * down e) (down e * down d)) h.0 k.0
    ∙ sum_same binary32 s t (m * up e * down d) (n * up d * down e) (down e * down d) X Y L (mul-pos (down_pos e) (down_pos d)) (pow_pos 149)
    (mul_right_comm (m * up e) (down d) L ∙ ap (λ (z : ℕ). z * down d) h.1 ∙ mul_assoc X (down e) (down d))
    (mul_right_comm (n * up d) (down e) L ∙ ap (λ (z : ℕ). z * down e) k.1 ∙ mul_assoc Y (down d) (down e) ∙ ap (λ (z : ℕ). Y * z) (mul_comm (down d) (down e)))

-- ---- not zero

abbrev pub nonzero : Float → Bool
nonzero nan = true
nonzero (inf s) = true
nonzero (fin s m e) = ltb 0 m

neg_nonzero : (x : Float) → T (nonzero x) → T (nonzero (neg x))
unfolding neg
neg_nonzero nan h = tt
neg_nonzero (inf s) h = tt
neg_nonzero (fin s m e) h = h

above_nonzero : (x : Float) → T (above x) → T (nonzero x)
above_nonzero nan h = tt
above_nonzero (inf s) h = tt
above_nonzero (fin true m e) h = absurd h
above_nonzero (fin false m e) h = h

-- a unit or more does not round to 0
plus_nonzero : (n : ℕ) → 0 < n → T (nonzero (round binary32 false n L))
unfolding round units odd
plus_nonzero n p =
    above_nonzero (round binary32 false n L)
    (above_of_le (round binary32 false 1 L) (round binary32 false n L) tt (round_mono binary32 1 L n L (pow_pos 149) (pow_pos 149) (mul-le-mul_right L p)))

round_nonzero : (s : Bool) (n : ℕ) → 0 < n → T (nonzero (round binary32 s n L))
round_nonzero false n p = plus_nonzero n p
round_nonzero true n p = subst (λ (z : Float). T (nonzero z)) (sym (round_neg binary32 false n L)) (neg_nonzero (round binary32 false n L) (plus_nonzero n p))

pub round_zero : (c : ℕ) → 0 < c → round binary32 false 0 c ≡ Binary32.zero
unfolding round units odd
round_zero c C = round_same binary32 false 0 c 0 1 C (omega arith) (simp zero-mul)

-- ---- two sums side by side

-- a and b are both +0, or a isn't zero and b is a with the other sign
abbrev pub Mirrored : Float → Float → Type 0
Mirrored a b = ((a ≡ Binary32.zero) × (b ≡ Binary32.zero)) ⊎ (T (nonzero a) × (b ≡ neg a))

turned : (s : Bool) (n : ℕ) → 0 < n → Mirrored (round binary32 s n L) (round binary32 (not s) n L)
turned s n p = inr (round_nonzero s n p, round_neg binary32 s n L)

nothing : (n : ℕ) → n ≡ 0 → round binary32 false n L ≡ Binary32.zero
nothing n e = rw e (round_zero L (pow_pos 149))

-- the difference of X and Y, from the larger
apart : (s : Bool) (X Y : ℕ) → Mirrored
    (cond (ltb X Y) (round binary32 (not s) (Y - X) L) (round binary32 (s && ltb Y X) (X - Y) L))
    (cond (ltb X Y) (round binary32 s (Y - X) L) (round binary32 (not s && ltb Y X) (X - Y) L))
apart s X Y = go s (ltb X Y) refl (ltb Y X) refl
  where
    go : (s a : Bool) → ltb X Y ≡ a → (b : Bool) → ltb Y X ≡ b → Mirrored
        (cond a (round binary32 (not s) (Y - X) L) (round binary32 (s && b) (X - Y) L))
        (cond a (round binary32 s (Y - X) L) (round binary32 (not s && b) (X - Y) L))
    go true true e b f = turned false (Y - X) (let l = ltb-true X Y e in omega arith)
    go false true e b f = turned true (Y - X) (let l = ltb-true X Y e in omega arith)
    go true false e true f = turned true (X - Y) (let l = ltb-true Y X f in omega arith)
    go false false e true f = turned false (X - Y) (let l = ltb-true Y X f in omega arith)
    go true false e false f = let z : X - Y ≡ 0 = (let l = ltb-false Y X f in omega arith) in inl (nothing (X - Y) z, nothing (X - Y) z)
    go false false e false f = let z : X - Y ≡ 0 = (let l = ltb-false Y X f in omega arith) in inl (nothing (X - Y) z, nothing (X - Y) z)

sum_on : (s t : Bool) (X Y : ℕ) → 0 < X → Mirrored (sum binary32 s X t Y L) (sum binary32 (not s) X (not t) Y L)
unfolding sum
sum_on true true X Y p = turned true (X + Y) (omega arith)
sum_on true false X Y p = apart true X Y
sum_on false true X Y p = apart false X Y
sum_on false false X Y p = turned false (X + Y) (omega arith)

from_none : (Y : ℕ) → sum binary32 false 0 false Y L ≡ round binary32 false Y L
unfolding sum
from_none Y = ap (λ (z : ℕ). round binary32 false z L) (zero-add Y)

to_none : (Y : ℕ) → 0 < Y → sum binary32 false 0 true Y L ≡ round binary32 true Y L
unfolding sum
to_none Y p =
    ap (λ (b : Bool). cond b (round binary32 true (Y - 0) L) (round binary32 (false && ltb Y 0) (0 - Y) L)) (lt-ltb 0 Y p)
    ∙ ap (λ (z : ℕ). round binary32 true z L) (sub-zero Y)

no_sum : (t : Bool) → sum binary32 false 0 t 0 L ≡ Binary32.zero
unfolding sum
no_sum true = refl
no_sum false = refl

sum_start : (t : Bool) (Y : ℕ) → Mirrored (sum binary32 false 0 t Y L) (sum binary32 false 0 (not t) Y L)
sum_start t Y = ⊎_elim (none t) (some t) (eq-zero-or-pos Y)
  where
    none : (t : Bool) → Y ≡ 0 → Mirrored (sum binary32 false 0 t Y L) (sum binary32 false 0 (not t) Y L)
    none t e = inl (ap (λ (z : ℕ). sum binary32 false 0 t z L) e ∙ no_sum t, ap (λ (z : ℕ). sum binary32 false 0 (not t) z L) e ∙ no_sum (not t))

    some : (t : Bool) → 0 < Y → Mirrored (sum binary32 false 0 t Y L) (sum binary32 false 0 (not t) Y L)
    some true p = rw (to_none Y p, from_none Y) (turned true Y p)
    some false p = rw (from_none Y, to_none Y p) (turned false Y p)

-- ---- one term more

neg_value : (x : Float) (s : Bool) (X : ℕ) → HasValue x s X L → HasValue (neg x) (not s) X L
unfolding neg
neg_value nan s X h = absurd h
neg_value (inf t) s X h = absurd h
neg_value (fin t m e) s X h = (ap not h.0, h.1)

value_pos : (s : Bool) (m : ℕ) (e : ℤ) (t : Bool) (X : ℕ) → HasValue (fin s m e) t X L → T (ltb 0 m) → 0 < X
value_pos s m e t X h p = first_pos X (down e) (subst (λ (z : ℕ). 0 < z) h.1 (mul-pos (mul-pos (ltb→lt 0 m p) (up_pos e)) (pow_pos 149)))

choice_turns : (s t : Bool) → Mirrored (cond (beq s t) (inf s) nan) (cond (beq (not s) (not t)) (inf (not s)) nan)
unfolding neg
choice_turns true true = inr (tt, refl)
choice_turns true false = inr (tt, refl)
choice_turns false true = inr (tt, refl)
choice_turns false false = inr (tt, refl)

start_on : (n : Float) → T (fits binary32 n) → Mirrored (Binary32.zero ⊕ n) (Binary32.zero ⊕ neg n)
unfolding add neg
start_on nan f = inr (tt, refl)
start_on (inf t) f = inr (tt, refl)
start_on (fin t m e) f =
    let v = value (fin t m e) f tt in
    let z : HasValue Binary32.zero false 0 L = (refl, refl) in
    rw (add_sum Binary32.zero (fin t m e) false v.0 0 v.1 z v.2, add_sum Binary32.zero (fin (not t) m e) false (not v.0) 0 v.1 z (neg_value (fin t m e) v.0 v.1 v.2))
    (sum_start v.0 v.1)

turned_on : (a n : Float) → T (fits binary32 a) → T (fits binary32 n) → T (nonzero a) → Mirrored (a ⊕ n) (neg a ⊕ neg n)
unfolding add neg
turned_on nan n g f p = inr (tt, refl)
turned_on (inf s) nan g f p = inr (tt, refl)
turned_on (inf s) (inf t) g f p = choice_turns s t
turned_on (inf s) (fin t k d) g f p = inr (tt, refl)
turned_on (fin s m e) nan g f p = inr (tt, refl)
turned_on (fin s m e) (inf t) g f p = inr (tt, refl)
turned_on (fin s m e) (fin t k d) g f p =
    let u = value (fin s m e) g tt in
    let v = value (fin t k d) f tt in
    rw (
      add_sum (fin s m e) (fin t k d) u.0 v.0 u.1 v.1 u.2 v.2,
      add_sum (fin (not s) m e) (fin (not t) k d) (not u.0) (not v.0) u.1 v.1 (neg_value (fin s m e) u.0 u.1 u.2) (neg_value (fin t k d) v.0 v.1 v.2),
    )
    (sum_on u.0 v.0 u.1 v.1 (value_pos s m e u.0 u.1 u.2 p))

pub mirrored_on : (a b n : Float) → T (fits binary32 a) → T (fits binary32 n) → Mirrored a b → Mirrored (a ⊕ n) (b ⊕ neg n)
mirrored_on a b n g f = ⊎_elim
    (λ (h : (a ≡ Binary32.zero) × (b ≡ Binary32.zero)). rw (h.0, h.1) (start_on n f))
    (λ (h : T (nonzero a) × (b ≡ neg a)). rw h.1 (turned_on a n g f h.0))

-- ---- what is made of two such sums

pub square_same : (a b : Float) → Mirrored a b → b ⊗ b ≡ a ⊗ a
square_same a b = ⊎_elim
    (λ (h : (a ≡ Binary32.zero) × (b ≡ Binary32.zero)). ap₂ ◌⊗◌ h.1 h.1 ∙ sym (ap₂ ◌⊗◌ h.0 h.0))
    (λ (h : T (nonzero a) × (b ≡ neg a)). ap₂ ◌⊗◌ h.1 h.1 ∙ square_neg binary32 a)

pub nonzero_differs : (a : Float) → T (nonzero a) → eq a Binary32.zero ≡ false
unfolding eq
nonzero_differs nan h = refl
nonzero_differs (inf s) h = refl
nonzero_differs (fin s m e) h =
    ap (λ (b : Bool). b && (beq s false || eqb (m * up e * 1) 0))
    (ne_eqb (m * up e * 1) (0 * down e)
    (λ (p : m * up e * 1 ≡ 0 * down e). never (mul-pos (ltb→lt 0 m h) (up_pos e)) (sym (mul-one (m * up e)) ∙ p ∙ zero-mul (down e))))
  where
    never : {n : ℕ} → 0 < n → n ≡ 0 → ⊥
    never p e = omega arith
