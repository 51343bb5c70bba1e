-- How large the results of steps get: what is at most B rounds to at most what B rounds to. So smoothing takes no coordinate out of -1,024 to 1,024, and no
-- normal's sum overflows. Any value of the type Float is taken, whether binary32 holds it or not.
-- Assumes nothing.
use Rattle.std.proofs.Common.{◌≡◌, ℕ, zero, suc, ◌+◌, ◌-◌, ◌*◌, ◌^◌, ◌<◌, ◌≤◌, Bool, true, false, cond, ◌&&◌, ◌||◌, T, eqb, ltb, negsuc, sym, refl, ap, ◌∙◌, subst, zero-le, le_trans, le_of_eq, lt_of_lt_of_le, le_of_lt, add-le-add, mul-le-mul_right, zero-lt-suc, mul_assoc, suc-mul, mul_comm, add-mul, mul-le-mul, mul-le-mul_left, mul-pos, one-mul, zero-mul, mul-one, mul_right_comm, le_of_mul-le-mul_right, arith, lit<, eqb→eq, ltb→lt, leb→le, pow_pos, pow_mono, pow-add, shl_lt, ne_eqb}
use mathlib.Core.Bool.{beq}
use native.Mathlib.Nat.{mul-mul-mul_comm}
use native.Mathlib.Decide.{dec_lt}
use lib.Ieee.{Float, nan, inf, fin, binary32, unlike, up, down, odd, units, round, sum, add, sub, mul, div, neg, le, of_int}
use lib.Ieee.Exact.{HasValue, round_exact}
use lib.Ieee.Fits.{round_is, down_pos, up_pos, and_l}
use lib.Ieee.Order.{round_mono, kept, drop}
use Rattle.numbers.specs.Binary32.{◌⊕◌, ◌⊖◌, ◌⊗◌, ◌⊘◌, zero as nought, count}

-- a number of at most B, either sign
abbrev pub Small : ℕ → Float → Type 0
Small B nan = ⊥
Small B (inf s) = ⊥
Small B (fin s m e) = m * up e ≤ B * down e

-- ---- what rounds to no more than B

-- the whole number b rounds to B
abbrev pub Cap : ℕ → ℕ → Type 0
Cap b B = HasValue (round binary32 false b 1) false B 1

-- not negative, by its sign
abbrev pub Plain : Float → Type 0
Plain nan = ⊥
Plain (inf s) = s ≡ false
Plain (fin s m e) = s ≡ false

units_plain : (q k : ℕ) → Plain (units binary32 false q k)
unfolding units odd
units_plain q k = go (ltb (q * 2 ^ k) (2 ^ 277))
  where
    odd_plain : (q : ℕ) → Plain (odd 25 false q k 149)
    odd_plain zero = refl
    odd_plain (suc q) = refl

    go : (b : Bool) → Plain (cond b (odd 25 false q k 149) (inf false))
    go true = odd_plain q
    go false = refl

pub round_plain : (a c : ℕ) → Plain (round binary32 false a c)
round_plain a c = subst Plain (sym (round_is binary32 false a c)) (units_plain (kept 24 (a * 2 ^ 149) c) (drop 24 (a * 2 ^ 149) c))

units_sign : (s : Bool) (q k B : ℕ) → Small B (units binary32 false q k) → Small B (units binary32 s q k)
unfolding units odd
units_sign s q k B = go (ltb (q * 2 ^ k) (2 ^ 277))
  where
    signed : (q : ℕ) → Small B (odd 25 false q k 149) → Small B (odd 25 s q k 149)
    signed zero h = h
    signed (suc q) h = h

    go : (b : Bool) → Small B (cond b (odd 25 false q k 149) (inf false)) → Small B (cond b (odd 25 s q k 149) (inf s))
    go true h = signed q h
    go false h = h

round_sign : (s : Bool) (a c B : ℕ) → Small B (round binary32 false a c) → Small B (round binary32 s a c)
round_sign s a c B h =
    subst (Small B) (sym (round_is binary32 s a c))
    (units_sign s (kept 24 (a * 2 ^ 149) c) (drop 24 (a * 2 ^ 149) c) B (subst (Small B) (round_is binary32 false a c) h))

-- of the test of a comparison
pub least_or_equal : (a b : ℕ) (c : Bool) → T (ltb a b || (eqb a b && c)) → a ≤ b
least_or_equal a b c t = go (ltb a b) (ltb→lt a b) (λ s. eqb→eq a b (and_l (eqb a b) c s)) t
  where
    go : (p : Bool) → (T p → a < b) → (T (eqb a b && c) → a ≡ b) → T (p || (eqb a b && c)) → a ≤ b
    go true f g t = le_of_lt (f tt)
    go false f g t = le_of_eq (g t)

under : (x y : Float) (B : ℕ) → Plain x → T (le x y) → HasValue y false B 1 → Small B x
unfolding le
under nan y B p l h = absurd p
under (inf true) nan B p l h = absurd h
under (inf false) nan B p l h = absurd h
under (inf s) (inf t) B p l h = absurd h
under (inf true) (fin t n d) B p l h = let z : ◌≡◌ {A = ℕ} 0 1 = cc in absurd (omega arith)
under (inf false) (fin t n d) B p l h = absurd l
under (fin s m e) nan B p l h = absurd h
under (fin s m e) (inf t) B p l h = absurd h
under (fin true m e) (fin t n d) B p l h = let z : ◌≡◌ {A = ℕ} 0 1 = cc in absurd (omega arith)
under (fin false m e) (fin true n d) B p l h = let z : ◌≡◌ {A = ℕ} 0 1 = cc h.0 in absurd (omega arith)
under (fin false m e) (fin false n d) B p l h =
    let a : m * up e * down d ≤ n * up d * down e = least_or_equal (m * up e * down d) (n * up d * down e) _ l in
    let b : n * up d ≡ B * down d = sym (mul-one (n * up d)) ∙ h.1 in
    let c : n * up d * down e ≡ B * down e * down d = ap (λ (z : ℕ). z * down e) b ∙ mul_right_comm B (down d) (down e) in
    le_of_mul-le-mul_right {k = down d} (le_trans a (le_of_eq c)) (down_pos d)

-- a fraction of at most b rounds to at most what b rounds to
pub small_round : (s : Bool) (a c b B : ℕ) → Cap b B → 0 < c → a ≤ b * c → Small B (round binary32 s a c)
small_round s a c b B cap C l =
    round_sign s a c B
    (under (round binary32 false a c) (round binary32 false b 1) B (round_plain a c)
    (round_mono binary32 a c b 1 C (zero-lt-suc 0) (le_trans (le_of_eq (mul-one a)) l)) cap)

pub cap_whole : (B : ℕ) → B < 2 ^ 24 → Cap B B
cap_whole B l =
    let w : 173 ≤ 277 = leb→le 173 277 tt in
    round_exact binary32 false B 1 B 149 (zero-lt-suc 0) l (lt_of_lt_of_le (shl_lt 24 149 l) (pow_mono w)) (sym (mul-one (B * 2 ^ 149)))

-- q * 2 ^ j, q being of at most 24 digits
pub cap_shifted : (q j : ℕ) → q < 2 ^ 24 → 24 + (j + 149) ≤ 277 → Cap (q * 2 ^ j) (q * 2 ^ j)
cap_shifted q j l w =
    round_exact binary32 false (q * 2 ^ j) 1 q (j + 149) (zero-lt-suc 0) l (lt_of_lt_of_le (shl_lt 24 (j + 149) l) (pow_mono w))
    (mul_assoc q (2 ^ j) (2 ^ 149) ∙ ap (λ (z : ℕ). q * z) (sym (pow-add 2 j 149)) ∙ sym (mul-one (q * 2 ^ (j + 149))))

cap_times : (c : ℕ) → c < 2 ^ 24 → Cap (c * 1024) (c * 1024)
cap_times c l = cap_shifted c 10 l (leb→le 183 277 tt)

-- the tie past 2 ^ 24 of them goes to the even neighbour
cap_tie : Cap (2 ^ 34 + 1024) (2 ^ 34)
unfolding round units odd
cap_tie = (refl, refl)

-- ---- the steps

pub small_add : (A B C : ℕ) (x y : Float) → Cap (A + B) C → Small A x → Small B y → Small C (x ⊕ y)
unfolding add sum
small_add A B C nan y cap h k = absurd h
small_add A B C (inf s) y cap h k = absurd h
small_add A B C (fin s m e) nan cap h k = absurd k
small_add A B C (fin s m e) (inf t) cap h k = absurd k
small_add A B C (fin s m e) (fin t n d) cap h k = go (beq s t) (ltb X Y) (ltb Y X)
  where
    X : ℕ
    X = m * up e * down d

    Y : ℕ
    Y = n * up d * down e

    c : ℕ
    c = down e * down d

    C0 : 0 < c
    C0 = mul-pos (down_pos e) (down_pos d)

    both : X + Y ≤ (A + B) * c
    both =
        le_trans
        (add-le-add
        (le_trans (mul-le-mul_right (down d) h) (le_of_eq (mul_assoc A (down e) (down d))))
        (le_trans (mul-le-mul_right (down e) k) (le_of_eq (mul_assoc B (down d) (down e) ∙ ap (λ (z : ℕ). B * z) (mul_comm (down d) (down e))))))
        (le_of_eq (sym (add-mul A B c)))

    fewer : (a b l : ℕ) → a + b ≤ l → a - b ≤ l
    fewer a b l h = omega arith

    other : (a b l : ℕ) → a + b ≤ l → b - a ≤ l
    other a b l h = omega arith

    go : (b p q : Bool) → Small C (cond b (round binary32 s (X + Y) c) (cond p (round binary32 t (Y - X) c) (round binary32 (s && q) (X - Y) c)))
    go true p q = small_round s (X + Y) c (A + B) C cap C0 both
    go false true q = small_round t (Y - X) c (A + B) C cap C0 (other X Y ((A + B) * c) both)
    go false false q = small_round (s && q) (X - Y) c (A + B) C cap C0 (fewer X Y ((A + B) * c) both)

pub small_neg : (B : ℕ) (x : Float) → Small B x → Small B (neg x)
unfolding neg
small_neg B nan h = h
small_neg B (inf s) h = h
small_neg B (fin s m e) h = h

pub small_sub : (A B C : ℕ) (x y : Float) → Cap (A + B) C → Small A x → Small B y → Small C (x ⊖ y)
unfolding sub
small_sub A B C x y cap h k = small_add A B C x (neg y) cap h (small_neg B y k)

pub small_mul : (A B C : ℕ) (x y : Float) → Cap (A * B) C → Small A x → Small B y → Small C (x ⊗ y)
unfolding mul
small_mul A B C nan y cap h k = absurd h
small_mul A B C (inf s) y cap h k = absurd h
small_mul A B C (fin s m e) nan cap h k = absurd k
small_mul A B C (fin s m e) (inf t) cap h k = absurd k
small_mul A B C (fin s m e) (fin t n d) cap h k =
    small_round (unlike s t) (m * up e * (n * up d)) (down e * down d) (A * B) C cap (mul-pos (down_pos e) (down_pos d))
    (le_trans (mul-le-mul h k) (le_of_eq (mul-mul-mul_comm A (down e) B (down d))))

-- a weight of 1 / 2 ^ (j + 1)
pub small_weight : (j A C : ℕ) (y : Float) → Cap C C → A ≡ C * 2 ^ suc j → Small A y → Small C (fin false 1 (negsuc j) ⊗ y)
unfolding mul
small_weight j A C nan cap e h = absurd h
small_weight j A C (inf t) cap e h = absurd h
small_weight j A C (fin t n d) cap e h =
    small_round (unlike false t) (1 * 1 * (n * up d)) (2 ^ suc j * down d) C C cap (mul-pos (pow_pos (suc j)) (down_pos d))
    (le_trans (le_of_eq (one-mul (n * up d))) (le_trans h (le_of_eq (ap (λ (z : ℕ). z * down d) e ∙ mul_assoc C (2 ^ suc j) (down d)))))

-- a weight of 0
pub small_none : (A : ℕ) (y : Float) → Small A y → Small 0 (nought ⊗ y)
unfolding mul
small_none A nan h = absurd h
small_none A (inf t) h = absurd h
small_none A (fin t n d) h =
    small_round (unlike false t) (0 * 1 * (n * up d)) (1 * down d) 0 0 (cap_whole 0 (lit< tt)) (mul-pos (zero-lt-suc 0) (down_pos d)) (le_of_eq (zero-mul (n * up d) ∙ sym (zero-mul (1 * down d))))

pub small_zero : (B : ℕ) → Small B nought
small_zero B = zero-le

-- ---- a sum of c numbers of at most 1,024, divided by c

-- at least K; an infinity is
abbrev Large : ℕ → Float → Type 0
Large K nan = ⊥
Large K (inf s) = Unit {0}
Large K (fin s n d) = K * down d ≤ n * up d

large_exact : (x : Float) (s : Bool) (K : ℕ) → HasValue x s K 1 → Large K x
large_exact nan s K h = absurd h
large_exact (inf t) s K h = absurd h
large_exact (fin t n d) s K h = le_of_eq (sym h.1 ∙ mul-one (n * up d))

over : (x y : Float) (K : ℕ) → HasValue x false K 1 → Plain y → T (le x y) → Large K y
unfolding le
over nan y K h p l = absurd h
over (inf s) y K h p l = absurd h
over (fin s m e) nan K h p l = absurd p
over (fin s m e) (inf t) K h p l = tt
over (fin true m e) (fin t n d) K h p l = let z : ◌≡◌ {A = ℕ} 0 1 = cc h.0 in absurd (omega arith)
over (fin false m e) (fin true n d) K h p l = let z : ◌≡◌ {A = ℕ} 0 1 = cc in absurd (omega arith)
over (fin false m e) (fin false n d) K h p l =
    let a : m * up e * down d ≤ n * up d * down e = least_or_equal (m * up e * down d) (n * up d * down e) _ l in
    let b : m * up e ≡ K * down e = sym (mul-one (m * up e)) ∙ h.1 in
    let c : m * up e * down d ≡ K * down d * down e = ap (λ (z : ℕ). z * down d) b ∙ mul_right_comm K (down e) (down d) in
    le_of_mul-le-mul_right {k = down e} (le_trans (le_of_eq (sym c)) a) (down_pos e)

cap_most : Cap (2 ^ 24) (2 ^ 24)
unfolding round units odd
cap_most = (refl, refl)

count_low : (c : ℕ) → c < 2 ^ 24 → Large c (count c)
unfolding of_int
count_low c l = large_exact (round binary32 false c 1) false c (cap_whole c l)

count_high : (c : ℕ) → 2 ^ 24 ≤ c → Large (2 ^ 24) (count c)
unfolding of_int
count_high c l =
    over (round binary32 false (2 ^ 24) 1) (round binary32 false c 1) (2 ^ 24) cap_most (round_plain c 1)
    (round_mono binary32 (2 ^ 24) 1 c 1 (zero-lt-suc 0) (zero-lt-suc 0) (mul-le-mul_right 1 l))

small_div : (K : ℕ) (x y : Float) → 0 < K → Small (K * 1024) x → Large K y → Small 1024 (x ⊘ y)
unfolding div
small_div K nan y P h k = absurd h
small_div K (inf s) y P h k = absurd h
small_div K (fin s m e) nan P h k = absurd k
small_div K (fin s m e) (inf t) P h k = zero-le
small_div K (fin s m e) (fin t zero d) P h k =
    let a : 0 < K * down d = mul-pos P (down_pos d) in
    let b : 0 * up d ≡ 0 = zero-mul (up d) in
    absurd (never (K * down d) (0 * up d) a b k)
  where
    never : (a b : ℕ) → 0 < a → b ≡ 0 → a ≤ b → ⊥
    never a b p q r = omega arith
small_div K (fin s m e) (fin t (suc n) d) P h k =
    rw (ne_eqb (suc n) 0 (λ e. omega arith))
    (small_round (unlike s t) (m * up e * down d) (suc n * up d * down e) 1024 1024 (cap_whole 1024 (lit< tt))
    (mul-pos (mul-pos (zero-lt-suc n) (up_pos d)) (down_pos e))
    (le_trans (mul-le-mul_right (down d) h)
    (le_trans (le_of_eq (moved K (down e) (down d)))
    (mul-le-mul_left 1024 (mul-le-mul_right (down e) k)))))
  where
    moved : (k u v : ℕ) → k * 1024 * u * v ≡ 1024 * (k * v * u)
    moved k u v = ap (λ (z : ℕ). z * u * v) (mul_comm k 1024) ∙ ap (λ (z : ℕ). z * v) (mul_assoc 1024 k u) ∙ mul_assoc 1024 (k * u) v ∙ ap (λ (z : ℕ). 1024 * z) (mul_right_comm k u v)

-- what c numbers of at most 1,024 add up to, rounded each time: at most c * 1,024, and never more than 2 ^ 34
pub record Sum (c : ℕ) (x : Float) : Type 0 where
  pub few : c < 2 ^ 24 → Small (c * 1024) x
  pub many : Small (2 ^ 34) x

pub sum_none : Sum 0 nought
sum_none = record { few = λ l. zero-le; many = zero-le }

pub sum_one_more : (c : ℕ) (x p : Float) → Small 1024 p → Sum c x → Sum (suc c) (x ⊕ p)
sum_one_more c x p h s =
    record {
      few = λ l.
          small_add (c * 1024) 1024 (suc c * 1024) x p (subst (λ (z : ℕ). Cap z (suc c * 1024)) (suc-mul c 1024) (cap_times (suc c) l)) (s.few (omega arith)) h;
      many = small_add (2 ^ 34) 1024 (2 ^ 34) x p cap_tie s.many h;
    }

pub small_mean : (c : ℕ) (x : Float) → 0 < c → Sum c x → Small 1024 (x ⊘ count c)
small_mean c x P s = go (dec_lt c (2 ^ 24))
  where
    go : Dec (c < 2 ^ 24) → Small 1024 (x ⊘ count c)
    go (yes l) = small_div c x (count c) P (s.few l) (count_low c l)
    go (no n) = small_div (2 ^ 24) x (count c) (lit< tt) s.many (count_high c (most n))
      where
        most : {a b : ℕ} → (a < b → ⊥) → b ≤ a
        most {a} {b} n = omega arith
