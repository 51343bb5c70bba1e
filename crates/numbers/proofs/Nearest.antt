-- No binary32 value other than the one that `root` gives lies as near to the exact square root. It is shown over whole numbers: sizes in units of the smallest
-- value, and the number whose root is taken in units of its square. Assumes nothing.
use Rattle.std.proofs.Common.{◌≡◌, ℕ, zero, suc, ◌+◌, ◌-◌, ◌*◌, ◌/◌, ◌%◌, ◌^◌, ◌<◌, ◌≤◌, Bool, false, ◌&&◌, T, eqb, ltb, leb, ◌⊎◌, ℤ, pos, negsuc, sym, refl, ap, ◌∙◌, subst, inl, inr, ⊎_elim, le_trans, le_of_eq, lt_of_lt_of_le, lt_of_le_of_lt, le_of_lt, mul-le-mul_right, zero-lt-suc, mul_assoc, mul_comm, add-mul, lt_of_mul-lt-mul_right, mul-le-mul_left, mul-lt-mul_of_pos_right, mul-pos, pow-suc, lt_of_not-le, zero-mul, mul-one, mul_right_comm, not-le_of_lt, le-mul_of_pos_right, mul-div_cancel, mul_left_comm, le-add_left, arith, ltb→lt, leb→le, pow_pos, pow_mono, pow-add}
use native.Mathlib.Nat.{mul-lt-mul_of_pos_left}
use native.Mathlib.Decide.{dec_le, dec_lt}
use lib.Ieee.{Float, nan, inf, fin, binary32, fits, up, down}
use lib.Ieee.Exact.{HasValue}
use lib.Ieee.Fits.{down_pos, and_l, and_r}
use lib.Ieee.Positive.{positive, positive_of_value}
use lib.Pow.{pow-lt}
use Rattle.numbers.specs.Root.{whole_root, root, in_units, in_squares, Farther}
use Rattle.numbers.proofs.WholeRoot.{WholeRoot, whole_root_lem, square_le, four_power}
use Rattle.numbers.proofs.RoundedRoot.{parity, odd_square, root_long, rounded_from}
use Rattle.numbers.proofs.Radicand.{half, radicand, radicand_from, radicand_below, radicand_even, radicand_is}
use Rattle.numbers.proofs.RootOf.{rounded_here, root_units, in_squares_lem, root_of_value}

-- ---- the values that binary32 has from 2 ^ 23 units of 2 ^ k on are multiples of that unit

grid : (n p k : ℕ) → n < 2 ^ 24 → (n * 2 ^ p < 2 ^ 23 * 2 ^ suc k) ⊎ ((c : ℕ) × (n * 2 ^ p ≡ c * 2 ^ suc k))
grid n p k short = either (dec_le (suc k) p)
  where
    either : Dec (suc k ≤ p) → (n * 2 ^ p < 2 ^ 23 * 2 ^ suc k) ⊎ ((c : ℕ) × (n * 2 ^ p ≡ c * 2 ^ suc k))
    either (yes h) =
        let e : p ≡ p - suc k + suc k = omega arith in
        inr (n * 2 ^ (p - suc k), subst (λ (z : ℕ). n * 2 ^ z ≡ n * 2 ^ (p - suc k) * 2 ^ suc k) (sym e) (simp (pow-add, mul_assoc)))
    either (no f) =
        let h : p ≤ k = omega (arith, lt_of_not-le f) in
        let below : n * 2 ^ p < 2 ^ 24 * 2 ^ k = lt_of_lt_of_le (mul-lt-mul_of_pos_right short (pow_pos p)) (mul-le-mul_left (2 ^ 24) (pow_mono h)) in
        inl (omega (arith, pow-suc 2 k))

square_of_product : (x u : ℕ) → x * u * (x * u) ≡ x * x * (u * u)
square_of_product x u = simp (mul_assoc, mul_left_comm)

square_strict : {a b : ℕ} → a < b → a * a < b * b
square_strict {a} {b} h = lt_of_le_of_lt (mul-le-mul_right a (le_of_lt h)) (mul-lt-mul_of_pos_left h (omega arith))

-- ---- q is the root of r, s is q with its last digit rounded, u is the unit in which s counts, and y is a value

module _ (r q u y : ℕ) (root : WholeRoot r q) (even : r % 2 ≡ 0) (long : 2 ^ 24 ≤ q) (pos : 0 < u)
    (value : (y < 2 ^ 23 * u) ⊎ ((c : ℕ) × (y ≡ c * u))) (s : ℕ) (half : s ≡ (q + 1) / 2) where
  -- a value above s units is a whole unit above
  unit_above : s * u < y → (2 * s + 1) * u ≤ s * u + y
  unit_above h = ⊎_elim less more value
    where
      sum : (2 * s + 1) * u ≡ s * u + (s + 1) * u
      sum = let e : 2 * s + 1 ≡ s + (s + 1) = omega arith in ap (λ (z : ℕ). z * u) e ∙ add-mul s (s + 1) u

      less : y < 2 ^ 23 * u → (2 * s + 1) * u ≤ s * u + y
      less l = let m : 2 ^ 23 * u ≤ s * u = mul-le-mul_right u (omega arith) in absurd (omega arith)

      more : (c : ℕ) × (y ≡ c * u) → (2 * s + 1) * u ≤ s * u + y
      more v =
          let l : s < v.0 = lt_of_mul-lt-mul_right u (subst (λ (z : ℕ). s * u < z) v.1 h) in
          let m : (s + 1) * u ≤ v.0 * u = mul-le-mul_right u (omega arith) in
          omega (arith, sum, v.1)

  -- and one below s units is a whole unit below, where s was rounded up
  unit_below : q % 2 ≡ 1 → y < s * u → s * u + y ≤ q * u
  unit_below odd h = ⊎_elim less more value
    where
      sum : q * u ≡ s * u + (s - 1) * u
      sum = let e : q ≡ s + (s - 1) = omega arith in ap (λ (z : ℕ). z * u) e ∙ add-mul s (s - 1) u

      less : y < 2 ^ 23 * u → s * u + y ≤ q * u
      less l = let m : 2 ^ 23 * u ≤ (s - 1) * u = mul-le-mul_right u (omega arith) in omega (arith, sum)

      more : (c : ℕ) × (y ≡ c * u) → s * u + y ≤ q * u
      more v =
          let l : v.0 < s = lt_of_mul-lt-mul_right u (subst (λ (z : ℕ). z < s * u) v.1 h) in
          let m : v.0 * u ≤ (s - 1) * u = mul-le-mul_right u (omega arith) in
          omega (arith, sum, v.1)

  farther_above : s * u < y → r * (u * u) < (s * u + y) * (s * u + y)
  farther_above h =
      let m : (q + 1) * (q + 1) ≤ (2 * s + 1) * (2 * s + 1) = square_le (omega arith) in
      lt_of_lt_of_le (mul-lt-mul_of_pos_right (lt_of_lt_of_le root.above m) (mul-pos pos pos))
      (rw (← square_of_product) (square_le (unit_above h)))

  farther_below : y < s * u → (s * u + y) * (s * u + y) < r * (u * u)
  farther_below h = ⊎_elim rounded_down rounded_up (parity q)
    where
      rounded_down : q % 2 ≡ 0 → (s * u + y) * (s * u + y) < r * (u * u)
      rounded_down e =
          let sum : q * u ≡ s * u + s * u = (let d : q ≡ s + s = omega arith in ap (λ (z : ℕ). z * u) d ∙ add-mul s s u) in
          let l : s * u + y < q * u = omega arith in
          lt_of_lt_of_le (square_strict l) (rw square_of_product (mul-le-mul_right (u * u) root.below))

      rounded_up : q % 2 ≡ 1 → (s * u + y) * (s * u + y) < r * (u * u)
      rounded_up e =
          let d : q ≡ 2 * (q / 2) + 1 = omega arith in
          let o : q * q ≡ 4 * (q / 2 * (q / 2)) + 4 * (q / 2) + 1 = ap (λ (z : ℕ). z * z) d ∙ odd_square (q / 2) in
          let l : q * q < r = omega (arith, root.below) in
          lt_of_le_of_lt (square_le (unit_below e h)) (rw square_of_product (mul-lt-mul_of_pos_right l (mul-pos pos pos)))

  -- y is s units, or it is farther from the root of r units squared
  same_or_farther : (n : ℕ) → 4 * n ≡ r * (u * u) → (y ≡ s * u) ⊎ Farther n (s * u) y
  same_or_farther n e = above (dec_lt (s * u) y)
    where
      below : Dec (y < s * u) → (s * u < y → ⊥) → (y ≡ s * u) ⊎ Farther n (s * u) y
      below (yes h) f = inr (inr (h, rw e (farther_below h)))
      below (no g) f = inl (omega arith)

      above : Dec (s * u < y) → (y ≡ s * u) ⊎ Farther n (s * u) y
      above (yes h) = inr (inl (h, rw e (farther_above h)))
      above (no f) = below (dec_lt y (s * u)) f

-- ---- binary32 values in units

units_of : (v : Float) (s : Bool) (a : ℕ) → HasValue v s a (2 ^ 149) → in_units v ≡ a
unfolding in_units
units_of nan s a h = absurd h
units_of (inf t) s a h = absurd h
units_of (fin t m e) s a h = ap (λ (z : ℕ). z / down e) h.1 ∙ mul-div_cancel a (down_pos e)

-- of two powers of two the smaller has the smaller exponent
exponent_le : (i j : ℕ) → 2 ^ i ≤ 2 ^ j → i ≤ j
exponent_le i j h = let l : i < suc j = lt_of_not-le (λ g. not-le_of_lt (pow-lt g) h) in omega arith

-- a value of which the format has every digit is m * 2 ^ k units
digits_up : (m j l : ℕ) → m * 2 ^ j * 2 ^ l ≡ m * 2 ^ (j + l) * 1
digits_up m j l = simp (pow-add, mul-one, mul_assoc)

digits_down : (m j l : ℕ) → j ≤ l → m * 1 * 2 ^ l ≡ m * 2 ^ (l - j) * 2 ^ j
digits_down m j l h =
    let e : l ≡ l - j + j = omega arith in
    subst (λ (z : ℕ). m * 1 * 2 ^ z ≡ m * 2 ^ (l - j) * 2 ^ j) (sym e) (simp (pow-add, mul-one, mul_assoc))

pub exponent : (s : Bool) (m : ℕ) (e : ℤ) → down e ≤ 2 ^ 149 → (k : ℕ) × HasValue (fin s m e) s (m * 2 ^ k) (2 ^ 149)
exponent s m (pos j) h = (j + 149, (refl, digits_up m j 149))
exponent s m (negsuc j) h = (149 - suc j, (refl, digits_down m (suc j) 149 (exponent_le (suc j) 149 h)))

-- what the format asks of a value that is not 0
pub record Held (m : ℕ) (e : ℤ) : Type 0 where
  pub digits : suc m < 2 ^ 24
  pub fine : down e ≤ 2 ^ 149
  pub small : suc m * up e < 2 ^ 128 * down e

pub held : (s : Bool) (m : ℕ) (e : ℤ) → T (fits binary32 (fin s (suc m) e)) → Held m e
unfolding fits
held s m e h =
    let a = eqb (suc m % 2) 1 in
    let b = ltb (suc m) (2 ^ 24) in
    let c = leb (down e) (2 ^ 149) in
    let d = ltb (suc m * up e) (2 ^ 128 * down e) in
    record {
      digits = ltb→lt (suc m) (2 ^ 24) (and_r a b (and_l (a && b) c (and_l (a && b && c) d h)));
      fine = leb→le (down e) (2 ^ 149) (and_r (a && b) c (and_l (a && b && c) d h));
      small = ltb→lt (suc m * up e) (2 ^ 128 * down e) (and_r (a && b && c) d h);
    }

-- a value that is not negative is n * 2 ^ p units, with n of at most 24 digits
value_units : (n : ℕ) (d : ℤ) → T (fits binary32 (fin false n d)) → (c : ℕ) × (p : ℕ) × (c < 2 ^ 24) × (in_units (fin false n d) ≡ c * 2 ^ p)
value_units zero d h = (0, 0, omega arith, units_of (fin false zero d) false 0 (refl, simp zero-mul))
value_units (suc n) d h =
    let k = held false n d h in
    let v = exponent false (suc n) d k.fine in
    (suc n, v.0, k.digits, units_of (fin false (suc n) d) false (suc n * 2 ^ v.0) v.1)

-- a finite value is below 2 ^ 277 units
light : (x l a d b : ℕ) → x * l ≡ a * d → x < b * d → 0 < l → a < b * l
light x l a d b e h L = lt_of_mul-lt-mul_right d (subst (λ (z : ℕ). z < b * l * d) e (lt_of_lt_of_le (mul-lt-mul_of_pos_right h L) (le_of_eq (mul_right_comm b d l))))

four_units : (r h : ℕ) → 4 * (r * 4 ^ h) ≡ r * (2 ^ suc h * 2 ^ suc h)
four_units r h = rw (← four_power (suc h)) (simp (pow-suc, mul_comm, mul_left_comm))

-- ---- the theorem

module _ (m : ℕ) (e : ℤ) (x_Fits : T (fits binary32 (fin false (suc m) e))) where
  -- x is m + 1 digits, 2 ^ `places` times in units
  pub places : ℕ
  places = (exponent false (suc m) e (held false m e x_Fits).fine).0

  x_value : HasValue (fin false (suc m) e) false (suc m * 2 ^ places) (2 ^ 149)
  unfolding places
  x_value = (exponent false (suc m) e (held false m e x_Fits).fine).1

  places_small : places < 277
  places_small =
      let l : suc m * 2 ^ places < 2 ^ 277 = light (suc m * up e) (2 ^ 149) (suc m * 2 ^ places) (down e) (2 ^ 128) x_value.1 (held false m e x_Fits).small (pow_pos 149) in
      lt_of_not-le (λ g. not-le_of_lt (lt_of_le_of_lt (le-mul_of_pos_right (2 ^ places) (zero-lt-suc m)) (rw (mul_comm (2 ^ places) (suc m)) l)) (pow_mono g))

  abbrev pub weight : ℕ
  weight = places + 149

  squares : in_squares (fin false (suc m) e) ≡ suc m * 2 ^ weight
  unfolding in_squares
  squares =
      ap (λ (z : ℕ). z / down e) (in_squares_lem (suc m * up e) (suc m) places (down e) x_value.1) ∙ mul-div_cancel (suc m * 2 ^ weight) (down_pos e)

  digits_small : suc m < 2 ^ 24
  digits_small = (held false m e x_Fits).digits

  -- the root is s units of 2 ^ (h + 1), as `RootOf.antt` has it
  abbrev pub s : ℕ
  s = (whole_root (radicand (suc m) weight) + 1) / 2

  abbrev pub unit : ℕ
  unit = 2 ^ suc (half (suc m) weight)

  heavy : 149 ≤ weight
  heavy = le-add_left 149 places

  abbrev radicand_here : ℕ
  radicand_here = radicand (suc m) weight

  radicand_long : 2 ^ 48 ≤ radicand_here
  radicand_long = radicand_from (suc m) weight (zero-lt-suc m) digits_small heavy

  radicand_short : radicand_here < 2 ^ 50
  radicand_short = radicand_below (suc m) weight (zero-lt-suc m) digits_small heavy

  four_squares : 4 * in_squares (fin false (suc m) e) ≡ radicand_here * (unit * unit)
  four_squares =
      ap (λ (z : ℕ). 4 * z) (squares ∙ sym (radicand_is (suc m) weight (zero-lt-suc m) digits_small heavy)) ∙ four_units radicand_here (half (suc m) weight)

  pub root_value : HasValue (root (fin false (suc m) e)) false (s * unit) (2 ^ 149)
  root_value =
      subst (λ (v : Float). HasValue v false (s * unit) (2 ^ 149))
      (sym (root_of_value (fin false (suc m) e) (suc m) places (zero-lt-suc m) digits_small x_value ∙ rounded_here (suc m) weight (zero-lt-suc m) digits_small heavy))
      (root_units (suc m) weight (zero-lt-suc m) digits_small heavy (omega (arith, places_small)))

  -- no root is below the normal range
  pub root_normal : 2 ^ 23 ≤ s * unit
  root_normal =
      le_trans (rounded_from radicand_here radicand_long radicand_short)
      (le-mul_of_pos_right s (pow_pos (suc (half (suc m) weight))))

  -- The root of a binary32 number above 0 is a binary32 number above 0, and every other binary32 number that is not negative lies farther from the exact root.
  -- (One below 0 lies farther off than 0 does.)
  pub root_is_positive : T (positive (root (fin false (suc m) e)))
  root_is_positive =
      positive_of_value (root (fin false (suc m) e)) (s * unit) (2 ^ 149) root_value
      (mul-pos (omega (arith, rounded_from radicand_here radicand_long radicand_short)) (pow_pos (suc (half (suc m) weight))))

  pub root_is_nearest : (n : ℕ) (d : ℤ) → T (fits binary32 (fin false n d))
      → (in_units (fin false n d) ≡ in_units (root (fin false (suc m) e)))
      ⊎ Farther (in_squares (fin false (suc m) e)) (in_units (root (fin false (suc m) e))) (in_units (fin false n d))
  root_is_nearest n d h =
      let v = value_units n d h in
      let y = v.0 * 2 ^ v.1 in
      let q = whole_root radicand_here in
      rw (v.3, units_of (root (fin false (suc m) e)) false (s * unit) root_value)
      (same_or_farther radicand_here q unit y (whole_root_lem radicand_here) (radicand_even (suc m) weight (zero-lt-suc m) digits_small heavy)
      (root_long radicand_here radicand_long radicand_short) (pow_pos (suc (half (suc m) weight))) (grid v.0 v.1 (half (suc m) weight) v.2) s refl
      (in_squares (fin false (suc m) e)) four_squares)
