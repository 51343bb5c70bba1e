-- Whether a piece is flat, edge by edge along an axis and axis by axis.
-- Assumes nothing.
use mathlib.Core.Path.{◌≡◌, refl, sym, ◌∙◌, ap}
use mathlib.Core.Bool.{Bool, true, false, ◌&&◌, ◌||◌}
use mathlib.Core.Logic.{⊎_elim}
use mathlib.Core.List.{List, [], ◌∷◌, ◌++◌}
use Prim.Native.Nat.{ℕ, zero, suc, ◌+◌, ◌*◌, ◌-◌, ◌/◌, ◌<◌, ◌≤◌}
use native.Mathlib.Omega.{arith}
use native.Mathlib.Nat.{eq-or-lt_of_le, mul-zero, mul-suc, mul_comm, le-div_iff_mul-le, div-eq_of_lt-le}
use native.Mathlib.Numerals.{add-one}
use lib.Dec.{eqb}
use lib.ListN.{length, get_or, take, drop}
use borrow.Author.Tests.{eq-eqb, ne_eqb}
use Rattle.geom.specs.Book.{Pair, pair}
use Rattle.geom.specs.Elements.{point_at, pick, shut, flat}
use Rattle.geom.specs.Memory.{first_of}
use Rattle.geom.proofs.Lists.{and_true, and_false}
use Rattle.geom.proofs.Rows.{get_d_first_of}
use Rattle.division.specs.Shapes.{below, axis_from, axes_of}
use Rattle.division.proofs.Rows.{first_of_pick}
use Rattle.division.proofs.Tables.{below_at}

-- the corner of a piece, by its row of the table
pub corner_at :
    (points table : List ℕ) (from k j : ℕ) → from + suc k ≤ length table → j < k
    → get_or points (get_or table (from + j) 0) 0 ≡ point_at (pick points (take k (drop from table))) j
corner_at points table from k j row l =
    sym
    (ap (λ (xs : List ℕ). get_or xs j 0) (sym (first_of_pick points table from k (omega arith)))
    ∙ get_d_first_of (λ (i : ℕ). point_at points (get_or table (from + i) 0)) 0 j k l)

-- ── one axis ──

-- whether an edge has equal ends
abbrev closed : List ℕ → Pair → Bool
closed cs e = eqb (point_at cs e.first) (point_at cs e.second)

and_assoc : (a b c : Bool) → (a && (b && c)) ≡ ((a && b) && c)
and_assoc true b c = refl
and_assoc false b c = refl

shut_snoc : (cs : List ℕ) (es : List Pair) (e : Pair) → shut cs (es ++ e ∷ []) ≡ (shut cs es && closed cs e)
unfolding shut
shut_snoc cs [] e = and_true (closed cs e)
shut_snoc cs (d ∷ es) e = ap (λ (b : Bool). closed cs d && b) (shut_snoc cs es e) ∙ and_assoc (closed cs d) (shut cs es) (closed cs e)

-- one edge that is not closed
shut_open : (cs : List ℕ) (e : ℕ → Pair) (i n : ℕ) → i < n → closed cs (e i) ≡ false → shut cs (first_of e n) ≡ false
unfolding first_of
shut_open cs e i zero l f = absurd (omega arith)
shut_open cs e i (suc n) l f =
    let s = shut_snoc cs (first_of e n) (e n) in
    let ih = shut_open cs e i n in
    ⊎_elim
    (λ (q : i ≡ n). s ∙ ap (λ (b : Bool). shut cs (first_of e n) && b) (ap (λ (j : ℕ). closed cs (e j)) (sym q) ∙ f) ∙ and_false (shut cs (first_of e n)))
    (λ (q : i < n). s ∙ ap (λ (b : Bool). b && closed cs (e n)) (ih q f))
    (eq-or-lt_of_le {n = i} {m = n} (omega arith))

-- the edges before i are closed
pub record Shutting (cs : List ℕ) (axes : List ℕ) (k axis i : ℕ) : Type 0 where
  pub within : i ≤ k / 2
  pub closing : shut cs (first_of (λ (j : ℕ). pair (get_or axes (axis + 2 * j) 0) (get_or axes (axis + 2 * j + 1) 0)) i) ≡ true

-- what a turn knows: the words of its edge are within the axes, and the places of its ends within the row of the table
pub record ShutTurn (k from axis i : ℕ) (table axes : List ℕ) : Type 0 where
  pub turn : i < k / 2
  pub row : from + suc k ≤ length table
  pub words : axis + 2 * i + 1 < length axes
  pub first : get_or axes (axis + 2 * i) 0 < k
  pub second : get_or axes (axis + 2 * i + 1) 0 < k
  pub near : from + get_or axes (axis + 2 * i) 0 < length table
  pub far : from + get_or axes (axis + 2 * i + 1) 0 < length table

pub shut_turn :
    (k from axis i : ℕ) (table axes : List ℕ) → below k axes ≡ true → from + suc k ≤ length table → axis + k ≤ length axes → i < k / 2
    → ShutTurn k from axis i table axes
shut_turn k from axis i table axes along row l turn =
    let words : axis + 2 * i + 1 < length axes = omega arith in
    let first = below_at k axes along (axis + 2 * i) (omega arith) in
    let second = below_at k axes along (axis + 2 * i + 1) words in
    record {
      turn = turn;
      row = row;
      words = words;
      first = first;
      second = second;
      near = omega arith;
      far = omega arith;
    }

module _ {cs axes : List ℕ} {k axis : ℕ} where
  pub shutting_start : Shutting cs axes k axis 0
  unfolding first_of shut
  shutting_start = record { within = omega arith; closing = refl }

  pub shutting_on :
      {i a b : ℕ} → Shutting cs axes k axis i → i < k / 2 → a ≡ point_at cs (get_or axes (axis + 2 * i) 0)
      → b ≡ point_at cs (get_or axes (axis + 2 * i + 1) 0) → a ≡ b → Shutting cs axes k axis (i + 1)
  unfolding first_of
  shutting_on {i} s l p q e =
      let edge : ℕ → Pair = λ j. pair (get_or axes (axis + 2 * j) 0) (get_or axes (axis + 2 * j + 1) 0) in
      record {
        within = omega arith;
        closing =
            ap (λ (j : ℕ). shut cs (first_of edge j)) (add-one i)
            ∙ shut_snoc cs (first_of edge i) (edge i)
            ∙ ap (λ (b : Bool). b && closed cs (edge i)) s.closing
            ∙ eq-eqb _ _ (sym p ∙ e ∙ q);
      }

  pub shutting_open :
      {i a b : ℕ} → Shutting cs axes k axis i → i < k / 2 → a ≡ point_at cs (get_or axes (axis + 2 * i) 0)
      → b ≡ point_at cs (get_or axes (axis + 2 * i + 1) 0) → (a ≡ b → ⊥) → false ≡ shut cs (axis_from k axes axis)
  unfolding axis_from
  shutting_open {i} s l p q ne =
      sym (shut_open cs (λ (j : ℕ). pair (get_or axes (axis + 2 * j) 0) (get_or axes (axis + 2 * j + 1) 0)) i (k / 2) l (ne_eqb _ _ (λ e. ne (p ∙ e ∙ sym q))))

  pub shutting_done : {i : ℕ} → Shutting cs axes k axis i → k / 2 ≤ i → true ≡ shut cs (axis_from k axes axis)
  unfolding axis_from
  shutting_done {i} s l =
      let e : i ≡ k / 2 = omega (arith, s.within) in
      sym s.closing
      ∙ ap (λ (n : ℕ). shut cs (first_of (λ (j : ℕ). pair (get_or axes (axis + 2 * j) 0) (get_or axes (axis + 2 * j + 1) 0)) n)) e

-- ── all axes ──

pub or_false : (b : Bool) → (b || false) ≡ b
or_false true = refl
or_false false = refl

or_true : (b : Bool) → (b || true) ≡ true
or_true true = refl
or_true false = refl

or_assoc : (a b c : Bool) → (a || (b || c)) ≡ ((a || b) || c)
or_assoc true b c = refl
or_assoc false b c = refl

pub flat_snoc : (cs : List ℕ) (xs : List (List Pair)) (a : List Pair) → flat (xs ++ a ∷ []) cs ≡ (flat xs cs || shut cs a)
unfolding flat
flat_snoc cs [] a = or_false (shut cs a)
flat_snoc cs (b ∷ xs) a = ap (λ (t : Bool). shut cs b || t) (flat_snoc cs xs a) ∙ or_assoc (shut cs b) (flat xs cs) (shut cs a)

-- one axis along which all is closed
pub flat_along : (cs : List ℕ) (a : ℕ → List Pair) (i n : ℕ) → i < n → shut cs (a i) ≡ true → flat (first_of a n) cs ≡ true
unfolding first_of
flat_along cs a i zero l f = absurd (omega arith)
flat_along cs a i (suc n) l f =
    let s = flat_snoc cs (first_of a n) (a n) in
    let ih = flat_along cs a i n in
    ⊎_elim
    (λ (q : i ≡ n). s ∙ ap (λ (b : Bool). flat (first_of a n) cs || b) (ap (λ (j : ℕ). shut cs (a j)) (sym q) ∙ f) ∙ or_true (flat (first_of a n) cs))
    (λ (q : i < n). s ∙ ap (λ (b : Bool). b || shut cs (a n)) (ih q f))
    (eq-or-lt_of_le {n = i} {m = n} (omega arith))

-- the piece is not flat along the axes before the word `axis`
pub record Flattening (cs axes : List ℕ) (k axis : ℕ) : Type 0 where
  pub turn : ℕ
  pub came : axis ≡ k * turn
  pub within : axis ≤ length axes
  pub none : flat (first_of (λ (i : ℕ). axis_from k axes (k * i)) turn) cs ≡ false

module _ {cs axes : List ℕ} {k : ℕ} where
  pub flattening_start : Flattening cs axes k 0
  unfolding first_of flat
  flattening_start = record { turn = 0; came = sym (mul-zero k); within = omega arith; none = refl }

  pub flattening_on :
      {axis : ℕ} → Flattening cs axes k axis → k ≤ length axes - axis → false ≡ shut cs (axis_from k axes axis)
      → Flattening cs axes k (axis + k)
  unfolding first_of
  flattening_on {axis} f l o =
      let n = f.turn in
      record {
        turn = suc n;
        came = omega (arith, f.came, mul-suc k n);
        within = omega (arith, f.within);
        none =
            flat_snoc cs (first_of (λ (i : ℕ). axis_from k axes (k * i)) n) (axis_from k axes (k * n))
            ∙ ap (λ (b : Bool). b || shut cs (axis_from k axes (k * n))) f.none
            ∙ ap (λ (j : ℕ). shut cs (axis_from k axes j)) (sym f.came)
            ∙ sym o;
      }

  pub flattening_found :
      {axis : ℕ} → Flattening cs axes k axis → 0 < k → k ≤ length axes - axis → true ≡ shut cs (axis_from k axes axis)
      → true ≡ flat (axes_of k axes) cs
  unfolding axes_of
  flattening_found {axis} f some l s =
      let n = f.turn in
      let turn : suc n ≤ length axes / k =
      (le-div_iff_mul-le {k = k} {x = suc n} {y = length axes} some).1 (omega (arith, f.came, f.within, mul-suc k n, mul_comm (suc n) k))
      in
      sym
      (flat_along cs (λ (i : ℕ). axis_from k axes (k * i)) n (length axes / k) turn
      (ap (λ (j : ℕ). shut cs (axis_from k axes j)) (sym f.came) ∙ sym s))

  pub flattening_done :
      {axis : ℕ} → Flattening cs axes k axis → length axes - axis < k → false ≡ flat (axes_of k axes) cs
  unfolding axes_of
  flattening_done {axis} f l =
      let n = f.turn in
      let m : length axes / k ≡ n =
      div-eq_of_lt-le {k = n} k {m = length axes} (omega (arith, f.came, f.within, mul_comm n k)) (omega (arith, f.came, f.within, mul-suc k n, mul_comm (suc n) k, add-one n))
      in
      sym f.none ∙ ap (λ (j : ℕ). flat (first_of (λ (i : ℕ). axis_from k axes (k * i)) j) cs) (sym m)
