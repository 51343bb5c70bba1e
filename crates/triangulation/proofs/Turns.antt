-- A list of elements that is made turn by turn, whatever a turn makes: counted, and written row by row.
-- Assumes nothing.
use mathlib.Core.Path.{◌≡◌, refl, ◌∙◌, ap, ap₂, subst}
use mathlib.Core.Logic.{⊎_elim}
use mathlib.Core.List.{List, [], ◌∷◌, ◌++◌, flat_map, append-nil}
use Prim.Native.Nat.{ℕ, zero, suc, ◌+◌, ◌*◌, ◌<◌, ◌≤◌}
use native.Mathlib.Omega.{arith}
use native.Mathlib.Nat.{eq-or-lt_of_le, mul-suc, mul-le-mul_left, le_trans}
use native.Mathlib.Numerals.{add-one}
use lib.ListN.{length, length-append}
use Rattle.geom.specs.Elements.{Element}
use Rattle.geom.specs.Memory.{first_of}
use Rattle.geom.proofs.Rows.{flat_map_append}
use Rattle.division.specs.Writing.{Laid}
use Rattle.division.proofs.Assembling.{laid_none, laid_length, laid_more}

-- what the first n turns make
unfoldable pub up_to : (ℕ → List Element) → ℕ → List Element
up_to f zero = []
up_to f (suc n) = up_to f n ++ f n

-- a turn for each entry of a list
pub up_to_flat_map : {A : Type 0} (f : A → List Element) (at : ℕ → A) (n : ℕ) → flat_map f (first_of at n) ≡ up_to (λ (i : ℕ). f (at i)) n
unfolding up_to first_of flat_map
up_to_flat_map f at zero = refl
up_to_flat_map f at (suc n) = flat_map_append f (first_of at n) (at n ∷ []) ∙ ap₂ ◌++◌ (up_to_flat_map f at n) (append-nil (f (at n)))

module _ (f : ℕ → List Element) where
  -- one turn more
  length_on : (n : ℕ) → length (up_to f (suc n)) ≡ length (up_to f n) + length (f n)
  unfolding up_to
  length_on n = length-append (up_to f n) (f n)

  -- more turns make no less
  up_to_grow : (i n : ℕ) → i ≤ n → length (up_to f i) ≤ length (up_to f n)
  up_to_grow i zero l = let e : i ≡ 0 = omega arith in let g = ap (λ (j : ℕ). length (up_to f j)) e in omega arith
  up_to_grow i (suc n) l =
      let s = length_on n in
      let ih = up_to_grow i n in
      ⊎_elim
      (λ (e : i ≡ suc n). let g = ap (λ (j : ℕ). length (up_to f j)) e in omega arith)
      (λ (m : i < suc n). let g = ih (omega arith) in omega arith)
      (eq-or-lt_of_le l)

  -- no more than so many a turn
  pub up_to_few : (m : ℕ) → ((i : ℕ) → length (f i) ≤ m) → (n : ℕ) → length (up_to f n) ≤ m * n
  unfolding up_to
  up_to_few m few zero = omega arith
  up_to_few m few (suc n) = omega (arith, length-append (up_to f n) (f n), up_to_few m few n, few n, mul-suc m n)

-- ── counting ──

-- r entries were made in the first i of n turns
pub record Counting (f : ℕ → List Element) (n i r : ℕ) : Type 0 where
  pub within : i ≤ n
  pub counted : r ≡ length (up_to f i)

module _ {f : ℕ → List Element} {n : ℕ} where
  pub counting_start : Counting f n 0 0
  unfolding up_to
  counting_start = record { within = omega arith; counted = refl }

  pub counting_on : {i r q : ℕ} → Counting f n i r → i < n → q ≡ length (f i) → Counting f n (i + 1) (r + q)
  counting_on {i} {r} {q} c l e =
      record { within = omega arith; counted = omega (arith, c.counted, length_on f i, ap (λ (j : ℕ). length (up_to f j)) (add-one i)) }

  pub counting_done : {i r : ℕ} → Counting f n i r → n ≤ i → r ≡ length (up_to f n)
  counting_done {i} c l = let e : i ≡ n = omega (arith, c.within) in c.counted ∙ ap (λ (j : ℕ). length (up_to f j)) e

-- ── writing ──

-- the bound on rows is any that holds
laid_within :
    {k a b rows : ℕ} {es : List Element} {new after : List ℕ} {r : ℕ} → Laid k a rows es new after r → r ≤ b → Laid k b rows es new after r
laid_within x l = record { counted = x.counted; within = l; ends = x.ends; list = x.list }

module _ (k start : ℕ) (f : ℕ → List Element) (n : ℕ) (new : List ℕ) where
  -- the rows when all is written
  abbrev total : ℕ
  total = start + length (up_to f n)

  -- what the first i turns made stands behind the rows that stood
  pub record Writing (i rows : ℕ) (words : List ℕ) : Type 0 where
    pub within : i ≤ n
    pub lent : suc k * total ≤ length new
    pub laid : Laid k total start (up_to f i) new words rows

  pub writing_start : suc k * total ≤ length new → Writing 0 start new
  unfolding up_to
  writing_start lent = record { within = omega arith; lent = lent; laid = laid_none (omega arith) lent }

  module _ {i rows : ℕ} {words : List ℕ} (w : Writing i rows words) where
    pub writing_length : length words ≡ length new
    writing_length = laid_length w.laid w.lent

    -- what the next turn makes has its rows
    rows_room : i < n → rows + length (f i) ≤ total
    rows_room l = omega (arith, w.laid.counted, length_on f i, up_to_grow f (suc i) n l)

    pub writing_room : i < n → suc k * (rows + length (f i)) ≤ length words
    writing_room l = le_trans (mul-le-mul_left (suc k) (rows_room l)) (omega (arith, w.lent, writing_length))

    pub writing_on : {r : ℕ} {after : List ℕ} → i < n → Laid k (rows + length (f i)) rows (f i) words after r → Writing (i + 1) r after
    unfolding up_to
    writing_on {r} {after} l x =
        record {
          within = omega arith;
          lent = w.lent;
          laid = rw (add-one i) (laid_more w.laid w.lent (laid_within x (omega (arith, x.within, rows_room l))));
        }

    pub writing_done : n ≤ i → Laid k total start (up_to f n) new words rows
    writing_done l =
        let e : i ≡ n = omega (arith, w.within) in
        subst (λ (j : ℕ). Laid k total start (up_to f j) new words rows) e w.laid
