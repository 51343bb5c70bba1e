-- The pieces of an element and of a list, row by row of the table and element by element.
-- Assumes nothing.
use mathlib.Core.Path.{◌≡◌, refl, sym, ◌∙◌, ap, ap₂, subst}
use mathlib.Core.Bool.{Bool, true, false, not}
use mathlib.Core.List.{List, [], ◌∷◌, ◌++◌, flat_map}
use Prim.Native.Nat.{ℕ, zero, suc, ◌+◌, ◌*◌, ◌-◌, ◌≤◌}
use native.Mathlib.Omega.{arith}
use native.Mathlib.Nat.{mul-zero, mul-le-mul_left, le_trans}
use native.Mathlib.Numerals.{add-one}
use lib.ListN.{length, get_or, take, drop, set}
use mir.Val.{bool_byte}
use Rattle.geom.specs.declared.parity.Parity.{Parity}
use Rattle.geom.specs.Parity.{times}
use Rattle.geom.specs.Elements.{Element, pick, flat, unless, pieces as pieces_of}
use Rattle.geom.specs.Memory.{first_of, element_row, element_of, element_words, parity_of, parity_word, over}
use Rattle.geom.proofs.Rows.{map_first_of}
use Rattle.division.specs.Shapes.{row_of}
use Rattle.division.specs.Writing.{written, Laid}
use Rattle.division.proofs.Rows.{written_over}
use Rattle.division.proofs.Dividing.{length_pick}
use Rattle.division.proofs.Assembling.{laid_none, laid_one, pieces_append}
use Rattle.triangulation.specs.Cutting.{neighbours, cut_from, cut_by, cut_all}
use Rattle.triangulation.proofs.Turns.{up_to, up_to_flat_map, up_to_few, Counting, Writing, writing_start, writing_done}

-- ── one piece, or none ──

module _ (size : ℕ) (table : List ℕ) (from : ℕ) (p : Parity) (points : List ℕ) where
  abbrev corners : List ℕ
  corners = pick points (take size (drop from table))

  abbrev piece : Element
  piece = record { corners = corners; parity = times (parity_of (get_or table (from + size) 0)) p }

  pub from_none : true ≡ flat (neighbours size) corners → [] ≡ cut_from size table from p points
  from_none e = ap (λ (b : Bool). unless b piece []) e

  pub from_one : false ≡ flat (neighbours size) corners → piece ∷ [] ≡ cut_from size table from p points
  from_one e = ap (λ (b : Bool). unless b piece []) e

  -- one for a piece that is kept, and none for one that is left out
  pub from_counts : (met : Bool) → met ≡ flat (neighbours size) corners → bool_byte (not met) ≡ length (cut_from size table from p points)
  from_counts true e = ap length (from_none e)
  from_counts false e = ap length (from_one e)

  pub from_few : length (cut_from size table from p points) ≤ 1
  from_few = go (flat (neighbours size) corners)
    where
      go : (b : Bool) → length (unless b piece []) ≤ 1
      go true = omega arith
      go false = omega arith

  -- left out: the rows stay
  pub place_none :
      {rows : ℕ} {new : List ℕ} → true ≡ flat (neighbours size) corners → suc size * (rows + length (cut_from size table from p points)) ≤ length new
      → Laid size (rows + length (cut_from size table from p points)) rows (cut_from size table from p points) new new rows
  place_none {rows} {new} e =
      subst (λ (es : List Element). suc size * (rows + length es) ≤ length new → Laid size (rows + length es) rows es new new rows) (from_none e)
      (λ lent. laid_none (omega arith) lent)

  -- written: a row more
  pub place_one :
      {rows at w : ℕ} {new after : List ℕ} → false ≡ flat (neighbours size) corners
      → suc size * (rows + length (cut_from size table from p points)) ≤ length new → from + suc size ≤ length table → at ≡ (size + 1) * rows
      → after ≡ written new at corners → w ≡ parity_word (times (parity_of (get_or table (from + size) 0)) p)
      → Laid size (rows + length (cut_from size table from p points)) rows (cut_from size table from p points) new (set after (at + size) w) (rows + 1)
  place_one {rows} {at} {w} {new} {after} e lent row place is word =
      subst
      (λ (es : List Element). suc size * (rows + length es) ≤ length new → Laid size (rows + length es) rows es new (set after (at + size) w) (rows + 1))
      (from_one e)
      (λ h. laid_one (length_pick points table from size row) (omega arith) h place is word)
      lent

-- ── the pieces of an element ──

module _ (size : ℕ) (table : List ℕ) (p : Parity) (points : List ℕ) where
  -- what a row of the table makes
  abbrev pub row_makes : ℕ → List Element
  row_makes j = cut_from size table ((size + 1) * j) p points

  pub cut_turns : (pieces : ℕ) → cut_by size table pieces p points ≡ up_to row_makes pieces
  unfolding cut_by first_of pieces_of up_to row_of element_row
  cut_turns pieces = ap (pieces_of (neighbours size) p points) (map_first_of row_of (element_row size table) pieces) ∙ go pieces
    where
      go : (n : ℕ) → pieces_of (neighbours size) p points (first_of (λ (j : ℕ). row_of (element_row size table j)) n) ≡ up_to row_makes n
      go zero = refl
      go (suc n) =
          pieces_append (neighbours size) p points (first_of (λ (j : ℕ). row_of (element_row size table j)) n) (row_of (element_row size table n) ∷ [])
          ∙ ap₂ ◌++◌ (go n) (ap (λ (w : ℕ). cut_from size table (w * n) p points) (sym (add-one size)))

  -- at most one a row
  cut_few : (pieces : ℕ) → length (cut_by size table pieces p points) ≤ pieces
  cut_few pieces = omega (arith, ap length (cut_turns pieces), up_to_few row_makes 1 (λ j. from_few size table ((size + 1) * j) p points) pieces)

  -- and so when counted
  pub counted_few : {pieces j r : ℕ} → Counting row_makes pieces j r → r ≤ j
  counted_few {j = j} c = omega (arith, c.counted, up_to_few row_makes 1 (λ i. from_few size table ((size + 1) * i) p points) j)

-- ── the pieces of a list ──

module _ (corners size : ℕ) (table : List ℕ) (pieces : ℕ) (old : List ℕ) where
  -- what an element makes
  abbrev pub element_makes : ℕ → List Element
  element_makes i = cut_by size table pieces (element_of (element_row corners old i)).parity (element_of (element_row corners old i)).corners

  pub all_turns : (rows : ℕ) → cut_all corners size table pieces old rows ≡ up_to element_makes rows
  unfolding cut_all
  all_turns rows =
      let f : Element → List Element = λ e. cut_by size table pieces e.parity e.corners in
      ap (flat_map f) (map_first_of element_of (element_row corners old) rows) ∙ up_to_flat_map f (λ (i : ℕ). element_of (element_row corners old i)) rows

  -- the corners of an element as they are read
  abbrev pub read : ℕ → List ℕ
  read i = take ((corners + 1) * i + corners - (corners + 1) * i) (drop ((corners + 1) * i) old)

  read_is : (i : ℕ) → read i ≡ (element_of (element_row corners old i)).corners
  unfolding element_of element_row
  read_is i =
      let n : (corners + 1) * i + corners - (corners + 1) * i ≡ corners = omega arith in
      ap₂ (λ (n a : ℕ). take n (drop a old)) n (ap (λ (w : ℕ). w * i) (add-one corners))

  -- what they make, with its parity
  pub makes_is : (i : ℕ) {p : Parity} → p ≡ parity_of (get_or old ((corners + 1) * i + corners) 0) → cut_by size table pieces p (read i) ≡ element_makes i
  unfolding element_of element_row
  makes_is i e =
      ap₂ (λ (p : Parity) (points : List ℕ). cut_by size table pieces p points)
      (e ∙ ap (λ (w : ℕ). parity_of (get_or old (w * i + corners) 0)) (add-one corners))
      (read_is i)

  -- six an element at most
  pub one_few : pieces ≤ 6 → (i : ℕ) → length (element_makes i) ≤ 6
  one_few few i = omega (arith, cut_few size table (element_of (element_row corners old i)).parity (element_of (element_row corners old i)).corners pieces)

  pub all_few : pieces ≤ 6 → {rows i r : ℕ} → Counting element_makes rows i r → r ≤ 6 * i
  all_few few {i = i} c = omega (arith, c.counted, up_to_few element_makes 6 (one_few few) i)

  module _ (rows : ℕ) (new : List ℕ) where
    -- all of them have their rows
    pub all_start : suc size * length (cut_all corners size table pieces old rows) ≤ length new → Writing size 0 element_makes rows new 0 0 new
    all_start h = writing_start size 0 element_makes rows new (le_trans (mul-le-mul_left (suc size) (omega (arith, ap length (all_turns rows)))) h)

    pub all_done :
        {i filled : ℕ} {words : List ℕ} → Writing size 0 element_makes rows new i filled words → rows ≤ i
        → words ≡ over new (element_words (cut_all corners size table pieces old rows))
    all_done w l =
        let d = writing_done size 0 element_makes rows new w l in
        d.list
        ∙ ap (λ (at : ℕ). written new at (element_words (up_to element_makes rows))) (mul-zero (suc size))
        ∙ written_over new (element_words (up_to element_makes rows))
        ∙ ap (λ (es : List Element). over new (element_words es)) (sym (all_turns rows))
