-- One line in memory: known, or new with its two pieces.
-- Assumes nothing.
use mathlib.Core.Path.{◌≡◌, refl, sym, ◌∙◌, ap, subst}
use mathlib.Core.Logic.{inl, inr}
use mathlib.Core.List.{List, [], ◌∷◌}
use Prim.Native.Nat.{ℕ, suc, ◌+◌, ◌*◌, ◌<◌, ◌≤◌}
use native.Mathlib.Omega.{arith}
use native.Mathlib.Nat.{add-zero}
use lib.ListN.{length, get_or, length-append}
use Rattle.geom.specs.declared.parity.Parity.{Parity}
use Rattle.geom.specs.Book.{Kind, pair, Book, Found, found, none, seek, midpoint, book_or, Made}
use Rattle.geom.specs.Elements.{Element, pieces}
use Rattle.geom.specs.Rules.{LINE_PIECES, line, line_pieces}
use Rattle.geom.specs.Memory.{first_of, element_row, element_of, parity_of}
use Rattle.book.specs.Cells.{pairs_of}
use Rattle.book.specs.Answers.{Placed}
use Rattle.book.proofs.Placing.{length_pairs}
use Rattle.division.specs.Writing.{Laid, Extends, Exceeds}
use Rattle.division.proofs.Rows.{first_of_part}
use Rattle.division.proofs.Assembling.{laid_none}

-- the line of a row
abbrev pub lined : Kind → ℕ → List ℕ → ℕ → Book → Made Element
lined kind base old row book = line kind base book (element_of (element_row 2 old row))

module _ (kind : Kind) (base row made : ℕ) (old words : List ℕ) (lies : 3 * suc row ≤ length old) where
  abbrev a : ℕ
  a = get_or old (3 * row) 0

  abbrev b : ℕ
  b = get_or old (3 * row + 1) 0

  abbrev p : Parity
  p = parity_of (get_or old (3 * row + 2) 0)

  abbrev book : Book
  book = pairs_of words made

  abbrev sought : Found
  sought = seek kind base book (pair a b)

  -- the line with its corners spelled out
  abbrev spelled : Element
  spelled = record { corners = a ∷ b ∷ []; parity = p }

  spelled_is : element_of (element_row 2 old row) ≡ spelled
  unfolding element_of element_row first_of
  spelled_is =
      let e = first_of_part 0 old (3 * row) 2 (omega arith) in
      λ i. record { corners = (sym e ∙ ap (λ (j : ℕ). get_or old j 0 ∷ b ∷ []) (add-zero (3 * row))) i; parity = p }

  line_is : lined kind base old row book ≡ record { made = line_pieces (midpoint kind base book (pair a b)) spelled sought; book = book_or book (pair a b) sought }
  unfolding line
  line_is = ap (line kind base book) spelled_is

  pub line_crowded : (room cells rows : ℕ) → room < length (book_or book (pair a b) sought) → Exceeds room cells rows (lined kind base old row book)
  line_crowded room cells rows l = inl (omega (arith, ap (λ (m : Made Element). length m.book) line_is))

  module _ {room v m : ℕ} {after : List ℕ} (placed : Placed kind base room made (pair a b) words after v m) where
    -- whether the pair was known shows in the number of entries
    known_or_new : (f : Found) → pairs_of after m ≡ book_or book (pair a b) f → m ≡ length (book_or book (pair a b) f)
    known_or_new f e = sym (length_pairs after m) ∙ ap length e

    was_known : (f : Found) → f ≡ sought → m ≡ made → line_pieces (midpoint kind base book (pair a b)) spelled f ≡ []
    was_known (found w) e l = refl
    was_known none e l =
        let k = known_or_new none (placed.book ∙ ap (book_or book (pair a b)) (sym e)) in
        absurd (omega (arith, length-append book (pair a b ∷ []), length_pairs words made))

    was_new : (f : Found) → f ≡ sought → (m ≡ made → ⊥) → line_pieces (midpoint kind base book (pair a b)) spelled f ≡ pieces [] p (a ∷ b ∷ v ∷ []) LINE_PIECES
    was_new (found w) e l =
        let k = known_or_new (found w) (placed.book ∙ ap (book_or book (pair a b)) (sym e)) in
        absurd (l (omega (arith, length_pairs words made)))
    was_new none e l = ap (λ (u : ℕ). pieces [] p (a ∷ b ∷ u ∷ []) LINE_PIECES) (sym placed.vertex)

    holds : pairs_of after m ≡ (lined kind base old row book).book
    holds = placed.book ∙ ap (λ (x : Made Element). x.book) (sym line_is)

    -- the pieces stand, and the book is the rule's
    extends :
        {es : List Element} {cells rows r : ℕ} {new filled : List ℕ} → es ≡ (lined kind base old row book).made → Laid 2 cells rows es new filled r
        → Extends 2 base room cells rows (lined kind base old row book) new filled after r m
    extends {cells = cells} {rows = rows} {r = r} {new = new} {filled = filled} e x =
        let y = subst (λ (es : List Element). Laid 2 cells rows es new filled r) e x in
        record { ready = placed.ready; entries = holds; counted = y.counted; within = y.within; ends = y.ends; list = y.list }

    pub line_known :
        {cells rows : ℕ} {new : List ℕ} → m ≡ made → rows ≤ cells → 3 * cells ≤ length new
        → Extends 2 base room cells rows (lined kind base old row book) new new after rows m
    line_known l fits lent = extends (sym (ap (λ (x : Made Element). x.made) line_is ∙ was_known sought refl l)) (laid_none fits lent)

    -- what is written for a new pair
    pieces_are : {q : Parity} → (m ≡ made → ⊥) → q ≡ p → pieces [] q (a ∷ b ∷ v ∷ []) LINE_PIECES ≡ (lined kind base old row book).made
    pieces_are l same =
        ap (λ (r : Parity). pieces [] r (a ∷ b ∷ v ∷ []) LINE_PIECES) same
        ∙ sym (was_new sought refl l)
        ∙ ap (λ (x : Made Element). x.made) (sym line_is)

    -- no cell for a piece
    pub line_full :
        {q : Parity} (cells rows : ℕ) → (m ≡ made → ⊥) → q ≡ p → cells < rows + length (pieces [] q (a ∷ b ∷ v ∷ []) LINE_PIECES)
        → Exceeds room cells rows (lined kind base old row book)
    line_full cells rows l same k = inr (omega (arith, ap length (pieces_are l same)))

    pub line_extends :
        {q : Parity} {cells rows r : ℕ} {new filled : List ℕ} → (m ≡ made → ⊥) → q ≡ p
        → Laid 2 cells rows (pieces [] q (a ∷ b ∷ v ∷ []) LINE_PIECES) new filled r
        → Extends 2 base room cells rows (lined kind base old row book) new filled after r m
    line_extends l same = extends (pieces_are l same)
