-- Curves in memory: the curve of a row, the words that are written for curves, and what a function answers that writes them.
-- Assumes nothing.
use Rattle.std.specs.Prelude.{◌≡◌, ◌⊎◌, List, [], ◌∷◌, ℕ, suc, ◌+◌, ◌*◌, ◌-◌, ◌^◌, ◌<◌, ◌≤◌, length, get_or, Result}
use Rattle.geom.specs.declared.parity.Parity.{Parity}
use Rattle.geom.specs.Answers.{EndsWith}
use Rattle.geom.specs.Book.{Kind, Pair, Book, Made, mids}
use Rattle.geom.specs.Elements.{Curve}
use Rattle.geom.specs.Rules.{step_ends}
use Rattle.geom.specs.Mesh.{curve_vertices_of}
use Rattle.geom.specs.Memory.{first_of, curve_row, step_row, curves_of, parity_of, parity_word, curve_words, vertex_words, over}
use Rattle.geom.specs.Refusals.{curve_lengths}
use Rattle.book.specs.declared.Full.{Full}
use Rattle.book.specs.declared.Book.{Book as Held}
use Rattle.book.specs.Cells.{pairs_of}
use Rattle.book.specs.Answers.{Ready, Beside, beside, ending_of}
use Rattle.division.specs.Writing.{written}

-- ---- the steps of a curve whose vertices begin at the row `from`

-- vertex j of it
abbrev pub vertex_at : List ℕ → ℕ → ℕ → ℕ
vertex_at words from j = get_or words (2 * (from + j)) 0

-- the parity of its step j
abbrev pub parity_at : List ℕ → ℕ → ℕ → Parity
parity_at words from j = parity_of (get_or words (2 * (from + j) + 1) 0)

-- the pair of its step j
abbrev pub step_at : List ℕ → ℕ → ℕ → Pair
step_at words from j = step_ends (parity_at words from j) (vertex_at words from j) (vertex_at words from (suc j))

-- the midpoints of its first steps
unfoldable pub thread_to : Kind → ℕ → List ℕ → ℕ → Book → ℕ → Made ℕ
thread_to kind base words from book n = mids kind base book (first_of (step_at words from) n)

-- vertex and midpoint of each step, each with the step's parity
unfoldable pub quads : (ℕ → ℕ) → (ℕ → Parity) → List ℕ → List ℕ
quads v p [] = []
quads v p (m ∷ ms) =
    v 0 ∷ parity_word (p 0) ∷ m ∷ parity_word (p 0) ∷ quads (λ (j : ℕ). v (suc j)) (λ (j : ℕ). p (suc j)) ms

-- the steps are written from a row on, and the book has e entries
pub record Threads (base room from rows : ℕ) (words : List ℕ) (m : Made ℕ) (new after book : List ℕ) (e : ℕ) : Type 0 where
  pub ready : Ready base room e book
  pub entries : pairs_of book e ≡ m.book
  pub list : after ≡ written new (2 * rows) (quads (vertex_at words from) (parity_at words from) m.made)

abbrev pub Threaded : ℕ → ℕ → List ℕ → Made ℕ → List ℕ → List ℕ → Held → Held → Result (Unit {0}) Full → Type 0
Threaded from rows words m new after b book r =
    EndsWith
    (λ (w : Beside (Unit {0})). Threads b.base b.room from rows words m new after book.cells.now w.made)
    (b.room < length m.book)
    (ending_of (beside r book.made))

-- ---- curves

-- the curve of a row, whose vertices begin at the row `from`
abbrev pub curve_at : List ℕ → List ℕ → ℕ → ℕ → Curve
curve_at rows words from i =
    record {
      tag = get_or rows (2 * i) 0;
      vertices = first_of (vertex_at words from) (get_or rows (2 * i + 1) 0);
      parities = first_of (parity_at words from) (get_or rows (2 * i + 1) 0 - 1);
    }

-- the curves of the first n rows: their vertices stand one curve after the other
abbrev pub curves_in : List ℕ → List ℕ → ℕ → List Curve
curves_in rows words n = curves_of (first_of (curve_row rows) n) (first_of (step_row words) (curve_lengths (first_of (curve_row rows) n)))

-- what one curve is written into: `rows` curve vertices stand, `cells` are lent
pub record Spread (base room cells rows made : ℕ) (new book : List ℕ) : Type 0 where
  pub ready : Ready base room made book
  pub within : rows ≤ cells
  pub lent : 2 * cells ≤ length new
  pub small : cells < 2 ^ 32

abbrev pub Spreads : ℕ → ℕ → List ℕ → Held → Type 0
Spreads cells rows new b = Spread b.base b.room cells rows b.made new b.cells.now

-- one curve's row and its vertices are written: r curve vertices and e entries afterwards
pub record Strings (base room cells i rows : ℕ) (m : Made Curve) (new after vertices afterwards book : List ℕ) (r e : ℕ) : Type 0 where
  pub ready : Ready base room e book
  pub entries : pairs_of book e ≡ m.book
  pub counted : r ≡ rows + curve_vertices_of m.made
  pub within : r ≤ cells
  pub ends : 2 * r ≡ 2 * rows + length (vertex_words m.made)
  pub list : after ≡ written new (2 * i) (curve_words m.made)
  pub strung : afterwards ≡ written vertices (2 * rows) (vertex_words m.made)

abbrev pub Strung : ℕ → ℕ → ℕ → Made Curve → List ℕ → List ℕ → List ℕ → List ℕ → Held → Held → Result ℕ Full → Type 0
Strung cells i rows m new after vertices afterwards b book r =
    EndsWith
    (λ (w : Beside ℕ). Strings b.base b.room cells i rows m new after vertices afterwards book.cells.now w.value w.made)
    ((b.room < length m.book) ⊎ (cells < rows + curve_vertices_of m.made))
    (ending_of (beside r book.made))

-- all curves: both lists are written from their slices' starts over what they held
pub record Wound (base room cells : ℕ) (m : Made Curve) (new after vertices afterwards book : List ℕ) (r e : ℕ) : Type 0 where
  pub ready : Ready base room e book
  pub entries : pairs_of book e ≡ m.book
  pub counted : r ≡ curve_vertices_of m.made
  pub within : r ≤ cells
  pub list : after ≡ over new (curve_words m.made)
  pub strung : afterwards ≡ over vertices (vertex_words m.made)

-- the lists, or that the book after is longer than the room or the curve vertices more than their cells
abbrev pub Curved : ℕ → Made Curve → List ℕ → List ℕ → List ℕ → List ℕ → Held → Held → Result ℕ Full → Type 0
Curved cells m new after vertices afterwards b book r =
    EndsWith
    (λ (w : Beside ℕ). Wound b.base b.room cells m new after vertices afterwards book.cells.now w.value w.made)
    ((b.room < length m.book) ⊎ (cells < curve_vertices_of m.made))
    (ending_of (beside r book.made))
