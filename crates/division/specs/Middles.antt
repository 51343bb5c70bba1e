-- The midpoints of an element's edges, as points behind its corners.
-- Assumes nothing.
use Rattle.std.specs.Prelude.{◌≡◌, List, ℕ, ◌<◌, length, take, Result}
use Rattle.geom.specs.Answers.{EndsWith}
use Rattle.geom.specs.Book.{Kind, Book, Made, mids}
use Rattle.geom.specs.Elements.{pairs_of as edge_pairs}
use Rattle.book.specs.declared.Full.{Full}
use Rattle.book.specs.declared.Book.{Book as Held}
use Rattle.book.specs.Cells.{pairs_of}
use Rattle.book.specs.Answers.{Ready, Beside, beside, ending_of}
use Rattle.division.specs.Shapes.{edges_of}
use Rattle.division.specs.Writing.{written}

-- the midpoints of the edges between the first points
unfoldable pub middles_of : Kind → ℕ → ℕ → List ℕ → List ℕ → Book → Made ℕ
middles_of kind corners base edges points book = mids kind base book (edge_pairs (take corners points) (edges_of edges))

-- the midpoints stand behind the corners, and the book has e entries
pub record Middled (corners base room : ℕ) (points : List ℕ) (m : Made ℕ) (after book : List ℕ) (e : ℕ) : Type 0 where
  pub ready : Ready base room e book
  pub entries : pairs_of book e ≡ m.book
  pub list : after ≡ written points corners m.made

-- the midpoints, or that the book after is longer than the room
abbrev pub Middle : ℕ → ℕ → ℕ → List ℕ → Made ℕ → List ℕ → List ℕ → Result ℕ Full → Type 0
Middle corners base room points m after book r = EndsWith (Middled corners base room points m after book) (room < length m.book) (ending_of r)

-- the same of a book that is handed in
abbrev pub MiddleIn : ℕ → List ℕ → Made ℕ → List ℕ → Held → Held → Result (Unit {0}) Full → Type 0
MiddleIn corners points m after b book r =
    EndsWith
    (λ (w : Beside (Unit {0})). Middled corners b.base b.room points m after book.cells.now w.made)
    (b.room < length m.book)
    (ending_of (beside r book.made))
