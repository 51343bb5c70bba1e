-- A pass over two benches in memory: what holds between passes, what is lent, and what a pass answers.
-- Says nothing of what is refused before the first pass.
-- Assumes nothing.
use Rattle.std.specs.Prelude.{◌≡◌, true, List, ℕ, ◌+◌, ◌-◌, ◌*◌, ◌≤◌, min, length, Result}
use Rattle.geom.specs.declared.answer.Sizes.{Sizes}
use Rattle.geom.specs.Answers.{Ending, fitted, EndsWith}
use Rattle.geom.specs.Book.{Kind}
use Rattle.geom.specs.Form.{Form}
use Rattle.geom.specs.Mesh.{sizes_of}
use Rattle.geom.specs.Memory.{BenchIn, cells, rows_of, mesh_of}
use Rattle.geom.specs.Refusals.{counts_hold, marks_hold, StepsWritten}
use Rattle.geom.specs.Refinement.{StateIn, Lent, LIMIT, LIMITS, within, fits, went}
use Rattle.geom.specs.Between.{Good}
use Rattle.book.specs.Cells as Book
use Rattle.book.specs.Cells.{pairs_of, Linked}
use Rattle.lists.specs.declared.Stage.{Stage}
use Rattle.book.specs.declared.Full.{Full}
use Rattle.book.specs.Answers.{ending_of}

-- the state that a bench and the book's cells stand for
abbrev pub state_of : {F : Form} → Kind → Sizes → BenchIn F → List ℕ → ℕ → StateIn F
state_of kind s b book made = record { mesh = mesh_of (rows_of kind s b); book = pairs_of book made }

-- what holds between passes: the lists stand in their cells and within the limit, their counts add up and their marks are in order, each entry of
-- the book made one vertex, and every number is that of a vertex
pub record Held {F : Form} (kind : Kind) (base : ℕ) (s : Sizes) (b : BenchIn F) (book : List ℕ) (made : ℕ) : Type 0 where
  pub counts : counts_hold kind s b ≡ true
  pub marks : marks_hold (rows_of kind s b) ≡ true
  pub limits : within s LIMITS ≡ true
  pub count : s.vertices ≡ base + made
  pub linked : Linked book made
  pub good : Good kind base (went (state_of kind s b book made))

-- what a bench and the book's cells lend
abbrev pub lent_of : {F : Form} → Kind → BenchIn F → List ℕ → Lent
lent_of kind b book = record { cells = cells kind b; book = Book.cells book }

-- how many entries the book may have: what its cells, the vertices' cells and the limit leave
abbrev pub room_of : Lent → ℕ → ℕ
room_of lent base = min lent.book (min lent.cells.vertices LIMIT - base)

-- how many entries a list may have
abbrev pub capped : Sizes → Sizes
capped s =
    record {
      vertices = min s.vertices LIMIT;
      points = min s.points LIMIT;
      lines = min s.lines LIMIT;
      areas = min s.areas LIMIT;
      volumes = min s.volumes LIMIT;
      curves = min s.curves LIMIT;
      curve_vertices = min s.curve_vertices LIMIT;
    }

-- the two benches are equal, smoothing's cells are as many as the vertices', and the bounds are those of what is lent
pub record Lends {F : Form} (kind : Kind) (base room : ℕ) (c : Sizes) (a b : BenchIn F) (book : List ℕ) (sums : List F.Cell) (tallies : List ℕ) : Type 0 where
  pub twin : cells kind a ≡ cells kind b
  pub sum : 4 * (cells kind a).vertices ≤ length sums
  pub tally : 2 * (cells kind a).vertices ≤ length tallies
  pub rooms : room ≡ room_of (lent_of kind a book) base
  pub caps : c ≡ capped (cells kind a)

-- the bench stands for the next state, and the word beside a curve's last vertex is 0
pub record Onward {F : Form} (kind : Kind) (base : ℕ) (next : StateIn F) (b : BenchIn F) (book : List ℕ) (t : Sizes) (e : ℕ) : Type 0 where
  pub held : Held kind base t b book e
  pub state : state_of kind t b book e ≡ next
  pub steps : StepsWritten b next.mesh

-- the definition's answer: the sizes and the entries of the next state where it fits what is lent, and else 10
abbrev pub staged : {F : Form} → Lent → StateIn F → Ending Stage
staged lent next = fitted (fits lent next) (record { sizes = sizes_of next.mesh; made = length next.book })

-- a pass answers that; and where it is whole, the next state stands on the bench
pub record Passed {F : Form} (kind : Kind) (base : ℕ) (lent : Lent) (next : StateIn F) (b : BenchIn F) (book : List ℕ) (r : Result Stage Full) : Type 0 where
  pub answer : ending_of r ≡ staged lent next
  pub onward : EndsWith (λ (t : Stage). Onward kind base next b book t.sizes t.made) (Unit {0}) (ending_of r)
