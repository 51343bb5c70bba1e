-- What the answers of the book mean.
-- Says nothing of the words of the book, nor of how many entries it has, after an answer that there is no room.
-- Assumes nothing.
use Rattle.std.specs.Prelude.{◌≡◌, Bool, false, List, ℕ, ◌+◌, ◌^◌, ◌<◌, ◌≤◌, eqb, leb, length, Result, Ok, Err}
use Rattle.geom.specs.Answers.{Ending, whole, stopped, fitted, EndsWith}
use Rattle.geom.specs.Book.{Kind, cubes, simplices, Pair, Book, seek, midpoint, book_or}
use Rattle.book.specs.declared.Full.{Full}
use Rattle.book.specs.declared.Book.{Book as Held}
use Rattle.book.specs.Cells.{cells, pairs_of, Linked}

-- whether the pair [a,b] is its own midpoint
abbrev pub Still : Kind → ℕ → ℕ → Bool → Type 0
Still cubes a b r = r ≡ eqb a b
Still simplices a b r = r ≡ false

-- a book in use, with room for so many entries whose vertices have numbers, the largest of which is no vertex's
pub record Ready (base room made : ℕ) (words : List ℕ) : Type 0 where
  pub linked : Linked words made
  pub within : made ≤ room
  pub lent : room ≤ cells words
  pub numbers : base + room < 2 ^ 32

abbrev pub pairs_in : Held → Book
pairs_in b = pairs_of b.cells.now b.made

abbrev pub InUse : Held → Type 0
InUse b = Ready b.base b.room b.made b.cells.now

-- it is the same book afterwards: the same cells, and as many, the same room and the same first vertex
pub record Kept (b after : Held) : Type 0 where
  pub same : after.cells.ghost_name ≡ b.cells.ghost_name
  pub cells : length after.cells.now ≡ length b.cells.now
  pub room : after.room ≡ b.room
  pub base : after.base ≡ b.base

-- the vertex v is the pair's midpoint, and the cells hold the book after, of m entries
pub record Placed (kind : Kind) (base room made : ℕ) (q : Pair) (words after : List ℕ) (v m : ℕ) : Type 0 where
  pub ready : Ready base room m after
  pub vertex : v ≡ midpoint kind base (pairs_of words made) q
  pub book : pairs_of after m ≡ book_or (pairs_of words made) q (seek kind base (pairs_of words made) q)

-- what an answer says: its values, or that something does not fit, which is refusal 10
abbrev pub ending_of : {A : Type 0} → Result A Full → Ending A
ending_of (Ok values) = whole values
ending_of (Err full) = stopped 10

-- a value, and how many entries the book has afterwards
pub record Beside (A : Type 0) : Type 0 where
  pub value : A
  pub made : ℕ

abbrev pub beside : {A : Type 0} → Result A Full → ℕ → Result (Beside A) Full
beside (Ok value) made = Ok (record { value = value; made = made })
beside (Err full) made = Err full

-- the book after asking for the midpoint of q
abbrev pub grown : Kind → ℕ → Book → Pair → Book
grown kind base book q = book_or book q (seek kind base book q)

-- the definition's values: the midpoint, and how many entries the book has after
abbrev pub placing : Kind → ℕ → Book → Pair → Beside ℕ
placing kind base book q = record { value = midpoint kind base book q; made = length (grown kind base book q) }

-- the answer is these where there is room for so many entries, and else 10; and where there is a vertex, the cells hold the book after
pub record Answered (kind : Kind) (base room made : ℕ) (q : Pair) (words after : List ℕ) (r : Result (Beside ℕ) Full) : Type 0 where
  pub answer :
      let values = placing kind base (pairs_of words made) q in
      ending_of r ≡ fitted (leb values.made room) values
  pub placed : EndsWith (λ (m : Beside ℕ). Placed kind base room made q words after m.value m.made) (Unit {0}) (ending_of r)

abbrev pub Asked : Kind → Held → Pair → Held → Result ℕ Full → Type 0
Asked kind b q after r = Answered kind b.base b.room b.made q b.cells.now after.cells.now (beside r after.made)
