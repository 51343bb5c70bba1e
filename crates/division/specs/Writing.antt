-- What a lent slice holds after some words were written into it, and what a function answers that writes rows.
-- Assumes nothing.
use Rattle.std.specs.Prelude.{◌≡◌, ◌⊎◌, List, ◌++◌, ℕ, suc, ◌+◌, ◌*◌, ◌<◌, ◌≤◌, length, take, drop, Result}
use Rattle.geom.specs.Answers.{EndsWith}
use Rattle.geom.specs.Book.{Made}
use Rattle.geom.specs.Elements.{Element}
use Rattle.geom.specs.Memory.{element_words, over}
use Rattle.book.specs.declared.Full.{Full}
use Rattle.book.specs.declared.Book.{Book as Held}
use Rattle.book.specs.Cells.{pairs_of}
use Rattle.book.specs.Answers.{Ready, Beside, beside, ending_of}

-- a lent slice after `out` was written from the place `at` on: the cells before and past it stay
unfoldable pub written : {A : Type 0} → List A → ℕ → List A → List A
written old at out = take at old ++ out ++ drop (at + length out) old

-- ---- rows of elements, and the book

-- elements stand behind the first rows, of which `cells` are lent: r rows afterwards
pub record Laid (corners cells rows : ℕ) (es : List Element) (new after : List ℕ) (r : ℕ) : Type 0 where
  pub counted : r ≡ rows + length es
  pub within : r ≤ cells
  pub ends : suc corners * r ≡ suc corners * rows + length (element_words es)
  pub list : after ≡ written new (suc corners * rows) (element_words es)

-- the elements, or that the rows after are more than the cells
abbrev pub Laying : ℕ → ℕ → ℕ → List Element → List ℕ → List ℕ → Result ℕ Full → Type 0
Laying corners cells rows es new after r = EndsWith (Laid corners cells rows es new after) (cells < rows + length es) (ending_of r)

-- a list that is being written: `rows` of it stand, `cells` are lent, and the book has room
pub record Begun (corners base room cells rows made : ℕ) (new book : List ℕ) : Type 0 where
  pub ready : Ready base room made book
  pub within : rows ≤ cells
  pub lent : suc corners * cells ≤ length new

abbrev pub Begins : ℕ → ℕ → ℕ → List ℕ → Held → Type 0
Begins corners cells rows new b = Begun corners b.base b.room cells rows b.made new b.cells.now

-- what a rule made, m, stands behind the first rows: r rows and e entries afterwards
pub record Extends (corners base room cells rows : ℕ) (m : Made Element) (new after book : List ℕ) (r e : ℕ) : Type 0 where
  pub ready : Ready base room e book
  pub entries : pairs_of book e ≡ m.book
  pub counted : r ≡ rows + length m.made
  pub within : r ≤ cells
  pub ends : suc corners * r ≡ suc corners * rows + length (element_words m.made)
  pub list : after ≡ written new (suc corners * rows) (element_words m.made)

-- the book after is longer than the room, or the rows after are more than the cells
abbrev pub Exceeds : ℕ → ℕ → ℕ → Made Element → Type 0
Exceeds room cells rows m = (room < length m.book) ⊎ (cells < rows + length m.made)

abbrev pub Extended : ℕ → ℕ → ℕ → Made Element → List ℕ → List ℕ → Held → Held → Result ℕ Full → Type 0
Extended corners cells rows m new after b book r =
    EndsWith
    (λ (w : Beside ℕ). Extends corners b.base b.room cells rows m new after book.cells.now w.value w.made)
    (Exceeds b.room cells rows m)
    (ending_of (beside r book.made))

-- a whole list: what was made is written from the slice's start over what it held
pub record Listed (base room cells : ℕ) (m : Made Element) (new after book : List ℕ) (r e : ℕ) : Type 0 where
  pub ready : Ready base room e book
  pub entries : pairs_of book e ≡ m.book
  pub counted : r ≡ length m.made
  pub within : r ≤ cells
  pub list : after ≡ over new (element_words m.made)

-- the list, or that the book after is longer than the room or the list longer than its cells
abbrev pub Passed : ℕ → Made Element → List ℕ → List ℕ → Held → Held → Result ℕ Full → Type 0
Passed cells m new after b book r =
    EndsWith
    (λ (w : Beside ℕ). Listed b.base b.room cells m new after book.cells.now w.value w.made)
    ((b.room < length m.book) ⊎ (cells < length m.made))
    (ending_of (beside r book.made))
