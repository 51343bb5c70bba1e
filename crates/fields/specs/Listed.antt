-- A list with its count first: what a function answers that judges one.
-- Says nothing of which list it is.
-- Assumes nothing.
use Rattle.std.specs.Prelude.{◌≡◌, List, ℕ, ◌+◌, ◌*◌, Result, Ok, Err, length, drop}
use Rattle.geom.specs.declared.refusal.Refusal.{Refusal}
use Rattle.geom.specs.Answers.{number_of}
use Rattle.geom.specs.Memory.{first_of}
use Rattle.geom.specs.File.{Reader, stop, ◌>>=◌, counted, several}
use Rattle.fields.specs.Fields.{Reads, Counted, Counts, Each}

-- a count, then as many rows
unfoldable pub listed : {A : Type 0} → ℕ → Reader A → Reader (List A)
listed lent row = do
  n ← counted lent
  several n row

-- n rows of one width
pub record Listed {A : Type 0} (bytes : List ℕ) (at lent wide n : ℕ) (item : ℕ → A) (row : Reader A) : Type 0 where
  pub count : Counted bytes at lent n
  pub rows : Reads bytes (at + 4) (at + 4 + wide * n) (first_of item n) (several n row)

-- the rows, or the number by which the reader stops
abbrev pub Lists : {A : Type 0} → Result ℕ Refusal → List ℕ → ℕ → ℕ → ℕ → (ℕ → A) → Reader A → Type 0
Lists (Ok n) bytes at lent wide item row = Listed bytes at lent wide n item row
Lists (Err r) bytes at lent wide item row = listed lent row (drop at bytes) ≡ stop (number_of r)

-- what comes behind a count: nothing where it was refused, or as many rows as it says; P is what judging a row at a place promises
abbrev pub BehindCount : (ℕ → Result Unit Refusal → Type 0) → ℕ → Result ℕ Refusal → Result ℕ Refusal → ℕ → ℕ → Type 0
BehindCount P len (Err k) r at wide = r ≡ Err k
BehindCount P len (Ok n) (Ok v) at wide = (v ≡ n) × Each P len (Ok tt) at wide n
BehindCount P len (Ok n) (Err k) at wide = Each P len (Err k) at wide n

-- a count, then rows of one width that are judged one after the other
pub record ListedBy (P : ℕ → Result Unit Refusal → Type 0) (bytes : List ℕ) (r : Result ℕ Refusal) (at lent wide : ℕ) : Type 0 where
  pub count : Result ℕ Refusal
  pub counts : Counts count bytes at lent
  pub behind : BehindCount P (length bytes) count r (at + 4) wide
