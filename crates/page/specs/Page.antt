-- What is answered to an input that was read into a buffer. Says nothing of how it is read. Assumes nothing.
use Rattle.std.specs.Prelude.{◌≡◌, List, ℕ, ◌≤◌, ◌<◌, length, take}
use Rattle.geom.specs.Sheet.{sheet}
use Rattle.listing.specs.Printed.{Printed}

-- n bytes were read into a buffer that is longer than an input may be
pub record Into (buffer : List ℕ) (n : ℕ) : Type 0 where
  pub longer : 65536 < length buffer
  pub within : n ≤ length buffer

-- The first n bytes of the buffer are what was read of an input: all of it, or as much as the buffer is long.
abbrev pub Filled : List ℕ → ℕ → List ℕ → Type 0
Filled buffer n input = take n buffer ≡ take (length buffer) input

-- A text stands at the start of what was lent, and its r bytes are there to be written out. `there` follows from `fits`: both are stated so that
-- `&text[..r]` finds them.
pub record Written (text old new : List ℕ) (r : ℕ) : Type 0 where
  pub printed : Printed text old new r
  pub fits : r ≤ length new
  pub there : r ≡ length (take r new)

-- The text is that of every input that fills the buffer so: whatever follows a full buffer, it is the same.
pub record Answered (buffer : List ℕ) (n : ℕ) (old new : List ℕ) (r : ℕ) : Type 0 where
  pub printed : (input : List ℕ) → Filled buffer n input → Printed (sheet input) old new r
  pub fits : r ≤ length new
  pub there : r ≡ length (take r new)
