-- What a function answers that writes a text into a lent buffer, and texts that stand one after the other.
-- Says nothing of which text a mesh has, which is the definition's of `geom`.
-- Assumes nothing.
use Rattle.std.specs.Prelude.{◌≡◌, List, [], ◌∷◌, ◌++◌, ℕ, zero, suc, ◌+◌, ◌≤◌, Float, length, get_or}
use Rattle.numbers.specs.Binary32 as Binary32
use Rattle.geom.specs.Listing.{NEWLINE, decimal, spaced, bits, letter, vertex_line, point_line, element_line, curve_line}
use Rattle.geom.specs.Memory.{first_of, vertex_row, element_row, element_of, curve_row, parity_of}
use Rattle.geom.specs.Refusals.{curve_lengths}
use Rattle.judge.specs.Words.{word_at}
use Rattle.division.specs.Writing.{written}
use Rattle.listing.specs.declared.lines.Text as Lines
use Rattle.division.specs.Threads.{curve_at}

-- a text stands in the buffer from the place `at` on, and r is the place after it
pub record Put (at : ℕ) (text old new : List ℕ) (r : ℕ) : Type 0 where
  pub next : r ≡ at + length text
  pub bytes : new ≡ written old at text

-- a text that grows goes on in the same buffer, behind what was written
pub record Adds (text : List ℕ) (old new : Lines.Text) : Type 0 where
  pub same : new.out.ghost_name ≡ old.out.ghost_name
  pub put : Put old.at text old.out.now new.out.now new.at

-- and has room there
abbrev pub HasRoom : List ℕ → Lines.Text → Type 0
HasRoom text now = now.at + length text ≤ length now.out.now

-- texts 0, 1, .. one after the other
unfoldable pub together : (ℕ → List ℕ) → ℕ → List ℕ
together text zero = []
together text (suc n) = together text n ++ text n

-- ---- the texts of a mesh in memory, by the places of its words

abbrev pub coordinate_text : List Float → ℕ → ℕ → List ℕ
coordinate_text positions from j = bits (get_or positions (from + j) Binary32.zero)

-- no mark of a vertex is printed
abbrev pub vertex_text : List Float → ℕ → List ℕ
vertex_text positions i = vertex_line i (vertex_row positions [] i)

-- one word of row i as a vertex number, and as a parity
abbrev pub number_text : List ℕ → ℕ → ℕ → ℕ → List ℕ
number_text words width column i = spaced (decimal (word_at words width column i))

abbrev pub letter_text : List ℕ → ℕ → ℕ → ℕ → List ℕ
letter_text words width column i = letter (parity_of (word_at words width column i))

-- the line of a point, an element or a curve: vertex numbers in one column, parities in another
unfoldable pub line_text : ℕ → List ℕ → ℕ → ℕ → ℕ → ℕ → ℕ → List ℕ
line_text name words width column vertices mark parities =
    name ∷ together (number_text words width column) vertices
    ++ together (letter_text words width mark) parities
    ++ NEWLINE ∷ []

abbrev pub point_text : List ℕ → ℕ → List ℕ
point_text words i = point_line (get_or words i 0)

abbrev pub element_text : ℕ → List ℕ → ℕ → ℕ → List ℕ
element_text name words corners i = element_line name (element_of (element_row corners words i))

-- the curves' vertices stand one curve after the other
abbrev pub curve_text : List ℕ → List ℕ → ℕ → List ℕ
curve_text words steps i = curve_line (curve_at words steps (curve_lengths (first_of (curve_row words) i)) i)
