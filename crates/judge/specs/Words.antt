-- What the loops of the judge ask of words in rows, and where those words stand.
-- Says nothing of which list the rows belong to.
-- Assumes nothing.
use Rattle.std.specs.Prelude.{◌≡◌, Bool, List, ℕ, suc, ◌+◌, ◌*◌, ◌≤◌, ◌<◌, length, get_or}
use Rattle.geom.specs.Memory.{first_of, curve_row}
use Rattle.geom.specs.Refusals.{every, good_number, curve_lengths}

-- one word of row i
abbrev pub word_at : List ℕ → ℕ → ℕ → ℕ → ℕ
word_at words width column i = get_or words (width * i + column) 0

-- that word is below the bound in each row
abbrev pub column_below : List ℕ → ℕ → ℕ → ℕ → ℕ → Bool
column_below words width column rows bound = every (good_number bound) (first_of (word_at words width column) rows)

-- each of the first words is below the bound
abbrev pub words_below : List ℕ → ℕ → ℕ → Bool
words_below words end bound = every (good_number bound) (first_of (λ (i : ℕ). get_or words i 0) end)

-- that word stands in the slice for each row
pub record Column (words : List ℕ) (width column rows : ℕ) : Type 0 where
  pub stands : (i : ℕ) → i < rows → width * i + column < length words

-- whole elements stand in the slice, a word for each corner, then the parity
pub record Elements (words : List ℕ) (corners rows : ℕ) : Type 0 where
  pub few : corners ≤ 8
  pub room : suc corners * rows ≤ length words

-- the curves and their vertices stand in their slices, and the curves' lengths add up to the vertices
pub record Parts (curves : List ℕ) (rows : ℕ) (steps : List ℕ) (total : ℕ) : Type 0 where
  pub room : 2 * rows ≤ length curves
  pub vertices : 2 * total ≤ length steps
  pub sum : curve_lengths (first_of (curve_row curves) rows) ≡ total
