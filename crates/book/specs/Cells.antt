-- Document 01, section 2: the midpoint book in memory: an index (crate `index`) whose keys are the pairs, a word for each end. Entry e, in order
-- of creation, has its pair in row e.
-- Says nothing of how an entry is found, nor of what the words of a row without an entry are.
-- Assumes nothing.
use Rattle.std.specs.Prelude.{List, [], ◌∷◌, ℕ, ◌+◌}
use Rattle.index.specs.Cells as Index
use Rattle.index.specs.Cells.{pairs, word_at}
use Rattle.index.specs.Trees as Trees
use Rattle.geom.specs.Book.{Pair, pair, Book}
use Rattle.geom.specs.Memory.{first_of}

-- the words of a cell
abbrev pub WORDS : ℕ
WORDS = pairs.row + 2

-- lent cells
abbrev pub cells : List ℕ → ℕ
cells words = Index.cells pairs words

-- the pair of entry e
abbrev pub pair_at : List ℕ → ℕ → Pair
pair_at words e = pair (word_at pairs words e 0) (word_at pairs words e 1)

-- the book that the cells hold: the pairs in order of creation
unfoldable pub pairs_of : List ℕ → ℕ → Book
pairs_of words made = first_of (pair_at words) made

-- a pair as a key
abbrev pub key_of : Pair → List ℕ
key_of q = q.first ∷ q.second ∷ []

-- the cells hold a book of `made` entries; with none, any words do
abbrev pub Linked : List ℕ → ℕ → Type 0
Linked words made = Trees.Linked pairs words made
