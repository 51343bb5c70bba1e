-- The words that are written into each list, and what writing them asks of the file and of the lists.
-- Says nothing of what is right to read, which is geom's File, nor of which words stand for a mesh, which is geom's Memory.
-- Assumes nothing.
use Rattle.std.specs.Prelude.{◌≡◌, cond, List, [], ◌∷◌, ◌++◌, ℕ, suc, ◌+◌, ◌-◌, ◌*◌, ◌≤◌, ◌<◌, ltb, length}
use Rattle.std.proofs.lemmas.List.Edits.{sets}
use Rattle.geom.specs.declared.answer.Sizes.{Sizes}
use Rattle.geom.specs.Book.{Kind}
use Rattle.geom.specs.Elements as Elements
use Rattle.geom.specs.Mesh.{curve_vertices_of}
use Rattle.geom.specs.Memory.{Bench, cells, parity_word, steps_words, curve_words, vertex_words, over}
use Rattle.fields.specs.Fields.{word_at, parity_at, numbers_at, parities_at, wide, curve_at, curve_place, curves_at}
use Rattle.reading.specs.Places.{Fits, Lain}

-- the words of an element
abbrev pub row_words : Elements.Element → List ℕ
row_words e = e.corners ++ parity_word e.parity ∷ []

-- the word beside vertex j of a curve whose vertices begin at a place
unfoldable pub step_word : List ℕ → ℕ → ℕ → ℕ → ℕ
step_word bytes at count j = cond (ltb (j + 1) count) (parity_word (parity_at bytes (at + 4 * count + j))) 0

-- the words of a curve's vertices
unfoldable pub steps_at : List ℕ → ℕ → ℕ → List ℕ
steps_at bytes at count = steps_words (numbers_at bytes at count) (parities_at bytes (at + 4 * count) (count - 1))

-- n numbers stand in the file, and there is room for them
pub record Words (bytes : List ℕ) (at : ℕ) (out : List ℕ) (from n : ℕ) : Type 0 where
  pub stand : at + 4 * n ≤ length bytes
  pub room : from + n ≤ length out

-- n elements
pub record Rows (bytes : List ℕ) (at : ℕ) (out : List ℕ) (corners n : ℕ) : Type 0 where
  pub few : corners ≤ 8
  pub stand : at + wide corners * n ≤ length bytes
  pub room : suc corners * n ≤ length out

-- the vertices of a curve, and one parity fewer
pub record Steps (bytes : List ℕ) (at count : ℕ) : Type 0 where
  pub some : 0 < count
  pub stand : at + 5 * count ≤ length bytes + 1

-- a curve, with room in row i and behind the vertices before it
pub record Curve (bytes : List ℕ) (at : ℕ) (curves steps : List ℕ) (i from : ℕ) : Type 0 where
  pub some : 0 < word_at bytes (at + 4)
  pub stand : at + (5 * word_at bytes (at + 4) + 7) ≤ length bytes
  pub row : 2 * i + 1 < length curves
  pub room : 2 * (from + word_at bytes (at + 4)) ≤ length steps

-- n curves
pub record Curves (bytes : List ℕ) (at : ℕ) (curves steps : List ℕ) (n : ℕ) : Type 0 where
  pub some : (i : ℕ) → i < n → 0 < word_at bytes (curve_place bytes at i + 4)
  pub stand : curve_place bytes at n ≤ length bytes
  pub rows : 2 * n ≤ length curves
  pub room : 2 * curve_vertices_of (curves_at bytes at n) ≤ length steps

-- a curve was written, and has r vertices
pub record Wind (bytes : List ℕ) (at : ℕ) (curves steps : List ℕ) (i from r : ℕ) (curves' steps' : List ℕ) : Type 0 where
  pub count : r ≡ word_at bytes (at + 4)
  pub rows : curves' ≡ sets curves (2 * i) ((curve_at bytes at).tag ∷ length (curve_at bytes at).vertices ∷ [])
  pub words : steps' ≡ sets steps (2 * from) (steps_words (curve_at bytes at).vertices (curve_at bytes at).parities)

-- curves were written
pub record Winded (cs : List Elements.Curve) (curves steps curves' steps' : List ℕ) : Type 0 where
  pub rows : curves' ≡ over curves (curve_words cs)
  pub words : steps' ≡ over steps (vertex_words cs)

-- the bytes are a mesh of these sizes, which fits the lent cells
pub record Ready (kind : Kind) (s : Sizes) (bytes : List ℕ) (b : Bench) : Type 0 where
  pub lain : Lain kind s bytes
  pub fits : Fits s (cells kind b)
