-- The elements that normals come from; the lent normals as cells of words, and what they hold vertex by vertex while sums are gathered: over the corner
-- count and the width of a cell.
-- Says nothing of what an element adds.
-- Assumes nothing.
use Rattle.std.specs.Prelude.{◌≡◌, List, [], ◌∷◌, ◌++◌, ℕ, suc, ◌+◌, ◌*◌, ◌≤◌, ◌<◌, Float, cond, eqb, length, get_or, drop}
use Rattle.std.proofs.lemmas.List.Edits.{sets}
use Rattle.numbers.specs.Binary32 as Binary32
use Rattle.numbers.specs.Points3 as Points3
use Rattle.numbers.specs.declared.vec3.Vec3.{Vec3}
use Rattle.geom.specs.declared.vertex.Vertex.{Vertex}
use Rattle.geom.specs.Elements.{Element}
use Rattle.geom.specs.Memory.{element_row, element_of}
use Rattle.vertices.specs.Cells.{Elements}

-- element i, from the words that stand for it
abbrev pub element_at : ℕ → List ℕ → ℕ → Element
element_at corners words i = element_of (element_row corners words i)

-- elements stand in the slice, with corners below the count, and each has a parity of 0 or 1
pub record Signed (words : List ℕ) (corners n count : ℕ) : Type 0 where
  pub elements : Elements words corners n count
  pub parity : (i : ℕ) → i < n → get_or words (suc corners * i + corners) 0 ≤ 1

-- corners that are vertices below the count
pub record Below (corners : List ℕ) (count : ℕ) : Type 0 where
  pub below : (k : ℕ) → k < length corners → get_or corners k 0 < count

-- the first words are +0, and the others what they were
pub record Cleared (held : List Float) (words : ℕ) (cells : List Float) : Type 0 where
  pub clear : (j : ℕ) → j < words → get_or cells j Binary32.zero ≡ Binary32.zero
  pub rest : drop words cells ≡ drop words held

-- what each vertex's row holds; the words past the rows are what they were
pub record Holds {A : Type 0} (row : List Float → ℕ → A) (width count : ℕ) (held : List Float) (value : ℕ → A) (cells : List Float) : Type 0 where
  pub rows : (u : ℕ) → u < count → row cells u ≡ value u
  pub rest : drop (width * count) cells ≡ drop (width * count) held

-- the words of a vector of three components, and the vector in row i of 3 floats
abbrev pub vector_words : Vec3 → List Float
vector_words = Points3.components

unfoldable pub vector_row : List Float → ℕ → Vec3
vector_row words i =
    record {
      x = get_or words (3 * i) Binary32.zero;
      y = get_or words (3 * i + 1) Binary32.zero;
      z = get_or words (3 * i + 2) Binary32.zero;
    }

-- what is owed of a row: it is as wide as its words, is read back as it was written, and is read off no other words
pub record Reads {A : Type 0} (row : List Float → ℕ → A) (words : A → List Float) (width : ℕ) (origin : A) : Type 0 where
  pub wide : (p : A) → length (words p) ≡ width
  pub put : (l : List Float) (v : ℕ) (p : A) → width * v + width ≤ length l → (u : ℕ) → row (sets l (width * v) (words p)) u ≡ cond (eqb v u) p (row l u)
  pub past : (l ws : List Float) (a i : ℕ) → a + length ws ≤ width * i → row (sets l a ws) i ≡ row l i
  pub cleared : (l : List Float) (n : ℕ) → ((j : ℕ) → j < width * n → get_or l j Binary32.zero ≡ Binary32.zero) → (u : ℕ) → u < n → row l u ≡ origin

-- a definition that goes through the elements from the front, with its step at the back
pub record Folds {A : Type 0} (gather : List Vertex → ℕ → List Element → A → A) (step : List Vertex → Element → ℕ → A → A) : Type 0 where
  pub none : (vertices : List Vertex) (u : ℕ) (s : A) → gather vertices u [] s ≡ s
  pub snoc : (vertices : List Vertex) (u : ℕ) (es : List Element) (e : Element) (s : A) → gather vertices u (es ++ e ∷ []) s ≡ step vertices e u (gather vertices u es s)
