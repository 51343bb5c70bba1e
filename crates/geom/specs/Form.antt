-- The number form of a mesh: what its coordinates are, and what the vertex rules do with them. All that counts, orders, judges, lends or writes entries
-- (Mesh, Refinement, Memory, Refusals) is said over a form, once; so are the parts of the vertex rules that no coordinate decides (Vertices, Smoothing).
-- Says nothing of lists, of the book or of the ledger: these know no form.
-- Assumes nothing. `axes_of_lem`, `own`, `parts_of` and `whole` are equations that hold by computation where the point, the sum and the vertex are structs.
use Rattle.std.specs.Prelude.{◌≡◌, Bool, List, ℕ}

-- four of A carried together: axes x, y, z, w
pub record Fourfold (A Four : Type 0) : Type 0 where
  pub four : A → A → A → A → Four
  pub x : Four → A
  pub y : Four → A
  pub z : Four → A
  pub w : Four → A
  -- past the end of the words this one is read
  pub zero : A
  -- four have the axes that they are made of, and are made of the axes that they have
  pub axes_of_lem : (a b c d : A) → (x (four a b c d) ≡ a) × (y (four a b c d) ≡ b) × (z (four a b c d) ≡ c) × (w (four a b c d) ≡ d)
  pub own : (p : Four) → four (x p) (y p) (z p) (w p) ≡ p

pub record Form : Type 1 where
  -- a word of a lent position, and whether it is accepted: 6
  pub Coordinate : Type 0
  pub good : Coordinate → Bool
  -- four of them
  pub Point : Type 0
  pub points : Fourfold Coordinate Point
  -- a position, flags, tag, k
  pub Vertex : Type 0
  pub vertex : Point → ℕ → ℕ → ℕ → Vertex
  pub position : Vertex → Point
  pub flags : Vertex → ℕ
  pub tag : Vertex → ℕ
  pub k : Vertex → ℕ
  -- a vertex has the parts that it is made of, and is made of the parts that it has
  pub parts_of :
      (p : Point) (f t n : ℕ)
      → (position (vertex p f t n) ≡ p) × (flags (vertex p f t n) ≡ f) × (tag (vertex p f t n) ≡ t) × (k (vertex p f t n) ≡ n)
  pub whole : (v : Vertex) → vertex (position v) (flags v) (tag v) (k v) ≡ v
  -- the point in the middle of two, and the one that is read past the vertices' end
  pub midpoint : Point → Point → Point
  pub origin : Point
  -- smoothing: a word of its lent sums, four of them, none yet, and one more
  pub Cell : Type 0
  pub Sum : Type 0
  pub sums : Fourfold Cell Sum
  pub none : Sum
  pub add : Sum → Sum → Sum
  -- what an element gives to each corner, from the positions of its corners: simplices, cubes
  pub segment : List Point → Sum
  pub triangle : List Point → Sum
  pub tetrahedron : List Point → Sum
  pub line : List Point → Sum
  pub square : List Point → Sum
  pub cube : List Point → Sum
  -- the point that a sum of so many makes
  pub mean : Sum → ℕ → Point
