-- Document 01, sections 2 to 4 and the refusals, and document 02, U3: what a refinement keeps, beside the ledger of section 5. What is flagged stays where it is, a
-- midpoint lies between its ends on the axes that both have flagged, tag and k are those of one vertex handed in, a join has one colour in both directions, no line
-- has equal ends, no coordinate leaves its range, and the mesh that is left is accepted again.
-- Says nothing of where smoothing puts a vertex on the other axes (Smoothing).
-- Assumes nothing. All of it is claimed of accepted meshes; the cases of Marked have one of each kind.
use Rattle.std.specs.Prelude.{◌≡◌, Bool, true, false, not, List, ℕ, ◌+◌, ◌<◌, eqb, length, get_or}
use Rattle.std.specs.Int.Bits.{bit_and}
use Rattle.geom.specs.Book.{Kind, Pair, pair, Book}
use Rattle.geom.specs.Elements.{Element}
use Rattle.geom.specs.Rules.{line_ends}
use Rattle.geom.specs.Passes.{book_after}
use Rattle.geom.specs.Form.{Fourfold, Form}
use Rattle.geom.specs.Vertices.{flagged, strand_in, vertex_in}
use Rattle.geom.specs.Mesh.{MeshIn, sizes_of}
use Rattle.geom.specs.Answers.{accepted, first_due}
use Rattle.geom.specs.Memory.{BenchIn}
use Rattle.geom.specs.Refusals.{every, good_parity, good_position_in, handed_in, DeskIn, benches_hold, refinement_verdict, StandsFor}

-- ---- axes

pub data Axis : Type 0 where
  x_axis : Axis
  y_axis : Axis
  z_axis : Axis
  w_axis : Axis

-- bit i of the flags is axis i
abbrev pub bit : Axis → ℕ
bit x_axis = 0
bit y_axis = 1
bit z_axis = 2
bit w_axis = 3

-- one of four
abbrev pub on : {A Four : Type 0} → Fourfold A Four → Axis → Four → A
on q x_axis = q.x
on q y_axis = q.y
on q z_axis = q.z
on q w_axis = q.w

-- a vertex's coordinate on an axis
abbrev pub coordinate : (F : Form) → Axis → F.Vertex → F.Coordinate
coordinate F i v = on F.points i (F.position v)

-- the axis is flagged
abbrev pub Pinned : (F : Form) → Axis → F.Vertex → Type 0
Pinned F i v = flagged (F.flags v) (bit i) ≡ true

-- ---- vertices

-- b has a's strand: its tag and its k
pub record SameStrand (F : Form) (a b : F.Vertex) : Type 0 where
  pub tag : F.tag b ≡ F.tag a
  pub k : F.k b ≡ F.k a

-- b is what became of a: flags, tag and k, the coordinate on each flagged axis, and w without smooth_time are a's
pub record Kept (F : Form) (time : Bool) (a b : F.Vertex) : Type 0 where
  pub flags : F.flags b ≡ F.flags a
  pub strand : SameStrand F a b
  pub pinned : (i : Axis) → Pinned F i a → coordinate F i b ≡ coordinate F i a
  pub moment : time ≡ false → coordinate F w_axis b ≡ coordinate F w_axis a

-- v is between a and b: flags on where both are on, tag and k of the end with the smaller k, and on an axis that both have flagged the midpoint's coordinate
pub record Middle (F : Form) (a b v : F.Vertex) : Type 0 where
  pub flags : F.flags v ≡ bit_and (F.flags a) (F.flags b)
  pub strand : SameStrand F (strand_in F a b) v
  pub pinned :
      (i : Axis) → Pinned F i a → Pinned F i b
      → coordinate F i v ≡ on F.points i (F.midpoint (F.position a) (F.position b))

-- the tag and the k of v are, together, those of one of the vertices
pub record Inherits (F : Form) (vertices : List F.Vertex) (v : F.Vertex) : Type 0 where
  pub number : ℕ
  pub below : number < length vertices
  pub strand : SameStrand F (vertex_in F vertices number) v

-- ---- lines

-- the ends differ: not [a,a]
unfoldable pub ends_differ : Element → Bool
ends_differ e = not (eqb (line_ends e).first (line_ends e).second)

-- no line [a,a]
abbrev pub Apart : List Element → Type 0
Apart lines = every ends_differ lines ≡ true

-- ---- the refinement

-- the book after n passes, and the pair of its entry e
abbrev pub book_of : {F : Form} → Kind → MeshIn F → ℕ → Book
book_of kind mesh = book_after kind (length mesh.vertices) mesh.lists

abbrev pub entry : Book → ℕ → Pair
entry book e = get_or book e (pair 0 0)

-- Of the mesh handed in, smooth_time, the number n of whole passes and the mesh left.
pub record Sound {F : Form} (kind : Kind) (mesh : MeshIn F) (time : Bool) (n : ℕ) (left : MeshIn F) : Type 0 where
  -- refusal 6's test passes for every vertex left
  pub coordinates : every (λ (v : F.Vertex). good_position_in F (F.position v)) left.vertices ≡ true
  -- the vertices left: those handed in, and one for each entry of the book
  pub counted : length left.vertices ≡ length mesh.vertices + length (book_of kind mesh n)
  -- each vertex handed in
  pub kept : (v : ℕ) → v < length mesh.vertices → Kept F time (vertex_in F mesh.vertices v) (vertex_in F left.vertices v)
  -- the vertex of each entry of the book, between the ends as they stand in the mesh left
  pub between :
      (e : ℕ) → e < length (book_of kind mesh n)
      → let q = entry (book_of kind mesh n) e in
      Middle F (vertex_in F left.vertices q.first) (vertex_in F left.vertices q.second) (vertex_in F left.vertices (length mesh.vertices + e))
  -- a join has one colour, whichever way its line goes: where the k of the ends differ, the same tag and k has whatever is between these two strands the other way
  -- round, in this mesh or in another
  pub either_way :
      (e : ℕ) → e < length (book_of kind mesh n)
      → let q = entry (book_of kind mesh n) e in
      let first = vertex_in F left.vertices q.first in
      let second = vertex_in F left.vertices q.second in
      (a b v : F.Vertex) → SameStrand F first a → SameStrand F second b → Middle F b a v → (F.k first ≡ F.k second → ⊥)
      → SameStrand F (vertex_in F left.vertices (length mesh.vertices + e)) v
  -- each vertex left, of the vertices handed in
  pub tagged : (v : ℕ) → v < length left.vertices → Inherits F mesh.vertices (vertex_in F left.vertices v)
  -- no line [a,a] after a pass; without one, none where none was handed in
  pub apart : 0 < n → Apart left.lists.lines
  pub no_nearer : Apart mesh.lists.lines → Apart left.lists.lines
  -- accepted again: nothing is due for the mesh left, on any bench on which it stands,
  pub again : (bench : BenchIn F) → StandsFor kind bench left → first_due (handed_in true true kind (sizes_of left) bench) ≡ accepted
  -- so that it is refined further wherever what is lent with it is in order
  pub onward :
      (next : DeskIn F) (byte : ℕ) → StandsFor kind next.first left → benches_hold kind next ≡ true → good_parity byte ≡ true
      → refinement_verdict kind (sizes_of left) next byte ≡ accepted
