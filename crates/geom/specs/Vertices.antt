-- Document 01, section 2, and document 02, U3: the vertex, over a form, and the vertex that is made in the middle of two.
-- Says nothing of which pairs get one (Book), nor of what smoothing does with it afterwards (Smoothing).
-- Assumes nothing. Of a flag word any number is taken; that it has four bits is judged elsewhere (Refusals).
use Rattle.std.specs.Prelude.{Bool, cond, List, ℕ, ◌/◌, ◌%◌, ◌^◌, eqb, ltb, get_or}
use Rattle.std.specs.Int.Bits.{bit_and}
use Rattle.numbers.specs.declared.vec4.Vec4.{Vec4}
use Rattle.geom.specs.declared.vertex.Vertex.{Vertex}
use Rattle.geom.specs.Book.{Pair}
use Rattle.geom.specs.Form.{Form}
use Rattle.geom.specs.Floats.{binary32}

-- bit i of the flags is axis i
unfoldable pub flagged : ℕ → ℕ → Bool
flagged flags i = eqb (flags / 2 ^ i % 2) 1

-- U3: the end whose tag and k a midpoint takes, the one with the smaller k, and the first on a tie. Only here is k interpreted.
unfoldable pub strand_in : (F : Form) → F.Vertex → F.Vertex → F.Vertex
strand_in F a b = cond (ltb (F.k b) (F.k a)) b a

-- the form's midpoint, flags on where both are on, tag and k both of that end
unfoldable pub midpoint_in : (F : Form) → F.Vertex → F.Vertex → F.Vertex
midpoint_in F a b =
    F.vertex
    (F.midpoint (F.position a) (F.position b))
    (bit_and (F.flags a) (F.flags b))
    (F.tag (strand_in F a b))
    (F.k (strand_in F a b))

-- the vertex with a number; past the list's end one at the origin
abbrev pub vertex_in : (F : Form) → List F.Vertex → ℕ → F.Vertex
vertex_in F vertices v = get_or vertices v (F.vertex F.origin 0 0 0)

-- the position of the vertex with a number
abbrev pub position_in : (F : Form) → List F.Vertex → ℕ → F.Point
position_in F vertices v = F.position (vertex_in F vertices v)

-- the vertex that a pair of the book makes
unfoldable pub pair_in : (F : Form) → List F.Vertex → Pair → F.Vertex
pair_in F vertices q = midpoint_in F (vertex_in F vertices q.first) (vertex_in F vertices q.second)

-- ---- in binary32: position 0.5·(A + B) per axis

abbrev pub strand : Vertex → Vertex → Vertex
strand = strand_in binary32

abbrev pub midpoint_vertex : Vertex → Vertex → Vertex
midpoint_vertex = midpoint_in binary32

abbrev pub vertex_at : List Vertex → ℕ → Vertex
vertex_at = vertex_in binary32

abbrev pub position_at : List Vertex → ℕ → Vec4
position_at = position_in binary32

abbrev pub pair_vertex : List Vertex → Pair → Vertex
pair_vertex = pair_in binary32
