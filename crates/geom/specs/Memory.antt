-- Document 01, 'Forms of the Rust that cannot cross' and the refusals: a mesh in memory, as lent words and the counts that the caller states.
-- A cell of a list is a row of words: a vertex is four floats, and flags, tag and k; a point a vertex number; an element its vertex numbers, then its
-- parity; a curve its tag and vertex count; a curve vertex its number, then the parity of the step to the next. The word beside a curve's
-- last vertex belongs to no step: it is never judged and never read; a pass and a file write 0 there.
-- Says nothing of which words are accepted (Refusals). The book's and smoothing's words have no meaning here beyond their number.
-- Assumes nothing.
use mathlib.Core.List.{List, [], ◌∷◌, ◌++◌, map, flat_map}
use Rattle.std.specs.Prelude.{ℕ, zero, suc, ◌+◌, ◌*◌, ◌/◌, min, Float, length, get_or, take, drop, ◌≡◌}
use Rattle.geom.specs.declared.parity.Parity.{Parity}
use Rattle.geom.specs.declared.parity.Parity.TheVariants.{Even, Odd}
use Rattle.geom.specs.declared.vertex.Vertex.{Vertex}
use Rattle.geom.specs.declared.answer.Sizes.{Sizes}
use Rattle.geom.specs.Book.{Kind, cubes, simplices}
use Rattle.geom.specs.Elements.{Element, Curve}
use Rattle.geom.specs.Form.{Fourfold, Form}
use Rattle.geom.specs.Floats.{binary32}
use Rattle.geom.specs.Mesh.{MeshIn}

-- the words of the lists on one bench
pub record BenchIn (F : Form) : Type 0 where
  -- 4 words a vertex
  pub positions : List F.Coordinate
  -- 3 words a vertex: flags, tag, k
  pub marks : List ℕ
  pub points : List ℕ
  -- a word for each corner, then the parity
  pub lines : List ℕ
  pub areas : List ℕ
  pub volumes : List ℕ
  -- 2 words a curve: tag, vertex count
  pub curves : List ℕ
  -- 2 words a curve vertex: number, parity of the step to the next
  pub curve_vertices : List ℕ

abbrev pub Bench : Type 0
Bench = BenchIn binary32

-- the slices of each list are as long on one bench as on another
pub record AsLong {F : Form} (x y : BenchIn F) : Type 0 where
  pub positions : length x.positions ≡ length y.positions
  pub marks : length x.marks ≡ length y.marks
  pub points : length x.points ≡ length y.points
  pub lines : length x.lines ≡ length y.lines
  pub areas : length x.areas ≡ length y.areas
  pub volumes : length x.volumes ≡ length y.volumes
  pub curves : length x.curves ≡ length y.curves
  pub curve_vertices : length x.curve_vertices ≡ length y.curve_vertices

-- how many corners an area and a volume have
abbrev pub area_corners : Kind → ℕ
area_corners cubes = 4
area_corners simplices = 3

abbrev pub volume_corners : Kind → ℕ
volume_corners cubes = 8
volume_corners simplices = 4

-- Lent cells: whole rows; of a list in two slices, the smaller number.
unfoldable pub cells : {F : Form} → Kind → BenchIn F → Sizes
cells kind b =
    record {
      vertices = min (length b.positions / 4) (length b.marks / 3);
      points = length b.points;
      lines = length b.lines / 3;
      areas = length b.areas / suc (area_corners kind);
      volumes = length b.volumes / suc (volume_corners kind);
      curves = length b.curves / 2;
      curve_vertices = length b.curve_vertices / 2;
    }

-- ---- rows read off words

-- an element with its parity word
pub record ElementRow : Type 0 where
  pub corners : List ℕ
  pub parity : ℕ

-- a curve's tag and vertex count
pub record CurveRow : Type 0 where
  pub tag : ℕ
  pub count : ℕ

-- a curve vertex, with the word for the step to the next
pub record StepRow : Type 0 where
  pub vertex : ℕ
  pub step : ℕ

-- all rows of a mesh, as many as are stated; any words and any floats
pub record RowsIn (F : Form) : Type 0 where
  pub vertices : List F.Vertex
  pub points : List ℕ
  pub lines : List ElementRow
  pub areas : List ElementRow
  pub volumes : List ElementRow
  pub curves : List CurveRow
  pub curve_vertices : List StepRow

abbrev pub Rows : Type 0
Rows = RowsIn binary32

-- what stands at 0, 1, .. of n places
unfoldable pub first_of : {A : Type 0} → (ℕ → A) → ℕ → List A
first_of at zero = []
first_of at (suc n) = first_of at n ++ at n ∷ []

-- the four in row i of words
unfoldable pub four_row : {A Four : Type 0} → Fourfold A Four → List A → ℕ → Four
four_row q words i =
    q.four
    (get_or words (4 * i) q.zero)
    (get_or words (4 * i + 1) q.zero)
    (get_or words (4 * i + 2) q.zero)
    (get_or words (4 * i + 3) q.zero)

unfoldable pub vertex_row_in : (F : Form) → List F.Coordinate → List ℕ → ℕ → F.Vertex
vertex_row_in F positions marks i =
    F.vertex
    (four_row F.points positions i)
    (get_or marks (3 * i) 0)
    (get_or marks (3 * i + 1) 0)
    (get_or marks (3 * i + 2) 0)

abbrev pub vertex_row : List Float → List ℕ → ℕ → Vertex
vertex_row = vertex_row_in binary32

unfoldable pub element_row : ℕ → List ℕ → ℕ → ElementRow
element_row corners words i =
    record { corners = take corners (drop (suc corners * i) words); parity = get_or words (suc corners * i + corners) 0 }

unfoldable pub curve_row : List ℕ → ℕ → CurveRow
curve_row words i = record { tag = get_or words (2 * i) 0; count = get_or words (2 * i + 1) 0 }

unfoldable pub step_row : List ℕ → ℕ → StepRow
step_row words i = record { vertex = get_or words (2 * i) 0; step = get_or words (2 * i + 1) 0 }

-- the rows that the caller states
unfoldable pub rows_of : {F : Form} → Kind → Sizes → BenchIn F → RowsIn F
rows_of {F} kind s b =
    record {
      vertices = first_of (vertex_row_in F b.positions b.marks) s.vertices;
      points = first_of (λ (i : ℕ). get_or b.points i 0) s.points;
      lines = first_of (element_row 2 b.lines) s.lines;
      areas = first_of (element_row (area_corners kind) b.areas) s.areas;
      volumes = first_of (element_row (volume_corners kind) b.volumes) s.volumes;
      curves = first_of (curve_row b.curves) s.curves;
      curve_vertices = first_of (step_row b.curve_vertices) s.curve_vertices;
    }

-- ---- the mesh that rows stand for

-- 0 even, 1 odd
abbrev pub parity_of : ℕ → Parity
parity_of zero = Even
parity_of (suc n) = Odd

unfoldable pub element_of : ElementRow → Element
element_of r = record { corners = r.corners; parity = parity_of r.parity }

-- the words of a curve's steps: all but that of its last vertex
unfoldable pub step_words : List StepRow → List ℕ
step_words [] = []
step_words (r ∷ []) = []
step_words (r ∷ s ∷ rs) = r.step ∷ step_words (s ∷ rs)

-- each curve's own rows: the curves' vertices stand one curve after the other
unfoldable pub curve_parts : List CurveRow → List StepRow → List (List StepRow)
curve_parts [] steps = []
curve_parts (c ∷ cs) steps = take c.count steps ∷ curve_parts cs (drop c.count steps)

unfoldable pub curves_of : List CurveRow → List StepRow → List Curve
curves_of [] steps = []
curves_of (c ∷ cs) steps =
    record {
      tag = c.tag;
      vertices = map (λ (r : StepRow). r.vertex) (take c.count steps);
      parities = map parity_of (step_words (take c.count steps));
    }
    ∷ curves_of cs (drop c.count steps)

unfoldable pub mesh_of : {F : Form} → RowsIn F → MeshIn F
mesh_of r =
    record {
      vertices = r.vertices;
      points = r.points;
      lists =
          record {
            lines = map element_of r.lines;
            areas = map element_of r.areas;
            volumes = map element_of r.volumes;
            curves = curves_of r.curves r.curve_vertices;
          };
    }

-- ---- the words that are written for a mesh

abbrev pub parity_word : Parity → ℕ
parity_word Even = 0
parity_word Odd = 1

unfoldable pub element_words : List Element → List ℕ
element_words = flat_map (λ (e : Element). e.corners ++ parity_word e.parity ∷ [])

-- a curve's vertices, each with its step's parity, and 0 beside the last
unfoldable pub steps_words : List ℕ → List Parity → List ℕ
steps_words [] ps = []
steps_words (v ∷ vs) [] = v ∷ 0 ∷ steps_words vs []
steps_words (v ∷ vs) (p ∷ ps) = v ∷ parity_word p ∷ steps_words vs ps

-- a row for each curve, and a row for each vertex of each curve
unfoldable pub curve_words : List Curve → List ℕ
curve_words = flat_map (λ (c : Curve). c.tag ∷ length c.vertices ∷ [])

unfoldable pub vertex_words : List Curve → List ℕ
vertex_words = flat_map (λ (c : Curve). steps_words c.vertices c.parities)

-- the words of four, of a vertex's position and of its marks
abbrev pub four_words : {A Four : Type 0} → Fourfold A Four → Four → List A
four_words q p = q.x p ∷ q.y p ∷ q.z p ∷ q.w p ∷ []

abbrev pub position_words_in : (F : Form) → F.Vertex → List F.Coordinate
position_words_in F v = four_words F.points (F.position v)

abbrev pub mark_words_in : (F : Form) → F.Vertex → List ℕ
mark_words_in F v = F.flags v ∷ F.tag v ∷ F.k v ∷ []

unfoldable pub bench_of : {F : Form} → MeshIn F → BenchIn F
bench_of {F} m =
    record {
      positions = flat_map (position_words_in F) m.vertices;
      marks = flat_map (mark_words_in F) m.vertices;
      points = m.points;
      lines = element_words m.lists.lines;
      areas = element_words m.lists.areas;
      volumes = element_words m.lists.volumes;
      curves = curve_words m.lists.curves;
      curve_vertices = vertex_words m.lists.curves;
    }

-- a lent slice after `out` was written from its start: the cells past it stay
unfoldable pub over : {A : Type 0} → List A → List A → List A
over old out = out ++ drop (length out) old
