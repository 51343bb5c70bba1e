-- Document 01, sections 3 and 4: the vertex rules of a pass. The old vertices stay, the new ones follow in the book's order, and then all are
-- smoothed.
-- Smoothing is said per vertex: what vertex v gathers from the pass's new lists, element by element, and what that makes of v. The positions
-- read are those before smoothing, of old vertices and of this pass's midpoints.
-- Says nothing of the lists themselves (Passes).
-- Assumes nothing.
use Rattle.std.specs.Prelude.{Bool, cond, not, ◌&&◌, ◌||◌, List, [], ◌∷◌, ◌++◌, map, ℕ, suc, eqb, ltb}
use Rattle.numbers.specs.declared.vec4.Vec4.{Vec4}
use Rattle.geom.specs.declared.vertex.Vertex.{Vertex}
use Rattle.geom.specs.Book.{Kind, cubes, simplices, Book}
use Rattle.geom.specs.Elements.{Element, Lists}
use Rattle.geom.specs.Form.{Form}
use Rattle.geom.specs.Floats.{binary32}
use Rattle.geom.specs.Vertices.{flagged, position_in, pair_in}
unfoldable pub use Rattle.geom.specs.Floats.{column_rule, cube_rule, LINE_WEIGHTS, SQUARE_WEIGHTS, CUBE_WEIGHTS, broadcast}

-- the vertices before smoothing: the old ones, then one for each new pair of the book (every end is an old vertex)
unfoldable pub with_midpoints_in : (F : Form) → List F.Vertex → Book → List F.Vertex
with_midpoints_in F vertices new = vertices ++ map (pair_in F vertices) new

-- ---- what a vertex gathers

-- the sum of what was added, how many they were, and the rank of the kind that touched the vertex last, 0 for none
pub record GatheredIn (F : Form) : Type 0 where
  pub sum : F.Sum
  pub count : ℕ
  pub touch : ℕ

-- before anything is added
unfoldable pub nothing : {F : Form} → GatheredIn F
nothing {F} = record { sum = F.none; count = 0; touch = 0 }

-- An update is ignored where a lower kind touched that vertex.
unfoldable pub ignored : {F : Form} → ℕ → GatheredIn F → Bool
ignored rank g = ltb 0 g.touch && ltb g.touch rank

-- one update by an element of the rank
unfoldable pub update : {F : Form} → ℕ → F.Sum → GatheredIn F → GatheredIn F
update {F} rank p g =
    cond (ignored rank g)
    g
    (record { sum = F.add g.sum p; count = suc g.count; touch = rank })

-- an element's result goes to each corner, a repeated corner each time: what v gets of it
unfoldable pub to_corners : {F : Form} → ℕ → F.Sum → ℕ → List ℕ → GatheredIn F → GatheredIn F
to_corners rank p v [] g = g
to_corners rank p v (c ∷ cs) g = to_corners rank p v cs (cond (eqb c v) (update rank p g) g)

-- what v gathers from the elements of one list, in list order; `result` takes the positions of an element's corners to what it gives
unfoldable pub gather : {F : Form} → ℕ → (List F.Point → F.Sum) → List F.Vertex → ℕ → List Element → GatheredIn F → GatheredIn F
gather rank result vertices v [] g = g
gather {F} rank result vertices v (e ∷ es) g =
    gather rank result vertices v es (to_corners rank (result (map (position_in F vertices) e.corners)) v e.corners g)

-- Simplices: over tetrahedra, triangles, lines. All have one rank, so no update is ignored.
-- Cubes: lines, squares, cubes, in rising rank.
unfoldable pub gathered_in : (F : Form) → Kind → Lists → List F.Vertex → ℕ → GatheredIn F
gathered_in F simplices l vertices v =
    gather 1 F.segment vertices v l.lines
    (gather 1 F.triangle vertices v l.areas (gather 1 F.tetrahedron vertices v l.volumes nothing))
gathered_in F cubes l vertices v =
    gather 3 F.cube vertices v l.volumes
    (gather 2 F.square vertices v l.areas
    (gather 1 F.line vertices v l.lines nothing))

-- ---- what becomes of a vertex

-- each axis that isn't flagged, and w only with smooth_time: whether axis i is replaced
unfoldable pub replaced : Bool → ℕ → ℕ → Bool
replaced time flags i = not (flagged flags i) && (time || not (eqb i 3))

-- the position that a mean makes of a vertex
unfoldable pub moved_in : (F : Form) → Bool → F.Vertex → F.Point → F.Point
moved_in F time v p =
    F.points.four
    (cond (replaced time (F.flags v) 0) (F.points.x p) (F.points.x (F.position v)))
    (cond (replaced time (F.flags v) 1) (F.points.y p) (F.points.y (F.position v)))
    (cond (replaced time (F.flags v) 2) (F.points.z p) (F.points.z (F.position v)))
    (cond (replaced time (F.flags v) 3) (F.points.w p) (F.points.w (F.position v)))

-- Then sum/count replaces each axis that isn't flagged, and w only with smooth_time; a count of 0 changes nothing.
unfoldable pub settled_in : (F : Form) → Bool → F.Vertex → GatheredIn F → F.Vertex
settled_in F time v g =
    cond (eqb g.count 0)
    v
    (F.vertex (moved_in F time v (F.mean g.sum g.count)) (F.flags v) (F.tag v) (F.k v))

-- the vertices from number n on
unfoldable pub settled_from_in : (F : Form) → Kind → Bool → Lists → List F.Vertex → ℕ → List F.Vertex → List F.Vertex
settled_from_in F kind time l vertices n [] = []
settled_from_in F kind time l vertices n (v ∷ vs) =
    settled_in F time v (gathered_in F kind l vertices n) ∷ settled_from_in F kind time l vertices (suc n) vs

-- all vertices, smoothed over the new lists
unfoldable pub smoothed_in : (F : Form) → Kind → Bool → Lists → List F.Vertex → List F.Vertex
smoothed_in F kind time l vertices = settled_from_in F kind time l vertices 0 vertices

-- ---- in binary32

abbrev pub with_midpoints : List Vertex → Book → List Vertex
with_midpoints = with_midpoints_in binary32

abbrev pub Gathered : Type 0
Gathered = GatheredIn binary32

abbrev pub gathered : Kind → Lists → List Vertex → ℕ → Gathered
gathered = gathered_in binary32

abbrev pub moved : Bool → Vertex → Vec4 → Vec4
moved = moved_in binary32

abbrev pub settled : Bool → Vertex → Gathered → Vertex
settled = settled_in binary32

abbrev pub smoothed : Kind → Bool → Lists → List Vertex → List Vertex
smoothed = smoothed_in binary32
