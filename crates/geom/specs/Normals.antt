-- Document 01, section 7, and document 02, U5: the normals of a simplex mesh, in three dimensions from its triangles and in four from its tetrahedra; and the
-- two entries.
-- Said per vertex: the sum that vertex v gathers in mesh order, from +0, and then normalised (section 1, in `numbers`).
-- Says nothing of a normal's length.
-- Assumes nothing.
use Rattle.std.specs.Prelude.{Bool, true, cond, not, ◌&&◌, ℕ, ◌/◌, eqb, leb, Float, Option, length}
use mathlib.Core.List.{List, [], ◌∷◌, ◌++◌, flat_map}
use Rattle.std.specs.Float.Ieee.{neg}
use Rattle.numbers.specs.declared.vec3.Vec3.{Vec3}
use Rattle.numbers.specs.declared.vec4.Vec4.{Vec4}
use Rattle.numbers.specs.Binary32.{◌⊖◌, ◌⊗◌, zero, one, count}
use Rattle.numbers.specs.Points3 as Points3
use Rattle.numbers.specs.Points4 as Points4
use Rattle.numbers.specs.Normal.{normalised3, normalised4, cells3, cells4}
use Rattle.geom.specs.declared.parity.Parity.{Parity}
use Rattle.geom.specs.declared.vertex.Vertex.{Vertex}
use Rattle.geom.specs.declared.answer.Sizes.{Sizes}
use Rattle.geom.specs.Book.{simplices}
use Rattle.geom.specs.Elements.{Element, point_at}
use Rattle.geom.specs.Vertices.{position_at}
use Rattle.geom.specs.Answers.{Verdict, accepted, refused, due, first_due}
use Rattle.geom.specs.Mesh.{Mesh}
use Rattle.geom.specs.Memory.{Bench, rows_of, parity_word, mesh_of, first_of, over}
use Rattle.geom.specs.Refusals.{handed_in}

-- U5: the sign by parity, 1 minus twice the parity byte
unfoldable pub sign : Parity → Float
sign p = one ⊖ count 2 ⊗ count (parity_word p)

-- the position of corner i
abbrev pub corner : List Vertex → Element → ℕ → Vec4
corner vertices e i = position_at vertices (point_at e.corners i)

-- what goes to each corner, a repeated corner each time: what v gets of it
unfoldable pub to_corners : {A : Type 0} → (A → A → A) → A → ℕ → List ℕ → A → A
to_corners add n v [] s = s
to_corners add n v (c ∷ cs) s = to_corners add n v cs (cond (eqb c v) (add s n) s)

-- ---- 3D

-- the axes x, y and z of a point
unfoldable pub xyz : Vec4 → Vec3
xyz p = record { x = p.x; y = p.y; z = p.z }

-- sign times cross(v2 - v1, v3 - v2)
unfoldable pub area_normal : List Vertex → Element → Vec3
area_normal vertices e =
    let v1 = xyz (corner vertices e 0) in
    let v2 = xyz (corner vertices e 1) in
    let v3 = xyz (corner vertices e 2) in
    Points3.scaled (sign e.parity) (Points3.cross (Points3.difference v2 v1) (Points3.difference v3 v2))

-- three different corners
unfoldable pub three_corners : List ℕ → Bool
three_corners c =
    not (eqb (point_at c 0) (point_at c 1)) && not (eqb (point_at c 1) (point_at c 2)) && not (eqb (point_at c 2) (point_at c 0))

-- Triangles with three different corners, added to each corner: what v gathers.
unfoldable pub gather3 : List Vertex → ℕ → List Element → Vec3 → Vec3
gather3 vertices v [] s = s
gather3 vertices v (e ∷ es) s =
    gather3 vertices v es
    (cond (three_corners e.corners) (to_corners Points3.sum (area_normal vertices e) v e.corners s) s)

-- +0 on each axis: where the sum starts
abbrev pub origin3 : Vec3
origin3 = record { x = zero; y = zero; z = zero }

unfoldable pub normals3 : Mesh → List (Option Vec3)
normals3 m =
    first_of (λ (v : ℕ). normalised3 (gather3 m.vertices v m.lists.areas origin3)) (length m.vertices)

-- ---- 4D

-- one axis of the three differences from corner 0
unfoldable pub axis : (Vec4 → Float) → Vec4 → Vec4 → Vec4 → Vec3
axis of a b c = record { x = of a; y = of b; z = of c }

-- sign times the minors, with the signs -, +, -, +
unfoldable pub volume_normal : List Vertex → Element → Vec4
volume_normal vertices e =
    let a = Points4.difference (corner vertices e 1) (corner vertices e 0) in
    let b = Points4.difference (corner vertices e 2) (corner vertices e 0) in
    let c = Points4.difference (corner vertices e 3) (corner vertices e 0) in
    let xs = axis (λ (p : Vec4). p.x) a b c in
    let ys = axis (λ (p : Vec4). p.y) a b c in
    let zs = axis (λ (p : Vec4). p.z) a b c in
    let ws = axis (λ (p : Vec4). p.w) a b c in
    Points4.scaled (sign e.parity)
    (record {
      x = neg (Points3.determinant ys zs ws);
      y = Points3.determinant xs zs ws;
      z = neg (Points3.determinant xs ys ws);
      w = Points3.determinant xs ys zs;
    })

-- Every tetrahedron, added to each corner: what v gathers.
unfoldable pub gather4 : List Vertex → ℕ → List Element → Vec4 → Vec4
gather4 vertices v [] s = s
gather4 vertices v (e ∷ es) s =
    gather4 vertices v es (to_corners Points4.sum (volume_normal vertices e) v e.corners s)

unfoldable pub normals4 : Mesh → List (Option Vec4)
normals4 m =
    first_of (λ (v : ℕ). normalised4 (gather4 m.vertices v m.lists.volumes Points4.origin)) (length m.vertices)

-- ---- the entries

-- how it ended, and the lent list of normals afterwards
pub record Shaded : Type 0 where
  pub verdict : Verdict
  pub out : List Float

abbrev pub shaded_by : Verdict → List Float → List Float → Shaded
shaded_by (refused n) words out = record { verdict = refused n; out = out }
shaded_by accepted words out = record { verdict = accepted; out = over out words }

-- 10 where the lent list has fewer cells, of `width` words, than there are vertices
unfoldable pub shading_verdict : ℕ → Sizes → Bench → List Float → Verdict
shading_verdict width s b out =
    first_due (handed_in true true simplices s b ++ due 10 (not (leb s.vertices (length out / width))) ∷ [])

-- In the lent list of normals Flat is written as +0 in every place (`cells3`, `cells4`).
unfoldable pub shading3 : Sizes → Bench → List Float → Shaded
shading3 s b out =
    shaded_by (shading_verdict 3 s b out) (flat_map cells3 (normals3 (mesh_of (rows_of simplices s b)))) out

unfoldable pub shading4 : Sizes → Bench → List Float → Shaded
shading4 s b out =
    shaded_by (shading_verdict 4 s b out) (flat_map cells4 (normals4 (mesh_of (rows_of simplices s b)))) out
