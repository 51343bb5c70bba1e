-- What a triangle adds to a vertex's sum: one step of geom's `gather3`.
-- Says nothing of when a mesh is refused.
-- Assumes nothing.
use Rattle.std.specs.Prelude.{◌≡◌, refl, cond, List, [], ◌∷◌, ◌++◌, ℕ}
use Rattle.numbers.specs.Points3 as Points3
use Rattle.numbers.specs.declared.vec3.Vec3.{Vec3}
use Rattle.geom.specs.declared.vertex.Vertex.{Vertex}
use Rattle.geom.specs.Elements.{Element}
use Rattle.geom.specs.Normals.{to_corners, area_normal, three_corners, gather3}
use Rattle.normals.specs.Cells.{Folds}

-- what vertex u has after one triangle: nothing more where two corners are the same
unfoldable pub area_step : List Vertex → Element → ℕ → Vec3 → Vec3
area_step vertices e u s = cond (three_corners e.corners) (to_corners Points3.sum (area_normal vertices e) u e.corners s) s

-- `gather3` is that of each triangle in turn
gather3_snoc : (vertices : List Vertex) (u : ℕ) (es : List Element) (e : Element) (s : Vec3) → gather3 vertices u (es ++ e ∷ []) s ≡ area_step vertices e u (gather3 vertices u es s)
unfolding gather3 area_step
gather3_snoc vertices u [] e s = refl
gather3_snoc vertices u (x ∷ es) e s = gather3_snoc vertices u es e (area_step vertices x u s)

pub triangles : Folds gather3 area_step
unfolding gather3
triangles = record { none = λ vertices u s. refl; snoc = gather3_snoc }
