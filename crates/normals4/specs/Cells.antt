-- What a tetrahedron adds to a vertex's sum, one step of geom's `gather4`; and the minors, four at once.
-- Says nothing of when a mesh is refused.
-- Assumes nothing.
use Rattle.std.specs.Prelude.{◌≡◌, refl, ℕ, List, [], ◌∷◌, ◌++◌}
use Rattle.std.specs.Float.Ieee.{neg}
use Rattle.numbers.specs.Binary32.{◌⊗◌}
use Rattle.numbers.specs.Points3 as Points3
use Rattle.numbers.specs.Points4 as Points4
use Rattle.numbers.specs.declared.vec4.Vec4.{Vec4}
use Rattle.geom.specs.declared.parity.Parity.{Parity}
use Rattle.geom.specs.declared.vertex.Vertex.{Vertex}
use Rattle.geom.specs.Elements.{Element}
use Rattle.geom.specs.Normals.{sign, to_corners, axis, volume_normal, gather4}
use Rattle.normals.specs.Cells.{Folds}

-- what vertex u has after one tetrahedron
unfoldable pub volume_step : List Vertex → Element → ℕ → Vec4 → Vec4
volume_step vertices e u s = to_corners Points4.sum (volume_normal vertices e) u e.corners s

-- `gather4` is that of each tetrahedron in turn
gather4_snoc : (vertices : List Vertex) (u : ℕ) (es : List Element) (e : Element) (s : Vec4) → gather4 vertices u (es ++ e ∷ []) s ≡ volume_step vertices e u (gather4 vertices u es s)
unfolding gather4 volume_step
gather4_snoc vertices u [] e s = refl
gather4_snoc vertices u (x ∷ es) e s = gather4_snoc vertices u es e (volume_step vertices x u s)

pub tetrahedra : Folds gather4 volume_step
unfolding gather4
tetrahedra = record { none = λ vertices u s. refl; snoc = gather4_snoc }

-- the products of two points, axis by axis
abbrev pub products : Vec4 → Vec4 → Vec4
products p q = record { x = p.x ⊗ q.x; y = p.y ⊗ q.y; z = p.z ⊗ q.z; w = p.w ⊗ q.w }

-- where each axis in turn is left out, the first, second and third of those that are left
abbrev pub first_axes : Vec4 → Vec4
first_axes p = record { x = p.y; y = p.x; z = p.x; w = p.x }

abbrev pub second_axes : Vec4 → Vec4
second_axes p = record { x = p.z; y = p.z; z = p.y; w = p.y }

abbrev pub third_axes : Vec4 → Vec4
third_axes p = record { x = p.w; y = p.w; z = p.w; w = p.z }

-- p·s - q·r, axis by axis
abbrev pub cross_products : Vec4 → Vec4 → Vec4 → Vec4 → Vec4
cross_products p q r s = Points4.difference (products p s) (products q r)

-- the minors of three differences: for each axis the determinant of the other three
unfoldable pub minors_of : Vec4 → Vec4 → Vec4 → Vec4
minors_of a b c =
    let xs = axis (λ (p : Vec4). p.x) a b c in
    let ys = axis (λ (p : Vec4). p.y) a b c in
    let zs = axis (λ (p : Vec4). p.z) a b c in
    let ws = axis (λ (p : Vec4). p.w) a b c in
    record {
      x = Points3.determinant ys zs ws;
      y = Points3.determinant xs zs ws;
      z = Points3.determinant xs ys ws;
      w = Points3.determinant xs ys zs;
    }

-- their signs, -, +, -, +, each times the sign by parity
abbrev pub signs_of : Parity → Vec4
signs_of p = record { x = neg (sign p); y = sign p; z = neg (sign p); w = sign p }
