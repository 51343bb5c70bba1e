-- Document 02, U5: what becomes of the normals when every parity of a simplex mesh is changed, in the words that the entries leave. A Flat normal stays Flat.
-- Elsewhere each component whose sum isn't zero changes its sign bit alone, and every other is +0 both times. It goes by the sum: a component whose sum isn't
-- zero may itself round to a zero, and then +0 and -0 stand opposite.
-- Says nothing of a mesh that is refused.
-- Assumes nothing.
use Rattle.std.specs.Prelude.{◌≡◌, ◌⊎◌, Bool, true, false, List, [], ◌∷◌, map, ℕ, ◌+◌, ◌*◌, ◌/◌, ◌^◌, ◌≤◌, ◌<◌, Float, length, take, drop}
use Rattle.std.specs.Float.{binary32}
use Rattle.std.specs.Float.Ieee.{eq, to_bits}
use Rattle.numbers.specs.declared.vec3.Vec3.{Vec3}
use Rattle.numbers.specs.declared.vec4.Vec4.{Vec4}
use Rattle.numbers.specs.Binary32.{zero}
use Rattle.numbers.specs.Points4 as Points4
use Rattle.numbers.specs.Normal.{flat3, flat4}
use Rattle.geom.specs.declared.answer.Sizes.{Sizes}
use Rattle.geom.specs.Parity.{flipped}
use Rattle.geom.specs.Book.{simplices}
use Rattle.geom.specs.Elements.{Element, Curve}
use Rattle.geom.specs.Answers.{accepted}
use Rattle.geom.specs.Mesh.{Mesh}
use Rattle.geom.specs.Memory.{Bench, rows_of, mesh_of}
use Rattle.geom.specs.Refusals.{StandsFor}
use Rattle.geom.specs.Normals.{gather3, origin3, gather4, Shaded, shading3, shading4}

-- ---- every parity changed

unfoldable pub flipped_element : Element → Element
flipped_element e = record { corners = e.corners; parity = flipped e.parity }

unfoldable pub flipped_curve : Curve → Curve
flipped_curve c = record { tag = c.tag; vertices = c.vertices; parities = map flipped c.parities }

unfoldable pub flipped_mesh : Mesh → Mesh
flipped_mesh m =
    record {
      vertices = m.vertices;
      points = m.points;
      lists =
          record {
            lines = map flipped_element m.lists.lines;
            areas = map flipped_element m.lists.areas;
            volumes = map flipped_element m.lists.volumes;
            curves = map flipped_curve m.lists.curves;
          };
    }

-- ---- the components of a normal

-- one pattern is the other and 2 ^ 31: the sign bit alone differs
abbrev pub SignChanged : Float → Float → Type 0
SignChanged a b = (to_bits binary32 b ≡ to_bits binary32 a + 2 ^ 31) ⊎ (to_bits binary32 a ≡ to_bits binary32 b + 2 ^ 31)

-- a component of which s is the sum, before and after
pub record Turned (s before after : Float) : Type 0 where
  pub sign : eq s zero ≡ false → SignChanged before after
  pub none : eq s zero ≡ true → (before ≡ zero) × (after ≡ zero)

-- all of them, one by one
unfoldable pub Turns : List Float → List Float → List Float → Type 0
Turns [] [] [] = Unit
Turns [] [] (b ∷ bs) = ⊥
Turns [] (a ∷ es) bs = ⊥
Turns (s ∷ ss) [] bs = ⊥
Turns (s ∷ ss) (a ∷ es) [] = ⊥
Turns (s ∷ ss) (a ∷ es) (b ∷ bs) = Turned s a b × Turns ss es bs

-- ---- the entries

-- what the normals of a dimension are made of: the words of a cell, the entry, the components of vertex v's sum, and whether its normal is Flat
pub record Dimension : Type 0 where
  pub width : ℕ
  pub shading : Sizes → Bench → List Float → Shaded
  pub sum : Mesh → ℕ → List Float
  pub flat : Mesh → ℕ → Bool

abbrev pub sum3 : Mesh → ℕ → Vec3
sum3 m v = gather3 m.vertices v m.lists.areas origin3

abbrev pub sum4 : Mesh → ℕ → Vec4
sum4 m v = gather4 m.vertices v m.lists.volumes Points4.origin

abbrev pub three : Dimension
three =
    record {
      width = 3;
      shading = shading3;
      sum = λ m v. let s = sum3 m v in s.x ∷ s.y ∷ s.z ∷ [];
      flat = λ m v. flat3 (sum3 m v);
    }

abbrev pub four : Dimension
four =
    record {
      width = 4;
      shading = shading4;
      sum = λ m v. let s = sum4 m v in s.x ∷ s.y ∷ s.z ∷ s.w ∷ [];
      flat = λ m v. flat4 (sum4 m v);
    }

-- the cell of vertex v in a list of normals
abbrev pub cell_at : ℕ → List Float → ℕ → List Float
cell_at width normals v = take width (drop (width * v) normals)

-- +0 in every place
abbrev pub flat_cell : List Float → List Float
flat_cell sum = map (λ (s : Float). zero) sum

-- the normal of vertex v in two lists of normals, of a mesh and of the same with every parity changed: Flat both times or neither
pub record Opposite (d : Dimension) (m : Mesh) (v : ℕ) (before after : List Float) : Type 0 where
  pub flat : d.flat (flipped_mesh m) v ≡ d.flat m v
  pub none :
      d.flat m v ≡ true
      → (cell_at d.width before v ≡ flat_cell (d.sum m v)) × (cell_at d.width after v ≡ flat_cell (d.sum m v))
  pub turns : d.flat m v ≡ false → Turns (d.sum m v) (cell_at d.width before v) (cell_at d.width after v)

-- what an entry gives and leaves of words that stand for the mesh with every parity changed: it isn't refused where a cell is lent for each vertex, and
-- the normals are opposite
pub record Mirrors (d : Dimension) (s : Sizes) (m : Mesh) (normals : List Float) (other : Bench) (lent : List Float) : Type 0 where
  pub accepts : (d.shading s other lent).verdict ≡ accepted
  pub opposite : (v : ℕ) → v < s.vertices → Opposite d m v normals (d.shading s other lent).out

-- The answer and every word of the lent list are the definition's; and where no refusal is due, U5.
pub record Shades (d : Dimension) (s : Sizes) (b : Bench) (lent : List Float) (t : Shaded) : Type 0 where
  pub answer : t ≡ d.shading s b lent
  pub mirrors :
      t.verdict ≡ accepted → (other : Bench) (other_lent : List Float) → StandsFor simplices other (flipped_mesh (mesh_of (rows_of simplices s b)))
      → s.vertices ≤ length other_lent / d.width
      → Mirrors d s (mesh_of (rows_of simplices s b)) t.out other other_lent
