-- Document 01, section 2 and 8: a mesh, and how many entries each of its lists has.
-- Says nothing of the kind, nor whether the mesh is accepted.
-- Assumes nothing.
use Rattle.std.specs.Prelude.{List, [], ◌∷◌, ℕ, ◌+◌, length}
use Rattle.geom.specs.declared.answer.Sizes.{Sizes}
use Rattle.geom.specs.Elements.{Curve, Lists}
use Rattle.geom.specs.Form.{Form}
use Rattle.geom.specs.Floats.{binary32}

pub record MeshIn (F : Form) : Type 0 where
  pub vertices : List F.Vertex
  pub points : List ℕ
  pub lists : Lists

abbrev pub Mesh : Type 0
Mesh = MeshIn binary32

-- curve vertices over all curves
unfoldable pub curve_vertices_of : List Curve → ℕ
curve_vertices_of [] = 0
curve_vertices_of (c ∷ cs) = length c.vertices + curve_vertices_of cs

-- the sizes of a mesh's lists
unfoldable pub sizes_of : {F : Form} → MeshIn F → Sizes
sizes_of m =
    record {
      vertices = length m.vertices;
      points = length m.points;
      lines = length m.lists.lines;
      areas = length m.lists.areas;
      volumes = length m.lists.volumes;
      curves = length m.lists.curves;
      curve_vertices = curve_vertices_of m.lists.curves;
    }
