-- The sizes of a mesh that was cut: as many triangles and tetrahedra as there are pieces, and all other counts as stated.
-- Assumes nothing.
use mathlib.Core.Path.{◌≡◌, sym}
use Prim.Native.Nat.{ℕ}
use lib.ListN.{length}
use Rattle.geom.specs.declared.answer.Sizes.{Sizes}
use Rattle.geom.specs.Book.{cubes}
use Rattle.geom.specs.Mesh.{sizes_of}
use Rattle.geom.specs.Memory.{Bench, first_of, curve_row, rows_of, mesh_of}
use Rattle.geom.specs.Refusals.{curve_lengths}
use Rattle.geom.specs.Triangulation.{triangulated}
use Rattle.geom.proofs.Stated.{sizes_stated}
use Rattle.triangulation.specs.Entry.{triangles_of, tetrahedra_of}

-- a mesh whose squares and cubes were cut
pub sizes_cut :
    (s : Sizes) (b : Bench) {a v : ℕ} → a ≡ length (triangles_of b.areas s.areas) → v ≡ length (tetrahedra_of b.volumes s.volumes)
    → curve_lengths (first_of (curve_row b.curves) s.curves) ≡ s.curve_vertices
    → sizes_of (triangulated (mesh_of (rows_of cubes s b)))
    ≡ record {
      vertices = s.vertices;
      points = s.points;
      lines = s.lines;
      areas = a;
      volumes = v;
      curves = s.curves;
      curve_vertices = s.curve_vertices;
    }
unfolding sizes_of triangulated mesh_of rows_of
sizes_cut s b ea ev e =
    let q = sizes_stated cubes s b e in
    λ i.
    record {
      vertices = (q i).vertices;
      points = (q i).points;
      lines = (q i).lines;
      areas = sym ea i;
      volumes = sym ev i;
      curves = (q i).curves;
      curve_vertices = (q i).curve_vertices;
    }
