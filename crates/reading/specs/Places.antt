-- The lists of a file by their places: where each count stands, the mesh that the bytes at those places are, and what a file is found to be.
-- Says nothing of what is right to read, which is geom's File.
-- Assumes nothing.
use Rattle.std.specs.Prelude.{◌≡◌, List, [], ℕ, ◌+◌, ◌*◌, ◌≤◌, ◌<◌, Result, Ok, Err, length}
use Rattle.geom.specs.declared.answer.Sizes.{Sizes}
use Rattle.geom.specs.declared.refusal.Refusal.{Refusal}
use Rattle.geom.specs.Answers.{number_of}
use Rattle.geom.specs.Book.{Kind}
use Rattle.geom.specs.Kinds.{kind_of}
use Rattle.geom.specs.Mesh.{Mesh, sizes_of}
use Rattle.geom.specs.Memory.{area_corners, volume_corners}
use Rattle.geom.specs.File.{read, stop, figure}
use Rattle.fields.specs.Fields.{word_at, vertices_at, numbers_at, wide, elements_at, curve_place, curves_at}
use Rattle.reading.specs.declared.judging.Mesh as Found

-- ---- by places

-- where the count of each list stands; that of the vertices stands behind version and kind
abbrev pub points_place : Sizes → ℕ
points_place s = 6 + 25 * s.vertices

abbrev pub lines_place : Sizes → ℕ
lines_place s = points_place s + 4 + 4 * s.points

abbrev pub areas_place : Sizes → ℕ
areas_place s = lines_place s + 4 + 9 * s.lines

abbrev pub volumes_place : Kind → Sizes → ℕ
volumes_place kind s = areas_place s + 4 + wide (area_corners kind) * s.areas

abbrev pub curves_place : Kind → Sizes → ℕ
curves_place kind s = volumes_place kind s + 4 + wide (volume_corners kind) * s.volumes

-- where the file ends
abbrev pub end_place : Kind → Sizes → ℕ
end_place kind s = curves_place kind s + 4 + (5 * s.curve_vertices + 7 * s.curves)

-- the mesh of these sizes that the bytes are
unfoldable pub mesh_at : Kind → Sizes → List ℕ → Mesh
mesh_at kind s bytes =
    record {
      vertices = vertices_at bytes 6 s.vertices;
      points = numbers_at bytes (points_place s + 4) s.points;
      lists =
          record {
            lines = elements_at 2 bytes (lines_place s + 4) s.lines;
            areas = elements_at (area_corners kind) bytes (areas_place s + 4) s.areas;
            volumes = elements_at (volume_corners kind) bytes (volumes_place kind s + 4) s.volumes;
            curves = curves_at bytes (curves_place kind s + 4) s.curves;
          };
    }

-- ---- what is found

-- each list fits its lent cells
pub record Fits (s lent : Sizes) : Type 0 where
  pub vertices : s.vertices ≤ lent.vertices
  pub points : s.points ≤ lent.points
  pub lines : s.lines ≤ lent.lines
  pub areas : s.areas ≤ lent.areas
  pub volumes : s.volumes ≤ lent.volumes
  pub curves : s.curves ≤ lent.curves
  pub steps : s.curve_vertices ≤ lent.curve_vertices

-- the bytes are a mesh of these sizes, and each of its curves has vertices
pub record Lain (kind : Kind) (s : Sizes) (bytes : List ℕ) : Type 0 where
  pub sizes : sizes_of (mesh_at kind s bytes) ≡ s
  pub whole : end_place kind s ≡ length bytes
  pub curves : curve_place bytes (curves_place kind s + 4) s.curves ≡ end_place kind s
  pub some : (i : ℕ) → i < s.curves → 0 < word_at bytes (curve_place bytes (curves_place kind s + 4) i + 4)

-- the mesh is read from the file
pub record Figured (kind : Kind) (s : Sizes) (lent : Kind → Sizes) (bytes : List ℕ) : Type 0 where
  pub reads : figure lent bytes ≡ read (record { kind = kind; mesh = mesh_at kind s bytes }) []
  pub lain : Lain kind s bytes
  pub fits : Fits s (lent kind)

abbrev pub Finds : Result Found.Mesh Refusal → (Kind → Sizes) → List ℕ → Type 0
Finds (Ok m) lent bytes = Figured (kind_of m.kind) m.sizes lent bytes
Finds (Err r) lent bytes = figure lent bytes ≡ stop (number_of r)
