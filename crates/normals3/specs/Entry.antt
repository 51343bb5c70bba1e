-- What the entry of three dimensions owes of triangles.
-- Assumes nothing.
use mathlib.Core.Path.{◌≡◌, ◌∙◌, sym, ap}
use mathlib.Core.List.{List, flat_map}
use Prim.Native.Nat.{ℕ}
use native.Mathlib.Omega.{arith}
use lib.Ieee.{Float}
use Rattle.numbers.specs.Points3 as Points3
use Rattle.numbers.specs.Normal.{normalised, normalised3, cells, cells3}
use Rattle.geom.specs.declared.answer.Sizes.{Sizes}
use Rattle.geom.specs.Book.{simplices}
use Rattle.geom.specs.Memory.{Bench, first_of, rows_of, mesh_of}
use Rattle.geom.specs.Normals.{gather3, normals3, shaded_by, shading_verdict, shading3}
use Rattle.geom.specs.Turning.{three}
use Rattle.geom.proofs.Accepted.{vertex_count}
use Rattle.geom.proofs.Turning.{shades3}
use Rattle.vertices.specs.Cells.{vertices_of, elements_of}
use Rattle.normals.specs.Cells.{vector_words}
use Rattle.normals.specs.Entry.{Entry}
use Rattle.normals.proofs.Door.{areas_stand}

-- the words of the normals of the vertices that are stated
abbrev words : Sizes → Bench → List Float
words s b =
    flat_map (cells vector_words Points3.origin)
    (first_of (λ (v : ℕ). normalised Points3.dot Points3.scaled (gather3 (vertices_of b.positions b.marks s.vertices) v (elements_of 3 b.areas s.areas) Points3.origin)) s.vertices)

-- are those of the mesh that the rows stand for
of_mesh3 : (s : Sizes) (b : Bench) → words s b ≡ flat_map cells3 (normals3 (mesh_of (rows_of simplices s b)))
unfolding normals3 rows_of mesh_of cells3 normalised3
of_mesh3 s b =
    ap (λ (n : ℕ). flat_map cells3 (first_of (λ (v : ℕ). normalised3 (gather3 (vertices_of b.positions b.marks s.vertices) v (elements_of 3 b.areas s.areas) Points3.origin)) n))
    (sym (vertex_count simplices s b))

pub triangles_entry : Entry three 3 3 (λ (b : Bench). b.areas) (λ (s : Sizes). s.areas) words
unfolding shading3
triangles_entry =
    record {
      some = omega arith;
      stand = areas_stand;
      shades = λ s b lent t e. shades3 s b lent t (e ∙ ap (λ (ws : List Float). shaded_by (shading_verdict 3 s b lent) ws lent) (of_mesh3 s b));
    }
