-- What the entry of four dimensions owes of tetrahedra.
-- Assumes nothing.
use mathlib.Core.Path.{◌≡◌, ◌∙◌, sym, ap}
use mathlib.Core.List.{List, flat_map}
use Prim.Native.Nat.{ℕ}
use native.Mathlib.Omega.{arith}
use lib.Ieee.{Float}
use Rattle.numbers.specs.Points4 as Points4
use Rattle.numbers.specs.Normal.{normalised, normalised4, cells, cells4}
use Rattle.geom.specs.declared.answer.Sizes.{Sizes}
use Rattle.geom.specs.Book.{simplices}
use Rattle.geom.specs.Memory.{Bench, first_of, rows_of, mesh_of}
use Rattle.geom.specs.Normals.{gather4, normals4, shaded_by, shading_verdict, shading4}
use Rattle.geom.specs.Turning.{four}
use Rattle.geom.proofs.Accepted.{vertex_count}
use Rattle.geom.proofs.Turning.{shades4}
use Rattle.vertices.specs.Cells.{position_words, vertices_of, elements_of}
use Rattle.normals.specs.Entry.{Entry}
use Rattle.normals.proofs.Door.{volumes_stand}

-- the words of the normals of the vertices that are stated
abbrev words : Sizes → Bench → List Float
words s b =
    flat_map (cells position_words Points4.origin)
    (first_of (λ (v : ℕ). normalised Points4.dot Points4.scaled (gather4 (vertices_of b.positions b.marks s.vertices) v (elements_of 4 b.volumes s.volumes) Points4.origin)) s.vertices)

-- are those of the mesh that the rows stand for
of_mesh4 : (s : Sizes) (b : Bench) → words s b ≡ flat_map cells4 (normals4 (mesh_of (rows_of simplices s b)))
unfolding normals4 rows_of mesh_of cells4 normalised4
of_mesh4 s b =
    ap (λ (n : ℕ). flat_map cells4 (first_of (λ (v : ℕ). normalised4 (gather4 (vertices_of b.positions b.marks s.vertices) v (elements_of 4 b.volumes s.volumes) Points4.origin)) n))
    (sym (vertex_count simplices s b))

pub tetrahedra_entry : Entry four 4 4 (λ (b : Bench). b.volumes) (λ (s : Sizes). s.volumes) words
unfolding shading4
tetrahedra_entry =
    record {
      some = omega arith;
      stand = volumes_stand;
      shades = λ s b lent t e. shades4 s b lent t (e ∙ ap (λ (ws : List Float). shaded_by (shading_verdict 4 s b lent) ws lent) (of_mesh4 s b));
    }
