-- The triangles and tetrahedra of lists in memory, and what the entry answers, as the record that the definition gives. And of the tetrahedra that it leaves, that
-- their ledger is that of the cubes with each square cut in two.
-- Says nothing of when a refusal is due, which is the one of `geom`.
-- Assumes nothing.
use Rattle.std.specs.Prelude.{◌≡◌, Bool, ◌&&◌, ℕ, ◌/◌, leb}
use mathlib.Core.List.{List, map, flat_map}
use Rattle.geom.specs.declared.answer.Answer.{Answer}
use Rattle.geom.specs.declared.answer.Sizes.{Sizes}
use Rattle.geom.specs.Answers.{accepted, outcome_of}
use Rattle.geom.specs.Book.{cubes}
use Rattle.geom.specs.Elements.{Element}
use Rattle.geom.specs.Memory.{Bench, first_of, element_row, element_of, rows_of, mesh_of}
use Rattle.geom.specs.Refinement.{LIMIT}
use Rattle.geom.specs.Triangulation.{triangulate_square, triangulate_cube, Cuts, triangulation_verdict, Triangulated, triangulation}
use Rattle.geom.specs.Cutting.{LedgerCut}

-- what the first rows of a list of squares, and of cubes, are cut into
abbrev pub triangles_of : List ℕ → ℕ → List Element
triangles_of squares rows = flat_map triangulate_square (map element_of (first_of (element_row 4 squares) rows))

abbrev pub tetrahedra_of : List ℕ → ℕ → List Element
tetrahedra_of solids rows = flat_map triangulate_cube (map element_of (first_of (element_row 8 solids) rows))

-- 10 for what is to be written, by the lengths of the lent lists
unfoldable pub lengths_hold : ℕ → ℕ → Sizes → Bool
lengths_hold triangles tetrahedra s =
    leb s.areas (triangles / 4)
    && leb s.areas LIMIT
    && leb s.volumes (tetrahedra / 5)
    && leb s.volumes LIMIT

-- the lists lent for triangles and for tetrahedra
abbrev pub cuts : List ℕ → List ℕ → Cuts
cuts triangles tetrahedra = record { areas = triangles; volumes = tetrahedra }

-- the answer, and the lent lists as they are left
abbrev pub answered : Answer → List ℕ → List ℕ → Triangulated
answered r triangles tetrahedra = record { outcome = outcome_of r; out = cuts triangles tetrahedra }

-- the cubes handed in: the words of their list, as many as the caller states
abbrev pub cubes_handed : Sizes → Bench → List Element
cubes_handed s b = (mesh_of (rows_of cubes s b)).lists.volumes

-- the tetrahedra left: the words of the list lent for them, as many as the answer says
abbrev pub tetrahedra_left : Triangulated → List Element
tetrahedra_left t = map element_of (first_of (element_row 4 t.out.volumes) t.outcome.sizes.volumes)

-- The answer and every word of the lent lists are the definition's; and where no refusal is due, the ledger of the tetrahedra left, as it is read, is the
-- ledger of the cubes handed in with each square replaced by its two triangles, read the same way.
pub record Triangulates (s : Sizes) (b : Bench) (lent : Cuts) (t : Triangulated) : Type 0 where
  pub answer : t ≡ triangulation s b lent
  pub ledger : triangulation_verdict s b lent ≡ accepted → LedgerCut s.vertices (cubes_handed s b) (tetrahedra_left t)
