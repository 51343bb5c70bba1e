-- Document 01, section 6: cubes cut into simplices, as one mesh to another and as the entry over lent lists.
-- Vertices, points, lines and curves stay; the new areas and volumes go into lists lent for them.
-- Says nothing of the ledger of what comes out (Cutting).
-- Assumes nothing.
use Rattle.std.specs.Prelude.{Bool, true, not, ◌&&◌, ℕ, ◌/◌, leb, length}
use mathlib.Core.List.{List, [], ◌∷◌, ◌++◌, flat_map}
use Rattle.geom.specs.declared.answer.Sizes.{Sizes}
use Rattle.geom.specs.Book.{cubes, Pair, pair}
use Rattle.geom.specs.Elements.{Element, Row, pieces}
use Rattle.geom.specs.Rules.{same, turned}
use Rattle.geom.specs.Answers.{Verdict, accepted, refused, Outcome, due, first_due}
use Rattle.geom.specs.Mesh.{Mesh, sizes_of}
use Rattle.geom.specs.Refinement.{LIMIT}
use Rattle.geom.specs.Memory.{Bench, rows_of, mesh_of, element_words, over}
use Rattle.geom.specs.Refusals.{handed_in}

-- Square: [0,1,3] even, [0,2,3] odd.
abbrev pub TRI_ASSEMBLY_ORDER : List Row
TRI_ASSEMBLY_ORDER =
    same (0 ∷ 1 ∷ 3 ∷ []) ∷
    turned (0 ∷ 2 ∷ 3 ∷ []) ∷
    []

-- Cube: [0,1,3,7] even, [0,1,5,7] odd, [0,2,3,7] odd, [0,2,6,7] even, [0,4,5,7] even, [0,4,6,7] odd.
abbrev pub TETRA_ASSEMBLY_ORDER : List Row
TETRA_ASSEMBLY_ORDER =
    same (0 ∷ 1 ∷ 3 ∷ 7 ∷ []) ∷
    turned (0 ∷ 1 ∷ 5 ∷ 7 ∷ []) ∷
    turned (0 ∷ 2 ∷ 3 ∷ 7 ∷ []) ∷
    same (0 ∷ 2 ∷ 6 ∷ 7 ∷ []) ∷
    same (0 ∷ 4 ∷ 5 ∷ 7 ∷ []) ∷
    turned (0 ∷ 4 ∷ 6 ∷ 7 ∷ []) ∷
    []

-- A piece with equal neighbours in its list is dropped: each pair of neighbours alone.
abbrev pub TRI_NEIGHBOURS : List (List Pair)
TRI_NEIGHBOURS =
    (pair 0 1 ∷ []) ∷
    (pair 1 2 ∷ []) ∷
    []

abbrev pub TETRA_NEIGHBOURS : List (List Pair)
TETRA_NEIGHBOURS =
    (pair 0 1 ∷ []) ∷
    (pair 1 2 ∷ []) ∷
    (pair 2 3 ∷ []) ∷
    []

-- Parities multiply.
unfoldable pub triangulate_square : Element → List Element
triangulate_square e = pieces TRI_NEIGHBOURS e.parity e.corners TRI_ASSEMBLY_ORDER

unfoldable pub triangulate_cube : Element → List Element
triangulate_cube e = pieces TETRA_NEIGHBOURS e.parity e.corners TETRA_ASSEMBLY_ORDER

-- in list order
unfoldable pub triangulated : Mesh → Mesh
triangulated m =
    record {
      vertices = m.vertices;
      points = m.points;
      lists =
          record {
            lines = m.lists.lines;
            areas = flat_map triangulate_square m.lists.areas;
            volumes = flat_map triangulate_cube m.lists.volumes;
            curves = m.lists.curves;
          };
    }

-- ---- the entry

-- the lists lent for triangles, 4 words a cell, and for tetrahedra, 5 words a cell
pub record Cuts : Type 0 where
  pub areas : List ℕ
  pub volumes : List ℕ

-- 10 for what is to be written: more than the lent cells or the limit
unfoldable pub cuts_hold : Cuts → Sizes → Bool
cuts_hold out s =
    leb s.areas (length out.areas / 4)
    && leb s.areas LIMIT
    && leb s.volumes (length out.volumes / 5)
    && leb s.volumes LIMIT

-- the refusal that is due: those of a mesh in memory, then 10 for what is to be written
unfoldable pub triangulation_verdict : Sizes → Bench → Cuts → Verdict
triangulation_verdict s b out =
    let m = triangulated (mesh_of (rows_of cubes s b)) in
    first_due (handed_in true true cubes s b ++ due 10 (not (cuts_hold out (sizes_of m))) ∷ [])

-- what the answer says, and the lent lists afterwards
pub record Triangulated : Type 0 where
  pub outcome : Outcome
  pub out : Cuts

abbrev pub triangulated_by : Verdict → Sizes → Mesh → Cuts → Triangulated
triangulated_by (refused n) s m out = record { outcome = record { sizes = s; verdict = refused n }; out = out }
triangulated_by accepted s m out =
    record {
      outcome = record { sizes = sizes_of m; verdict = accepted };
      out =
          record {
            areas = over out.areas (element_words m.lists.areas);
            volumes = over out.volumes (element_words m.lists.volumes);
          };
    }

-- From the words handed in: refused, and nothing changes, the sizes being those stated; or written, with the sizes of the new mesh.
unfoldable pub triangulation : Sizes → Bench → Cuts → Triangulated
triangulation s b out =
    triangulated_by (triangulation_verdict s b out) s (triangulated (mesh_of (rows_of cubes s b))) out
