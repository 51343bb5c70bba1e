-- Document 02, U8, computed: the eight cubes around a 4D cube. They close, whichever of their sixteen vertices coincide. On sixteen different vertices they meet
-- every premise of the chain. With vertices 0, 1 and 3 made one they close too, and their tetrahedra keep two entries, both with equal neighbours: what is
-- claimed of the reading can't be claimed of the whole ledger.
-- Assumes nothing.
use mathlib.Core.Path.{◌≡◌, refl, sym, ◌∙◌, ap}
use mathlib.Core.Bool.{true, cond}
use mathlib.Core.List.{List, [], ◌∷◌, ◌++◌, flat_map}
use Prim.Native.Nat.{ℕ, ◌*◌, ◌/◌, ◌%◌}
use lib.Ieee as Ieee
use lib.IntN.{ℤ, pos, neg_ℤ}
use lib.ListN.{length, replicate}
use Rattle.numbers.specs.Binary32.{count}
use Rattle.geom.specs.declared.parity.Parity.TheVariants.{Even}
use Rattle.geom.specs.Book.{cubes, simplices}
use Rattle.geom.specs.Elements.{Element, Row, pick, shut, flat, pieces}
use Rattle.geom.specs.Rules.{same, turned}
use Rattle.geom.specs.Cubes.{SQUARE_AXES, CUBE_AXES}
use Rattle.geom.specs.Ledger.{same_list, spread, CUBE_FACES, faces, ledger, Closed}
use Rattle.geom.specs.Mesh.{Mesh, curve_vertices_of, sizes_of}
use Rattle.geom.specs.Answers.{accepted, first_due}
use Rattle.geom.specs.Refinement.{within}
use Rattle.geom.specs.Memory.{cells, first_of, vertex_row_in, four_row, element_row, rows_of, step_words, curve_parts, element_of, curves_of, mesh_of, element_words, curve_words, vertex_words, bench_of}
use Rattle.geom.specs.Refusals.{every, good_flags, good_parity, good_coordinate, good_position_in, good_number, curve_lengths, counts_hold, marks_hold, positions_hold, numbers_hold, handed_in, Desk, benches_equal, benches_hold, refinement_verdict, StandsFor}
use Rattle.geom.specs.Triangulation.{triangulate_square, triangulate_cube, triangulated, Cuts, cuts_hold, triangulation_verdict}
use Rattle.geom.specs.Cutting.{among, different, Different}
use Rattle.geom.proofs.Lists.{up_from}
use Rattle.geom.proofs.Spread.{raw}
use Rattle.geom.proofs.Chains.{under, within as places_within, rows_within, seats, raw_under, strike, cancel, negated, same_sum}
use Rattle.geom.proofs.Cells.{Sized, either, pieces_add}

-- Bit i of a place is its side on axis i; the two cubes across each axis, with opposite parities.
abbrev AROUND : List Row
AROUND =
    same (0 ∷ 2 ∷ 4 ∷ 6 ∷ 8 ∷ 10 ∷ 12 ∷ 14 ∷ []) ∷
    turned (1 ∷ 3 ∷ 5 ∷ 7 ∷ 9 ∷ 11 ∷ 13 ∷ 15 ∷ []) ∷
    turned (0 ∷ 1 ∷ 4 ∷ 5 ∷ 8 ∷ 9 ∷ 12 ∷ 13 ∷ []) ∷
    same (2 ∷ 3 ∷ 6 ∷ 7 ∷ 10 ∷ 11 ∷ 14 ∷ 15 ∷ []) ∷
    same (0 ∷ 1 ∷ 2 ∷ 3 ∷ 8 ∷ 9 ∷ 10 ∷ 11 ∷ []) ∷
    turned (4 ∷ 5 ∷ 6 ∷ 7 ∷ 12 ∷ 13 ∷ 14 ∷ 15 ∷ []) ∷
    turned (0 ∷ 1 ∷ 2 ∷ 3 ∷ 4 ∷ 5 ∷ 6 ∷ 7 ∷ []) ∷
    same (8 ∷ 9 ∷ 10 ∷ 11 ∷ 12 ∷ 13 ∷ 14 ∷ 15 ∷ []) ∷
    []

-- over any sixteen vertices, as section 3 drops flat cubes
abbrev pub around : List ℕ → List Element
around vertices = pieces CUBE_AXES Even vertices AROUND

sized : Sized 8 AROUND
sized = (refl, (refl, (refl, (refl, (refl, (refl, (refl, (refl, tt))))))))

seated : seats AROUND CUBE_FACES ≡ true
unfolding seats rows_within places_within
seated = refl

cancels : cancel (under AROUND CUBE_FACES ++ negated []) ≡ []
unfolding cancel strike under negated pick same_list
cancels = refl

pub around_closes : (vertices : List ℕ) → Closed (ledger cubes (around vertices))
unfolding Closed raw
around_closes vertices t =
    pieces_add cubes Even vertices AROUND t sized
    ∙ ap (λ (x : ℤ). cond (flat SQUARE_AXES t) (pos 0) x)
    (sym (raw_under (pos 1) vertices AROUND CUBE_FACES t seated) ∙ same_sum (under AROUND CUBE_FACES) [] cancels (pos 1) vertices t)
    ∙ either (flat SQUARE_AXES t)

-- ---- sixteen vertices: every premise of U8 is met

-- a vertex at each corner of the 4D cube, and the eight cubes
abbrev pub figure : Mesh
figure =
    record {
      vertices =
          first_of (λ (i : ℕ). record { position = record { x = count (i % 2); y = count (i / 2 % 2); z = count (i / 4 % 2); w = count (i / 8) }; flags = 0; tag = 0; k = 0 })
          16;
      points = [];
      lists = record { lines = []; areas = []; volumes = around (up_from 0 16); curves = [] };
    }

-- lent for a mesh: two benches with its words, and smoothing's cells
abbrev pub desk_for : Mesh → Desk
desk_for m =
    let n = length m.vertices in
    record { first = bench_of m; second = bench_of m; book = []; sums = replicate (4 * n) (count 0); tallies = replicate (2 * n) 0 }

-- lent for its 48 tetrahedra
abbrev pub cuts_for : Cuts
cuts_for = record { areas = []; volumes = replicate 240 0 }

-- The cubes stand on the bench, close and are accepted; so are their tetrahedra, which have different corners.
pub record Met : Type 0 where
  pub stand : StandsFor cubes (bench_of figure) figure
  pub closed : Closed (ledger cubes figure.lists.volumes)
  pub taken : refinement_verdict cubes (sizes_of figure) (desk_for figure) 0 ≡ accepted
  pub cut : triangulation_verdict (sizes_of figure) (bench_of figure) cuts_for ≡ accepted
  pub apart : Different (triangulated figure).lists.volumes
  pub stand_cut : StandsFor simplices (bench_of (triangulated figure)) (triangulated figure)
  pub again : refinement_verdict simplices (sizes_of (triangulated figure)) (desk_for (triangulated figure)) 0 ≡ accepted

pub met : Met
unfolding Ieee.of_int Ieee.le Ieee.add flat_map pieces flat shut pick curve_vertices_of sizes_of first_due within cells first_of vertex_row_in four_row element_row rows_of step_words curve_parts element_of curves_of mesh_of element_words curve_words vertex_words bench_of every good_flags good_parity good_coordinate good_position_in good_number curve_lengths counts_hold marks_hold positions_hold numbers_hold handed_in benches_equal benches_hold refinement_verdict StandsFor triangulate_square triangulate_cube triangulated cuts_hold triangulation_verdict among different
met =
    record {
      stand = (refl, refl, refl);
      closed = around_closes (up_from 0 16);
      taken = refl;
      cut = refl;
      apart = refl;
      stand_cut = (refl, refl, refl);
      again = refl;
    }

-- ---- vertices 0, 1 and 3 made one

abbrev pub folded : List Element
folded = around (0 ∷ 0 ∷ 2 ∷ 0 ∷ 4 ∷ 5 ∷ 6 ∷ 7 ∷ 8 ∷ 9 ∷ 10 ∷ 11 ∷ 12 ∷ 13 ∷ 14 ∷ 15 ∷ [])

pub folded_eight : length folded ≡ 8
unfolding pieces flat shut pick
folded_eight = refl

pub folded_keeps_more : ledger simplices (flat_map triangulate_cube folded) (0 ∷ 0 ∷ 11 ∷ []) ≡ pos 1
unfolding ledger faces spread same_list flat_map triangulate_cube pieces flat shut pick
folded_keeps_more = refl

pub folded_keeps_less : ledger simplices (flat_map triangulate_cube folded) (0 ∷ 0 ∷ 7 ∷ []) ≡ neg_ℤ (pos 1)
unfolding ledger faces spread same_list flat_map triangulate_cube pieces flat shut pick
folded_keeps_less = refl
