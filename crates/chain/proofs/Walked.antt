-- Document 02, U8: the chain walked, at depth 0, from the eight cubes around a 4D cube on. So three calls as the theorem takes them exist, each on what the one
-- before left.
-- Assumes nothing.
use mathlib.Core.Path.{◌≡◌, refl, sym, ◌∙◌, ap, subst}
use mathlib.Core.Bool.{false}
use mathlib.Core.List.{flat_map}
use Rattle.geom.specs.Book.{Kind, cubes, simplices}
use Rattle.geom.specs.Ledger.{ledger, Closed}
use Rattle.geom.specs.Answers.{Verdict, Told, accepted}
use Rattle.geom.specs.Mesh.{Mesh, sizes_of}
use Rattle.geom.specs.Memory.{rows_of, mesh_of, bench_of}
use Rattle.geom.specs.Refinement.{Run, run, run_from, told_by}
use Rattle.geom.specs.Refusals.{Subdivided, ran, subdivided_by, subdivided, told_after, lent_by, refinement_verdict, side, StandsFor, Leaves}
use Rattle.geom.specs.Triangulation.{triangulate_cube, triangulated, triangulation}
use Rattle.geom.specs.Cutting.{Different}
use Rattle.geom.proofs.Around.{figure, desk_for, cuts_for, met}
use Rattle.geom.proofs.Stays.{steady_binary32}
use Rattle.subdivision.proofs.Keeping.{refines}
use Rattle.triangulation.proofs.Keeping.{left_are, triangulates}
use Rattle.chain.specs.Calls.{Refining, volumes_left, Cutting, printed, Follows, Ends}
use Rattle.chain.proofs.Through.{closed_through}

-- a refinement at depth 0 of a mesh whose words fill what is lent
module _ (kind : Kind) (m : Mesh) (stand : StandsFor kind (bench_of m) m) (taken : refinement_verdict kind (sizes_of m) (desk_for m) 0 ≡ accepted) where
  abbrev handed_in : Mesh
  handed_in = mesh_of (rows_of kind (sizes_of m) (bench_of m))

  own : handed_in ≡ m
  unfolding StandsFor
  own = stand.2

  abbrev r : Run
  r = run kind false (lent_by kind (desk_for m)) 0 handed_in

  ran_is : subdivided kind (sizes_of m) (desk_for m) 0 0 ≡ ran r
  unfolding subdivided
  ran_is = ap (λ (v : Verdict). subdivided_by v r) taken

  abbrev told : Told
  told = record { passes = 0; sizes = sizes_of m; verdict = accepted }

  pub answer : told ≡ told_after (sizes_of m) (subdivided kind (sizes_of m) (desk_for m) 0 0)
  unfolding told_after told_by run run_from
  answer =
      ap (λ (x : Mesh). record { passes = 0; sizes = sizes_of x; verdict = accepted }) (sym own) ∙ ap (told_after (sizes_of m)) (sym ran_is)

  pub leaves : Leaves kind (subdivided kind (sizes_of m) (desk_for m) 0 0) (desk_for m) (desk_for m)
  unfolding Leaves run run_from side
  leaves =
      subst (λ (x : Subdivided). Leaves kind x (desk_for m) (desk_for m)) (sym ran_is) (subst (StandsFor kind (bench_of m)) (sym own) stand, refl)

  abbrev still : Refining kind
  still =
      record {
        sizes = sizes_of m;
        lent = desk_for m;
        depth = 0;
        time = 0;
        left = desk_for m;
        told = told;
        promised = refines steady_binary32 kind (sizes_of m) (desk_for m) (desk_for m) 0 0 answer leaves;
        taken = taken;
      }

abbrev first : Refining cubes
first = still cubes figure met.stand met.taken

abbrev second : Cutting
second =
    record {
      sizes = sizes_of figure;
      words = bench_of figure;
      lent = cuts_for;
      answer = triangulation (sizes_of figure) (bench_of figure) cuts_for;
      promised = triangulates (sizes_of figure) (bench_of figure) cuts_for refl;
      taken = met.cut;
    }

abbrev third : Refining simplices
third = still simplices (triangulated figure) met.stand_cut met.again

follows : Follows first second
unfolding side
follows = refl

-- the tetrahedra left are those of the figure
printed_are : printed second ≡ (triangulated figure).lists.volumes
unfolding triangulated
printed_are =
    left_are (sizes_of figure) (bench_of figure) cuts_for refl met.cut
    ∙ ap (λ (x : Mesh). flat_map triangulate_cube x.lists.volumes) (own cubes figure met.stand met.taken)

ends : Ends second third
ends = ap (λ (x : Mesh). x.lists.volumes) (own simplices (triangulated figure) met.stand_cut met.again) ∙ sym printed_are

pub walked : Closed (ledger simplices (volumes_left third))
walked =
    (closed_through first second follows
    (subst (λ (x : Mesh). Closed (ledger cubes x.lists.volumes)) (sym (own cubes figure met.stand met.taken)) met.closed)
    ).whole
    (subst Different (sym printed_are) met.apart)
    third
    ends
