-- What a refinement keeps of every accepted mesh, of either kind, at every depth and with every lending, in every steady form: the record `Sound` of specs.
-- Acceptance is the only premise on the mesh: no refusal is due for what is handed in.
-- Assumes nothing.
use mathlib.Core.Path.{◌≡◌}
use mathlib.Core.Bool.{Bool}
use Prim.Native.Nat.{ℕ}
use lib.Dec.{eqb}
use lib.ListN.{length}
use Rattle.geom.specs.declared.answer.Sizes.{Sizes}
use Rattle.geom.specs.Book.{Kind}
use Rattle.geom.specs.Form.{Form}
use Rattle.geom.specs.Mesh.{MeshIn}
use Rattle.geom.specs.Answers.{accepted}
use Rattle.geom.specs.Refinement.{state_after, RunIn}
use Rattle.geom.specs.Refusals.{good_position_in, DeskIn, lent_by, refinement_verdict}
use Rattle.geom.specs.Soundness.{book_of, Sound}
use Rattle.geom.specs.Between.{Well}
use Rattle.geom.proofs.Left.{run_left, run_lists}
use Rattle.geom.proofs.Accepted.{accepted_well}
use Rattle.geom.proofs.Refined.{original, run_of}
use Rattle.geom.proofs.Standing.{every_true}
use Rattle.geom.proofs.Steady.{Steady}
use Rattle.geom.proofs.Pinned.{kept_after, counted, middle_after, turned_after, tagged_after}
use Rattle.geom.proofs.Apart.{apart_after, still_apart}
use Rattle.geom.proofs.Again.{left_placed, accepted_again, verdict_again}

module _ {F : Form} (steady : Steady F) (kind : Kind) (s : Sizes) (d : DeskIn F) (depth time : ℕ) (e : refinement_verdict kind s d time ≡ accepted) where
  abbrev mesh : MeshIn F
  mesh = original kind s d

  abbrev r : RunIn F
  r = run_of kind s d depth time

  abbrev smooth : Bool
  smooth = eqb time 1

  abbrev base : ℕ
  base = length mesh.vertices

  well : Well kind base mesh.lists
  well = accepted_well kind s d time e

  left_is : r.left ≡ state_after kind smooth mesh r.passes
  left_is = run_left kind smooth (lent_by kind d) depth mesh

  book_is : r.left.book ≡ book_of kind mesh r.passes
  book_is = (run_lists kind smooth (lent_by kind d) depth mesh).1

  pub left_sound : Sound kind mesh smooth r.passes r.left.mesh
  left_sound =
      record {
        coordinates = every_true (λ (v : F.Vertex). good_position_in F (F.position v)) _ (left_placed kind s d time e steady depth);
        counted = rw (← book_is, left_is) (counted kind smooth mesh well r.passes);
        kept = rw left_is (kept_after kind smooth mesh r.passes);
        between = rw (← book_is, left_is) (middle_after kind smooth mesh well steady r.passes);
        either_way = rw (← book_is, left_is) (turned_after kind smooth mesh well steady r.passes);
        tagged = rw left_is (tagged_after kind smooth mesh well r.passes);
        apart = rw left_is (apart_after kind smooth mesh well r.passes);
        no_nearer = rw left_is (still_apart kind smooth mesh well r.passes);
        again = accepted_again kind s d time e steady depth;
        onward = verdict_again kind s d time e steady depth;
      }
