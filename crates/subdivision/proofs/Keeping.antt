-- Demand 3 of the words that are left, and that they are sound, from the answer and what stands on the bench of the last whole pass.
-- Assumes nothing.
use mathlib.Core.Path.{◌≡◌, sym, ◌∙◌, ap, subst}
use Prim.Native.Nat.{ℕ}
use lib.Dec.{eqb}
use Rattle.geom.specs.declared.answer.Sizes.{Sizes}
use Rattle.geom.specs.Answers.{Verdict, accepted, Told}
use Rattle.geom.specs.Book.{Kind, simplices}
use Rattle.geom.specs.Form.{Form}
use Rattle.geom.specs.Mesh.{MeshIn}
use Rattle.geom.specs.Refinement.{RunIn, told_by}
use Rattle.geom.specs.Refusals.{DeskIn, refinement_verdict, SubdividedIn, ran, subdivided_by, subdivided, told_after, StandsFor, Leaves}
use Rattle.geom.specs.Soundness.{Sound}
use Rattle.geom.proofs.Refined.{run_of, ledger_left, closed_left, recovered_from_left}
use Rattle.geom.proofs.Steady.{Steady}
use Rattle.geom.proofs.Kept.{left_sound}
use Rattle.subdivision.specs.Entry.{original, mesh_left, Recovered, Keeps, Refines}

module _ {F : Form} (steady : Steady F) (kind : Kind) (s : Sizes) (d after : DeskIn F) (depth time : ℕ) {t : Told} (answer : t ≡ told_after s (subdivided kind s d depth time)) (leaves : Leaves kind (subdivided kind s d depth time) d after) where
  module _ (e : refinement_verdict kind s d time ≡ accepted) where
    abbrev r : RunIn F
    r = run_of kind s d depth time

    -- it was run
    ran_is : subdivided kind s d depth time ≡ ran r
    unfolding subdivided
    ran_is = ap (λ (v : Verdict). subdivided_by v r) e

    told_is : t ≡ told_by r
    unfolding told_after
    told_is = answer ∙ ap (told_after s) ran_is

    passes_are : t.passes ≡ r.passes
    unfolding told_by
    passes_are = ap (λ (x : Told). x.passes) told_is

    -- the words left are the mesh that the run leaves
    left_is : mesh_left kind t after ≡ r.left.mesh
    unfolding told_by Leaves StandsFor
    left_is =
        ap (λ (x : Told). mesh_left kind x after) told_is ∙ (subst (λ (x : SubdividedIn F). Leaves kind x d after) ran_is leaves).0.2

    keeps : Keeps kind (original kind s d) t.passes (mesh_left kind t after)
    keeps =
        subst (λ (m : MeshIn F). Keeps kind (original kind s d) t.passes m) (sym left_is)
        (subst (λ (n : ℕ). Keeps kind (original kind s d) n r.left.mesh) (sym passes_are)
        (record {
          ledger = ledger_left kind s d depth time e;
          closed = closed_left kind s d depth time e;
          recovered = λ k. recovered_here k;
        }))
      where
        recovered_here : kind ≡ simplices → Recovered (original kind s d) r.passes r.left.mesh
        recovered_here k =
            subst
            (λ (x : Kind). refinement_verdict x s d time ≡ accepted → Recovered (original x s d) (run_of x s d depth time).passes (run_of x s d depth time).left.mesh)
            (sym k)
            (λ own s₂ d₂ depth₂ time₂ e₂ same areas volumes. recovered_from_left s₂ s d₂ d depth₂ depth time₂ time e₂ own same areas volumes)
            e

    sound : Sound kind (original kind s d) (eqb time 1) t.passes (mesh_left kind t after)
    sound =
        subst (λ (m : MeshIn F). Sound kind (original kind s d) (eqb time 1) t.passes m) (sym left_is)
        (subst (λ (n : ℕ). Sound kind (original kind s d) (eqb time 1) n r.left.mesh) (sym passes_are) (left_sound steady kind s d depth time e))

  pub refines : Refines kind s d after depth time t
  refines = record { answer = answer; leaves = leaves; keeps = keeps; sound = sound }
