-- The entry's door: what holds once a mesh is accepted, and what the answer means in each case.
-- Assumes nothing.
use mathlib.Core.Path.{◌≡◌, refl, sym, ◌∙◌, ap, subst}
use mathlib.Core.Bool.{true, ◌&&◌}
use Prim.Native.Nat.{ℕ, ◌-◌, ◌/◌, min}
use native.Mathlib.Nat.{add-zero}
use native.Mathlib.Omega.{arith}
use lib.Dec.{eqb}
use lib.ListN.{length}
use borrow.Author.Tests.{not-false}
use Rattle.geom.specs.declared.answer.Sizes.{Sizes}
use Rattle.std.specs.Prelude.{Result, Err}
use Rattle.geom.specs.declared.refusal.Refusal.{Refusal}
use Rattle.geom.specs.declared.answer.Refined.{Refined}
use Rattle.geom.specs.Answers.{Verdict, accepted, refused, verdict_of, number_of, told}
use Rattle.geom.specs.Book.{Kind}
use Rattle.geom.specs.Form.{Form}
use Rattle.geom.specs.Memory.{cells, first_of, rows_of, mesh_of}
use Rattle.geom.specs.Refusals.{good_parity, counts_hold, marks_hold, handed_in, DeskIn, benches_equal, benches_hold, lent_by, refinement_verdict, SubdividedIn, unchanged, ran, subdivided_by, subdivided, told_after, Leaves}
use Rattle.geom.specs.Refinement.{LIMIT, LIMITS, within, run}
use Rattle.geom.specs.Between.{Well}
use Rattle.geom.proofs.Lists.{same_number, and_true_left, and_true_right}
use Rattle.geom.proofs.Accepted.{none_due, vertex_count, accepted_well}
use Rattle.geom.proofs.Steady.{Steady}
use Rattle.book.specs.Cells.{WORDS, pairs_of}
use Rattle.index.specs.Cells.{pairs}
use Rattle.index.proofs.Ways.{linked_none}
use Rattle.judge.specs.Counts.{lengths_of, cells_of}
use Rattle.geom.proofs.Equal.{equal_facts}
use Rattle.pass.specs.Benches.{state_of, lent_of, capped, Held, Lends}
use Rattle.run.specs.Runs.{run_of, Ran}
use Rattle.pass.proofs.Whole.{cells_same}
use Rattle.subdivision.specs.Entry.{Refines}
use Rattle.subdivision.proofs.Keeping.{refines}

-- ---- accepted

module _ {F : Form} (kind : Kind) (s : Sizes) (d : DeskIn F) (time : ℕ) (e : refinement_verdict kind s d time ≡ accepted) where
  nine : (counts_hold kind s d.first && benches_hold kind d) ≡ true
  unfolding refinement_verdict handed_in
  nine = not-false _ (none_due (handed_in (benches_hold kind d) (good_parity time) kind s d.first) e).0

  ten : within s LIMITS ≡ true
  unfolding refinement_verdict handed_in
  ten = not-false _ (none_due (handed_in (benches_hold kind d) (good_parity time) kind s d.first) e).1.1.1.1.1.0

  five : (marks_hold (rows_of kind s d.first) && good_parity time) ≡ true
  unfolding refinement_verdict handed_in
  five = not-false _ (none_due (handed_in (benches_hold kind d) (good_parity time) kind s d.first) e).1.0

  pub held : Held kind s.vertices s d.first d.book 0
  unfolding pairs_of first_of
  held =
      let mesh = mesh_of (rows_of kind s d.first) in
      record {
        counts = and_true_left (counts_hold kind s d.first) (benches_hold kind d) nine;
        marks = and_true_left (marks_hold (rows_of kind s d.first)) (good_parity time) five;
        limits = ten;
        count = sym (add-zero s.vertices);
        linked = linked_none pairs d.book;
        good =
            record {
              rising = tt;
              well = subst (λ (n : ℕ). Well kind n mesh.lists) (vertex_count kind s d.first ∙ sym (add-zero s.vertices)) (accepted_well kind s d time e);
            };
      }

  -- the bounds, from the lent cells that were worked out
  pub lends :
      {room : ℕ} {c lent : Sizes} → lent ≡ cells_of kind (lengths_of d.first) → c ≡ capped lent
      → room ≡ min (length d.book / WORDS) (min lent.vertices LIMIT - s.vertices)
      → Lends kind s.vertices room c d.first d.second d.book d.sums d.tallies
  unfolding benches_hold cells cells_of
  lends l k r =
      let n = (cells kind d.first).vertices in
      let equal = benches_equal d.first d.second in
      let sums = eqb (length d.sums / 4) n in
      let tallies = eqb (length d.tallies / 2) n in
      let h = and_true_right (counts_hold kind s d.first) (benches_hold kind d) nine in
      let both = and_true_left (equal && sums) tallies h in
      record {
        twin = cells_same kind (equal_facts d.first d.second (and_true_left equal sums both));
        sum = omega (arith, same_number (length d.sums / 4) n (and_true_right equal sums both));
        tally = omega (arith, same_number (length d.tallies / 2) n (and_true_right (equal && sums) tallies h));
        rooms = r ∙ ap (λ (z : Sizes). min (length d.book / WORDS) (min z.vertices LIMIT - s.vertices)) l;
        caps = k ∙ ap capped l;
      }

  run_is : (depth : ℕ) → subdivided kind s d depth time ≡ ran (run_of kind (eqb time 1) (lent_of kind d.first d.book) s.vertices depth (state_of kind s d.first d.book 0))
  unfolding subdivided run lent_by pairs_of first_of
  run_is depth =
      let mesh = mesh_of (rows_of kind s d.first) in
      ap (λ (v : Verdict). subdivided_by v (run kind (eqb time 1) (lent_by kind d) depth mesh)) e
      ∙ ap (λ (n : ℕ). ran (run_of kind (eqb time 1) (lent_of kind d.first d.book) n depth (state_of kind s d.first d.book 0))) (vertex_count kind s d.first)

  pub runs :
      Steady F → (depth : ℕ) (after : DeskIn F) (r : Refined)
      → Ran kind (run_of kind (eqb time 1) (lent_of kind d.first d.book) s.vertices depth (state_of kind s d.first d.book 0)) r d.first after.first after.second
      → Refines kind s d after depth time (told r)
  unfolding told_after Leaves
  runs steady depth after r q =
      refines steady kind s d after depth time (q.answer ∙ ap (told_after s) (sym (run_is depth)))
      (subst (λ (x : SubdividedIn F). Leaves kind x d after) (sym (run_is depth)) (q.stands, q.steps))

-- ---- refused

pub refuses :
    {F : Form} → Steady F → (kind : Kind) (s : Sizes) (d : DeskIn F) (time depth : ℕ) (r : Refined) {ended : Result Unit Refusal} {k : Refusal} → verdict_of ended ≡ refinement_verdict kind s d time
    → ended ≡ Err k → told r ≡ record { passes = 0; sizes = s; verdict = verdict_of ended } → Refines kind s d d depth time (told r)
unfolding verdict_of subdivided told_after Leaves
refuses {F} steady kind s d time depth r {ended} {k} j e t =
    let v : refused (number_of k) ≡ refinement_verdict kind s d time = sym (ap verdict_of e) ∙ j in
    let q : unchanged (number_of k) ≡ subdivided kind s d depth time =
    ap (λ (v : Verdict). subdivided_by v (run kind (eqb time 1) (lent_by kind d) depth (mesh_of (rows_of kind s d.first)))) v
    in
    refines steady kind s d d depth time
    (t ∙ ap (λ (v : Verdict). record { passes = 0; sizes = s; verdict = v }) (ap verdict_of e) ∙ ap (told_after s) q)
    (subst (λ (x : SubdividedIn F). Leaves kind x d d) q refl)
