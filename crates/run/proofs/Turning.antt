-- One turn of a run, from the bench that is read to the other: what holds before it, and what its answer means.
-- Assumes nothing.
use mathlib.Core.Path.{◌≡◌, sym, ◌∙◌, ap, ap₂, subst}
use mathlib.Core.Bool.{Bool, true, false, cond}
use mathlib.Core.List.{List}
use Prim.Native.Nat.{ℕ, suc, ◌+◌, ◌-◌, ◌/◌, ◌≤◌, ◌<◌}
use native.Mathlib.Omega.{arith}
use native.Mathlib.Numerals.{add-one}
use lib.ListN.{length}
use Rattle.geom.specs.declared.answer.Sizes.{Sizes}
use Rattle.geom.specs.declared.answer.Refined.{Refined}
use Rattle.geom.specs.Answers.{Verdict, accepted, refused, told}
use Rattle.geom.specs.Book.{Kind}
use Rattle.geom.specs.Form.{Form}
use Rattle.geom.specs.Memory.{BenchIn, cells, rows_of, mesh_of}
use Rattle.geom.specs.Refusals.{counts_hold, marks_hold, StandsFor, StepsWritten, LastSteps}
use Rattle.geom.specs.Refinement.{StateIn, Lent, RunIn, pass_over, fits, run_from, told_by}
use Rattle.geom.proofs.Endings.{whole_fits, stopped_bursts}
use Rattle.geom.proofs.Stated.{sizes_stated}
use Rattle.book.specs.Cells as Book
use Rattle.std.specs.Prelude.{Ok, Err}
use Rattle.book.specs.declared.Full.{Full}
use Rattle.lists.specs.declared.Stage.{Stage}
use Rattle.pass.specs.Benches.{state_of, lent_of, room_of, capped, Held, Lends, Onward, Passed}
use Rattle.pass.proofs.Ready.{held_sum}

-- ---- what is lent stays

pub lends_turned :
    {F : Form} {kind : Kind} {base room : ℕ} {c : Sizes} {a b : BenchIn F} {book : List ℕ} {sums : List F.Cell} {tallies : List ℕ}
    → Lends kind base room c a b book sums tallies → Lends kind base room c b a book sums tallies
lends_turned {base = base} {book = book} l =
    let v = ap (λ (z : Sizes). z.vertices) l.twin in
    record {
      twin = sym l.twin;
      sum = omega (arith, l.sum, v);
      tally = omega (arith, l.tally, v);
      rooms = l.rooms ∙ ap (λ (z : Sizes). room_of (record { cells = z; book = Book.cells book }) base) l.twin;
      caps = l.caps ∙ ap capped l.twin;
    }

pub lends_kept :
    {F : Form} {kind : Kind} {base room : ℕ} {c : Sizes} {a b b' : BenchIn F} {book book' : List ℕ} {sums sums' : List F.Cell} {tallies tallies' : List ℕ}
    → Lends kind base room c a b book sums tallies → cells kind b' ≡ cells kind b → length book' ≡ length book → length sums' ≡ length sums
    → length tallies' ≡ length tallies → Lends kind base room c a b' book' sums' tallies'
lends_kept {kind = kind} {base = base} {a = a} l p q r t =
    record {
      twin = l.twin ∙ sym p;
      sum = omega (arith, l.sum, r);
      tally = omega (arith, l.tally, t);
      rooms = l.rooms ∙ ap (λ (n : ℕ). room_of (record { cells = cells kind a; book = n / Book.WORDS }) base) (sym q);
      caps = l.caps;
    }

-- ---- a turn

module _ {F : Form} (kind : Kind) (time : Bool) (base room : ℕ) (c : Sizes) (depth : ℕ) (lent : Lent) (run : RunIn F) (start : BenchIn F) where
  -- after n passes the bench `here` stands for the state, and what is left of the run goes on from there
  pub record At (here there : BenchIn F) (book : List ℕ) (sums : List F.Cell) (tallies : List ℕ) (n : ℕ) (s : Sizes) (made : ℕ) : Type 0 where
    pub within : n ≤ depth
    pub held : Held kind base s here book made
    pub lends : Lends kind base room c here there book sums tallies
    pub lent_is : lent_of kind here book ≡ lent
    pub on : run_from kind time lent base (depth - n) n (state_of kind s here book made) ≡ run
    pub steps : LastSteps n start here (state_of kind s here book made).mesh

  -- the answer after n passes
  pub record Ends (r : Refined) (here : BenchIn F) (n : ℕ) : Type 0 where
    pub passes : run.passes ≡ n
    pub answer : told r ≡ told_by run
    pub stands : StandsFor kind here run.left.mesh
    pub steps : LastSteps n start here run.left.mesh

  module _ {here there : BenchIn F} {book : List ℕ} {sums : List F.Cell} {tallies : List ℕ} {n : ℕ} {s : Sizes} {made : ℕ} (g : At here there book sums tallies n s made) where
    abbrev now : StateIn F
    now = state_of kind s here book made

    abbrev next : StateIn F
    next = pass_over kind time base now

    -- what the run leaves where it ends here
    standing : StandsFor kind here now.mesh
    unfolding StandsFor
    standing =
        let z = sizes_stated kind s here (held_sum g.held) in (
          ap (λ (x : Sizes). counts_hold kind x here) z ∙ g.held.counts,
          ap (λ (x : Sizes). marks_hold (rows_of kind x here)) z ∙ g.held.marks,
          ap (λ (x : Sizes). mesh_of (rows_of kind x here)) z,
        )

    ends : (v : Verdict) (r : Refined) → told r ≡ record { passes = n; sizes = s; verdict = v } → record { passes = n; left = now; verdict = v } ≡ run → Ends r here n
    unfolding told_by
    ends v r e q =
        record {
          passes = sym (ap (λ (x : RunIn F). x.passes) q);
          answer =
              e
              ∙ ap (λ (z : Sizes). record { passes = n; sizes = z; verdict = v }) (sym (sizes_stated kind s here (held_sum g.held)))
              ∙ ap told_by q;
          stands = subst (λ (x : RunIn F). StandsFor kind here x.left.mesh) q standing;
          steps = subst (λ (x : RunIn F). LastSteps n start here x.left.mesh) q g.steps;
        }

    pub ends_done : depth ≤ n → (r : Refined) → told r ≡ record { passes = n; sizes = s; verdict = accepted } → Ends r here n
    unfolding run_from
    ends_done k r e =
        let z : depth - n ≡ 0 = omega arith in
        ends accepted r e (sym (ap (λ (d : ℕ). run_from kind time lent base d n now) z) ∙ g.on)

    -- the next pass of the definition, by whether it fits
    step : n < depth → (b : Bool) → fits (lent_of kind here book) next ≡ b
        → cond b (run_from kind time lent base (depth - suc n) (suc n) next) (record { passes = n; left = now; verdict = refused 10 }) ≡ run
    unfolding run_from
    step k b e =
        let z : depth - n ≡ suc (depth - suc n) = omega arith in
        let f : fits lent next ≡ b = ap (λ (x : Lent). fits x next) (sym g.lent_is) ∙ e in
        ap (λ (x : Bool). cond x (run_from kind time lent base (depth - suc n) (suc n) next) (record { passes = n; left = now; verdict = refused 10 })) (sym f)
        ∙ sym (ap (λ (d : ℕ). run_from kind time lent base d n now) z)
        ∙ g.on

    pub ends_full :
        {there' : BenchIn F} {book' : List ℕ} {full : Full} → n < depth → Passed kind base (lent_of kind here book) next there' book' (Err full) → (r : Refined)
        → told r ≡ record { passes = n; sizes = s; verdict = refused 10 } → Ends r here n
    ends_full k f r e = ends (refused 10) r e (step k false (stopped_bursts (fits (lent_of kind here book) next) _ f.answer))

    pub goes_on :
        {there' : BenchIn F} {book' : List ℕ} {sums' : List F.Cell} {tallies' : List ℕ} {stage : Stage} → n < depth
        → Passed kind base (lent_of kind here book) next there' book' (Ok stage) → cells kind there' ≡ cells kind there → length book' ≡ length book
        → length sums' ≡ length sums → length tallies' ≡ length tallies → At there' here book' sums' tallies' (n + 1) stage.sizes stage.made
    goes_on {there'} {book'} {sums'} {tallies'} {stage} k f p q r u =
        let t = stage.sizes in
        let e = stage.made in
        let o : Onward kind base next there' book' t e = f.onward in
        let l = lends_turned (lends_kept g.lends p q r u) in
        record {
          within = omega arith;
          held = o.held;
          lends = l;
          lent_is =
              ap₂ (λ (z : Sizes) (m : ℕ). record { cells = z; book = m / Book.WORDS }) (p ∙ sym g.lends.twin) q ∙ g.lent_is;
          on =
              ap (λ (m : ℕ). run_from kind time lent base (depth - m) m (state_of kind t there' book' e)) (add-one n)
              ∙ ap (run_from kind time lent base (depth - suc n) (suc n)) o.state
              ∙ step k true (whole_fits (fits (lent_of kind here book) next) _ f.answer);
          steps =
              subst (λ (m : ℕ). LastSteps m start there' (state_of kind t there' book' e).mesh) (sym (add-one n))
              (subst (λ (x : StateIn F). StepsWritten there' x.mesh) (sym o.state) o.steps);
        }
