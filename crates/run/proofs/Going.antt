-- The loop of a run over two benches: even passes go from the first to the second, odd ones back.
-- Assumes nothing.
use mathlib.Core.Path.{◌≡◌, refl, sym, ◌∙◌, ap, subst}
use mathlib.Core.Bool.{Bool, true, false, cond}
use mathlib.Core.Logic.{◌⊎◌, inl, inr, ⊎_elim}
use mathlib.Core.List.{List}
use Prim.Native.Nat.{ℕ, zero, suc, ◌+◌, ◌-◌, ◌%◌, ◌<◌, ◌≤◌}
use native.Mathlib.Omega.{arith}
use lib.Dec.{eqb}
use lib.ListN.{length}
use Rattle.std.specs.Prelude.{Result, Ok, Err}
use Rattle.geom.specs.declared.answer.Sizes.{Sizes}
use Rattle.geom.specs.declared.answer.Refined.{Refined}
use Rattle.geom.specs.declared.bench.BenchMut.{BenchMut}
use Rattle.geom.specs.declared.bench.Work.{Work}
use Rattle.geom.specs.Answers.{accepted, refused, told}
use Rattle.geom.specs.Book.{Kind}
use Rattle.geom.specs.Form.{Form}
use Rattle.geom.specs.Floats.{binary32}
use Rattle.geom.specs.Lent.{words_on, Same, SameWork}
use Rattle.geom.specs.Memory.{BenchIn, Bench, AsLong, cells}
use Rattle.geom.specs.Refusals.{side, StandsFor, LastSteps}
use Rattle.geom.specs.Refinement.{Lent, RunIn, pass_over, run_from}
use Rattle.geom.proofs.Lists.{same_number}
use Rattle.book.specs.declared.Full.{Full}
use Rattle.lists.specs.declared.Stage.{Stage}
use Rattle.pass.specs.Benches.{state_of, lent_of, Held, Lends, Passed}
use Rattle.pass.proofs.Fitting.{false_unless}
use Rattle.pass.proofs.Whole.{cells_same}
use Rattle.run.specs.Runs.{run_of, Ran}
use Rattle.run.proofs.Turning.{At, Ends, ends_done, ends_full, goes_on}

-- ---- the two sides

pub side_even : {A : Type 0} (n : ℕ) (x y : A) → n % 2 ≡ 0 → side n x y ≡ x
unfolding side
side_even n x y e = ap (λ (m : ℕ). cond (eqb m 0) x y) e

pub side_odd : {A : Type 0} (n : ℕ) (x y : A) → (n % 2 ≡ 0 → ⊥) → side n x y ≡ y
unfolding side
side_odd n x y h = ap (λ (t : Bool). cond t x y) (false_unless (eqb (n % 2) 0) (λ e. h (same_number (n % 2) 0 e)))

odd_on : (n : ℕ) → (n % 2 ≡ 0 → ⊥) → (n + 1) % 2 ≡ 0
odd_on n h = ⊎_elim (λ (e : n % 2 ≡ 0). absurd (h e)) (λ (l : 0 < n % 2). omega arith) (zero_or_more (n % 2))
  where
    zero_or_more : (m : ℕ) → (m ≡ 0) ⊎ (0 < m)
    zero_or_more zero = inl refl
    zero_or_more (suc m) = inr (omega arith)

-- the other side of a pass
pub other_even : {A : Type 0} (n : ℕ) (x y : A) → n % 2 ≡ 0 → side (n + 1) x y ≡ y
other_even n x y e = side_odd (n + 1) x y (λ z. omega arith)

pub other_odd : {A : Type 0} (n : ℕ) (x y : A) → (n % 2 ≡ 0 → ⊥) → side (n + 1) x y ≡ x
other_odd n x y h = side_even (n + 1) x y (odd_on n h)

side_again : {A : Type 0} (n : ℕ) (x y : A) → side (n + 1 + 1) x y ≡ side n x y
unfolding side
side_again n x y =
    let e : (n + 1 + 1) % 2 ≡ n % 2 = omega arith in
    ap (λ (m : ℕ). cond (eqb m 0) x y) e

-- slices that keep their lengths lend as many cells, on either side
same_cells : {F : Form} (kind : Kind) (n : ℕ) {x y x' y' : BenchIn F} → AsLong x' x → AsLong y' y → cells kind (side n x' y') ≡ cells kind (side n x y)
unfolding side
same_cells {F} kind n {x} {y} {x'} {y'} s t = go (eqb (n % 2) 0)
  where
    go : (b : Bool) → cells kind (cond b x' y') ≡ cells kind (cond b x y)
    go true = cells_same kind s
    go false = cells_same kind t

-- ---- the slices

long_here : {F : Form} (x : BenchIn F) → AsLong x x
long_here x =
    record {
      positions = refl;
      marks = refl;
      points = refl;
      lines = refl;
      areas = refl;
      volumes = refl;
      curves = refl;
      curve_vertices = refl;
    }

long_on : {F : Form} {x y z : BenchIn F} → AsLong x y → AsLong y z → AsLong x z
long_on s t =
    record {
      positions = s.positions ∙ t.positions;
      marks = s.marks ∙ t.marks;
      points = s.points ∙ t.points;
      lines = s.lines ∙ t.lines;
      areas = s.areas ∙ t.areas;
      volumes = s.volumes ∙ t.volumes;
      curves = s.curves ∙ t.curves;
      curve_vertices = s.curve_vertices ∙ t.curve_vertices;
    }

same_here : (x : BenchMut) → Same x x
same_here x =
    record {
      positions = refl;
      marks = refl;
      points = refl;
      lines = refl;
      areas = refl;
      volumes = refl;
      curves = refl;
      steps = refl;
      long = long_here (words_on x);
    }

same_on : {x y z : BenchMut} → Same x y → Same y z → Same x z
same_on s t =
    record {
      positions = s.positions ∙ t.positions;
      marks = s.marks ∙ t.marks;
      points = s.points ∙ t.points;
      lines = s.lines ∙ t.lines;
      areas = s.areas ∙ t.areas;
      volumes = s.volumes ∙ t.volumes;
      curves = s.curves ∙ t.curves;
      steps = s.steps ∙ t.steps;
      long = long_on s.long t.long;
    }

work_here : (w : Work) → SameWork w w
work_here w = record { book = refl; sums = refl; tallies = refl; book_long = refl; sums_long = refl; tallies_long = refl }

work_on : {v w x : Work} → SameWork v w → SameWork w x → SameWork v x
work_on s t =
    record {
      book = s.book ∙ t.book;
      sums = s.sums ∙ t.sums;
      tallies = s.tallies ∙ t.tallies;
      book_long = s.book_long ∙ t.book_long;
      sums_long = s.sums_long ∙ t.sums_long;
      tallies_long = s.tallies_long ∙ t.tallies_long;
    }

-- ---- a turn

-- a pass from one side to the other, by what the sides are
pub turned :
    {F : Form} {kind : Kind} {base : ℕ} (time : Bool) (s : Sizes) (made : ℕ) (book : List ℕ) {book' : List ℕ} {r : Result Stage Full} {here here' there there' : BenchIn F}
    → here ≡ here' → there ≡ there'
    → Passed kind base (lent_of kind here book) (pass_over kind time base (state_of kind s here book made)) there book' r
    → Passed kind base (lent_of kind here' book) (pass_over kind time base (state_of kind s here' book made)) there' book' r
turned {F} {kind} {base} time s made book {book'} {r} {here} {here'} {there} {there'} p q f =
    subst (λ (x : BenchIn F). Passed kind base (lent_of kind x book) (pass_over kind time base (state_of kind s x book made)) there' book' r) p
    (subst (λ (y : BenchIn F). Passed kind base (lent_of kind here book) (pass_over kind time base (state_of kind s here book made)) y book' r) q f)

-- ---- the loop, over any form

module _ {F : Form} (kind : Kind) (time : Bool) (base room : ℕ) (c : Sizes) (depth : ℕ) (lent : Lent) (run : RunIn F) (first₀ : BenchIn F) where
  -- the answer, from the side on which the run ended
  pub ran : {r : Refined} (n : ℕ) (first second : BenchIn F) → Ends kind time base room c depth lent run first₀ r (side n first second) n → Ran kind run r first₀ first second
  ran n first second e =
      record {
        answer = e.answer;
        stands = subst (λ (k : ℕ). StandsFor kind (side k first second) run.left.mesh) (sym e.passes) e.stands;
        steps = subst (λ (k : ℕ). LastSteps k first₀ (side k first second) run.left.mesh) (sym e.passes) e.steps;
      }

  module _ (second₀ : BenchIn F) (book₀ : List ℕ) (sums₀ : List F.Cell) (tallies₀ : List ℕ) where
    -- after n passes: the bench of the last whole pass stands for the state, and the slices have kept their lengths
    pub record Going (first second : BenchIn F) (book : List ℕ) (sums : List F.Cell) (tallies : List ℕ) (n : ℕ) (s : Sizes) (made : ℕ) : Type 0 where
      pub at : At kind time base room c depth lent run first₀ (side n first second) (side (n + 1) first second) book sums tallies n s made
      pub one : AsLong first first₀
      pub two : AsLong second second₀
      pub entries : length book ≡ length book₀
      pub sum : length sums ≡ length sums₀
      pub tally : length tallies ≡ length tallies₀

    module _ {first second : BenchIn F} {book : List ℕ} {sums : List F.Cell} {tallies : List ℕ} {n : ℕ} {s : Sizes} {made : ℕ} (g : Going first second book sums tallies n s made) where
      abbrev here : BenchIn F
      here = side n first second

      -- at the depth
      pub done : depth ≤ n → (r : Refined) → told r ≡ record { passes = n; sizes = s; verdict = accepted } → Ran kind run r first₀ first second
      done k r t = ran n first second (ends_done kind time base room c depth lent run first₀ g.at k r t)

      module _ {first' second' : BenchIn F} {book' : List ℕ} (k : n < depth) (stays : side n first' second' ≡ here) where
        -- where the pass did not fit
        pub full :
            {f : Full} (r : Refined) → Passed kind base (lent_of kind here book) (pass_over kind time base (state_of kind s here book made)) (side (n + 1) first' second') book' (Err f)
            → told r ≡ record { passes = n; sizes = s; verdict = refused 10 } → Ran kind run r first₀ first' second'
        full r f t =
            ran n first' second'
            (subst (λ (b : BenchIn F). Ends kind time base room c depth lent run first₀ r b n) (sym stays) (ends_full kind time base room c depth lent run first₀ g.at k f r t))

        -- where it did
        pub goes :
            {sums' : List F.Cell} {tallies' : List ℕ} {t : Stage} → AsLong first' first → AsLong second' second → length book' ≡ length book → length sums' ≡ length sums
            → length tallies' ≡ length tallies
            → Passed kind base (lent_of kind here book) (pass_over kind time base (state_of kind s here book made)) (side (n + 1) first' second') book' (Ok t)
            → Going first' second' book' sums' tallies' (n + 1) t.sizes t.made
        goes {sums'} {tallies'} {t} one two q r u f =
            let next = goes_on kind time base room c depth lent run first₀ g.at k f (same_cells kind (n + 1) one two) q r u in
            record {
              at =
                  subst (λ (b : BenchIn F). At kind time base room c depth lent run first₀ (side (n + 1) first' second') b book' sums' tallies' (n + 1) t.sizes t.made)
                  (sym stays ∙ sym (side_again n first' second')) next;
              one = long_on one g.one;
              two = long_on two g.two;
              entries = q ∙ g.entries;
              sum = r ∙ g.sum;
              tally = u ∙ g.tally;
            }

-- before the first pass
pub going_start :
    {F : Form} (kind : Kind) (time : Bool) (base room : ℕ) (c : Sizes) (depth : ℕ) (first second : BenchIn F) (book : List ℕ) (sums : List F.Cell) (tallies : List ℕ) (s : Sizes)
    → Held kind base s first book 0 → Lends kind base room c first second book sums tallies
    → Going kind time base room c depth (lent_of kind first book) (run_of kind time (lent_of kind first book) base depth (state_of kind s first book 0)) first second book sums tallies first second book sums tallies 0 s 0
unfolding side
going_start kind time base room c depth first second book sums tallies s h l =
    let z : depth - 0 ≡ depth = omega arith in
    record {
      at =
          record {
            within = omega arith;
            held = h;
            lends = l;
            lent_is = refl;
            on = ap (λ (d : ℕ). run_from kind time (lent_of kind first book) base d 0 (state_of kind s first book 0)) z;
            steps = refl;
          };
      one = long_here first;
      two = long_here second;
      entries = refl;
      sum = refl;
      tally = refl;
    }

-- ---- the same of the slices that are lent

module _ (kind : Kind) (time : Bool) (base room : ℕ) (c : Sizes) (depth : ℕ) (s₀ : Sizes) (one two : BenchMut) (with : Work) where
  abbrev first₀ : Bench
  first₀ = words_on one

  abbrev lent₀ : Lent
  lent₀ = lent_of kind first₀ with.book.now

  abbrev run₀ : RunIn binary32
  run₀ = run_of kind time lent₀ base depth (state_of kind s₀ first₀ with.book.now 0)

  -- after n passes: the slices are the ones that were handed in, and their words have gone on
  pub record Lending (first second : BenchMut) (work : Work) (n : ℕ) (s : Sizes) (made : ℕ) : Type 0 where
    pub same : Same first one
    pub same_2 : Same second two
    pub same_3 : SameWork work with
    pub going :
        Going kind time base room c depth lent₀ run₀ first₀ (words_on two) with.book.now with.sums.now with.tallies.now (words_on first) (words_on second) work.book.now work.sums.now work.tallies.now n s made

  pub lending_start :
      Held kind base s₀ first₀ with.book.now 0 → Lends kind base room c first₀ (words_on two) with.book.now with.sums.now with.tallies.now
      → Lending one two with 0 s₀ 0
  lending_start h l =
      record {
        same = same_here one;
        same_2 = same_here two;
        same_3 = work_here with;
        going = going_start kind time base room c depth first₀ (words_on two) with.book.now with.sums.now with.tallies.now s₀ h l;
      }

  pub lending_goes :
      {first second first' second' : BenchMut} {work work' : Work} {n : ℕ} {s : Sizes} {made : ℕ} {t : Stage}
      → Lending first second work n s made → n < depth → Same first' first → Same second' second → SameWork work' work
      → side n (words_on first') (words_on second') ≡ side n (words_on first) (words_on second)
      → Passed kind base (lent_of kind (side n (words_on first) (words_on second)) work.book.now) (pass_over kind time base (state_of kind s (side n (words_on first) (words_on second)) work.book.now made))
      (side (n + 1) (words_on first') (words_on second')) work'.book.now (Ok t)
      → Lending first' second' work' (n + 1) t.sizes t.made
  lending_goes l k p q w stays f =
      record {
        same = same_on p l.same;
        same_2 = same_on q l.same_2;
        same_3 = work_on w l.same_3;
        going = goes _ _ _ _ _ _ _ _ _ _ _ _ _ l.going k stays p.long q.long w.book_long w.sums_long w.tallies_long f;
      }
