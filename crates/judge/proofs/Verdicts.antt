-- From the tests that the judge makes to the verdict, and from lengths to lent cells.
-- Assumes nothing.
use mathlib.Core.Path.{◌≡◌, refl, sym, ◌∙◌, ap, ap₂}
use mathlib.Core.Bool.{Bool, true, false, ◌&&◌}
use mathlib.Core.List.{List}
use Prim.Native.Nat.{ℕ, suc, ◌+◌, ◌*◌, ◌/◌, ◌≤◌, min}
use native.Mathlib.Nat.{le-div_iff_mul-le, zero-lt-suc, mul_comm}
use native.Mathlib.Numerals.{add-one}
use native.Mathlib.Omega.{arith}
use lib.Dec.{eqb}
use lib.ListN.{length}
use borrow.Author.Tests.{eqb-true}
use Rattle.geom.specs.declared.answer.Sizes.{Sizes}
use Rattle.geom.specs.Form.{Form}
use Rattle.geom.specs.Answers.{Verdict, accepted, refused, first_due}
use Rattle.geom.specs.Book.{Kind, cubes, simplices}
use Rattle.geom.specs.Memory.{BenchIn, area_corners, volume_corners, ElementRow, StepRow, RowsIn, cells, first_of, element_row, curve_row, rows_of, step_words, curve_parts}
use Rattle.geom.specs.Refinement.{LIMITS, within}
use Rattle.geom.specs.Refusals.{every, good_flags, good_parity, good_number, good_curve, curve_lengths, counts_hold, marks_hold, positions_hold, numbers_hold, handed_in, DeskIn, benches_equal, benches_hold, refinement_verdict}
use Rattle.geom.proofs.Within.{Within, within_facts}
use Rattle.geom.proofs.Lists.{and_true_left, and_true_right}
use Rattle.judge.specs.declared.counts.Lengths.{Lengths}
use Rattle.judge.specs.Words.{Elements}
use Rattle.judge.specs.Counts.{lengths_of, cells_of, equal_of, benches_of}
use Rattle.judge.specs.Judged.{Measured, Listed, Marked, Numbered}

area_eight : (kind : Kind) → area_corners kind ≤ 8
area_eight cubes = omega arith
area_eight simplices = omega arith

volume_eight : (kind : Kind) → volume_corners kind ≤ 8
volume_eight cubes = omega arith
volume_eight simplices = omega arith

pub area_few : (kind : Kind) (n : ℕ) → n ≡ area_corners kind → n ≤ 8
area_few kind n e = omega (arith, area_eight kind)

pub volume_few : (kind : Kind) (n : ℕ) → n ≡ volume_corners kind → n ≤ 8
volume_few kind n e = omega (arith, volume_eight kind)

pub cells_are : (kind : Kind) (l : Lengths) (v a w : ℕ) → v ≡ min (l.positions / 4) (l.marks / 3) → a ≡ area_corners kind → w ≡ volume_corners kind
    → ◌≡◌ {A = Sizes}
    (record {
      vertices = v;
      points = l.points;
      lines = l.lines / 3;
      areas = l.areas / (a + 1);
      volumes = l.volumes / (w + 1);
      curves = l.curves / 2;
      curve_vertices = l.curve_vertices / 2;
    })
    (cells_of kind l)
unfolding cells_of
cells_are kind l v a w p q r = rw (p, q, r, add-one (area_corners kind), add-one (volume_corners kind)) refl

-- ---- counts

-- lent cells of curves are whole rows of their slice
pub curves_room : (kind : Kind) (s : Sizes) (l : Lengths) (n : ℕ) → within s (cells_of kind l) ≡ true → l.curves ≡ n → 2 * s.curves ≤ n
unfolding cells_of
curves_room kind s l n e q = omega (arith, (within_facts s (cells_of kind l) e).curves)

-- the test against lent cells that were worked out
pub lent_told : (kind : Kind) (s : Sizes) (l : Lengths) (lent : Sizes) → lent ≡ cells_of kind l → (r : Bool) → r ≡ within s lent → within s (cells_of kind l) ≡ r
lent_told kind s l lent e r q = sym (q ∙ ap (within s) e)

cells_lengths : {F : Form} (kind : Kind) (b : BenchIn F) → cells kind b ≡ cells_of kind (lengths_of b)
unfolding cells cells_of
cells_lengths kind b = refl

module _ {F : Form} (kind : Kind) (s : Sizes) (l : Lengths) (curves : List ℕ) (b : BenchIn F) (e : lengths_of b ≡ l) (q : b.curves ≡ curves) where
  lent : within s (cells kind b) ≡ within s (cells_of kind l)
  lent = ap (within s) (cells_lengths kind b ∙ ap (cells_of kind) e)

  pub counts_off : within s (cells_of kind l) ≡ false → false ≡ counts_hold kind s b
  unfolding counts_hold
  counts_off p = sym (ap (λ (t : Bool). t && eqb (curve_lengths (rows_of kind s b).curves) s.curve_vertices) (lent ∙ p))

  pub counts_on : (r : Bool) → within s (cells_of kind l) ≡ true → r ≡ eqb (curve_lengths (first_of (curve_row curves) s.curves)) s.curve_vertices
      → r ≡ counts_hold kind s b
  unfolding counts_hold rows_of
  counts_on r p h =
      h ∙ ap (λ (l : List ℕ). eqb (curve_lengths (first_of (curve_row l) s.curves)) s.curve_vertices) (sym q)
      ∙ sym (ap (λ (t : Bool). t && eqb (curve_lengths (first_of (curve_row b.curves) s.curves)) s.curve_vertices) (lent ∙ p))

elements_room : (words : List ℕ) (corners n : ℕ) → corners ≤ 8 → n ≤ length words / suc corners → Elements words corners n
elements_room words corners n few h =
    record { few = few; room = omega (arith, (le-div_iff_mul-le (zero-lt-suc corners)).0 h, mul_comm (suc corners) n) }

-- counts that hold leave room for every row that is stated
module _ {F : Form} (kind : Kind) (s : Sizes) (b : BenchIn F) (e : counts_hold kind s b ≡ true) where
  facts : Within s (cells kind b)
  unfolding counts_hold
  facts = within_facts s (cells kind b) (and_true_left (within s (cells kind b)) (eqb (curve_lengths (rows_of kind s b).curves) s.curve_vertices) e)

  pub counts_positions : 4 * s.vertices ≤ length b.positions
  unfolding cells
  counts_positions = omega (arith, facts.vertices)

  listed : Listed kind s b.lines b.areas b.volumes
  unfolding cells
  listed =
      record {
        line = elements_room b.lines 2 s.lines (omega arith) facts.lines;
        area = elements_room b.areas (area_corners kind) s.areas (area_eight kind) facts.areas;
        volume = elements_room b.volumes (volume_corners kind) s.volumes (volume_eight kind) facts.volumes;
      }

  pub counts_curves : 2 * s.curves ≤ length b.curves
  unfolding cells
  counts_curves = omega (arith, facts.curves)

  pub counts_marked : Marked kind s b
  unfolding cells counts_hold rows_of
  counts_marked =
      record {
        flags = omega (arith, facts.vertices);
        listed = listed;
        parts =
            record {
              room = counts_curves;
              vertices = omega (arith, facts.curve_vertices);
              sum = eqb-true _ _ (and_true_right (within s (cells kind b)) (eqb (curve_lengths (rows_of kind s b).curves) s.curve_vertices) e);
            };
      }

  pub counts_numbered : Numbered kind s b
  unfolding cells
  counts_numbered = record { point = facts.points; listed = listed; step = omega (arith, facts.curve_vertices) }

-- ---- equal benches

benches_lengths : {F : Form} (kind : Kind) (d : DeskIn F) → benches_hold kind d ≡ benches_of kind (lengths_of d.first) (lengths_of d.second) (length d.sums) (length d.tallies)
unfolding benches_equal benches_hold equal_of benches_of cells cells_of
benches_lengths kind d = refl

pub benches_are : (kind : Kind) (first second : Lengths) (sums tallies : ℕ) (equal : Bool) (lent : Sizes) → equal ≡ equal_of first second → lent ≡ cells_of kind first
    → (equal && eqb (sums / 4) lent.vertices && eqb (tallies / 2) lent.vertices) ≡ benches_of kind first second sums tallies
unfolding benches_of
benches_are kind first second sums tallies equal lent e l = rw (e, l) refl

-- the verdict of a desk, from what the judge is told of it
pub told : {F : Form} (kind : Kind) (s : Sizes) (time : ℕ) (first : BenchIn F) (second : Lengths) (sums tallies : ℕ) (nine : Bool)
    → nine ≡ benches_of kind (lengths_of first) second sums tallies
    → (v : Verdict)
    → v ≡ first_due (handed_in nine (good_parity time) kind s first)
    → (d : DeskIn F)
    → d.first ≡ first
    → Measured d second sums tallies
    → v ≡ refinement_verdict kind s d time
unfolding refinement_verdict
told {F} kind s time first second sums tallies nine q v h d e m =
    h
    ∙ sym (ap₂ (λ (nine : Bool) (b : BenchIn F). first_due (handed_in nine (good_parity time) kind s b))
    (benches_lengths kind d
    ∙ ap (λ (b : BenchIn F). benches_of kind (lengths_of b) (lengths_of d.second) (length d.sums) (length d.tallies)) e
    ∙ ap (λ (l : Lengths). benches_of kind (lengths_of first) l (length d.sums) (length d.tallies)) m.bench
    ∙ ap₂ (benches_of kind (lengths_of first) second) m.sum m.tally
    ∙ sym q)
    e)

-- ---- marks and numbers, list by list; a test that was not made stands for itself

-- a parity of each element, said of the kind's number of corners
pub parities_at_lem : (words : List ℕ) (k corners n : ℕ) → k ≡ corners → (r : Bool)
    → r ≡ every (λ (e : ElementRow). good_parity e.parity) (first_of (element_row k words) n)
    → r ≡ every (λ (e : ElementRow). good_parity e.parity) (first_of (element_row corners words) n)
parities_at_lem words k corners n e r p = p ∙ ap (λ (c : ℕ). every (λ (e : ElementRow). good_parity e.parity) (first_of (element_row c words) n)) e

pub corners_at : (words : List ℕ) (k corners n count : ℕ) → k ≡ corners → (r : Bool)
    → r ≡ every (λ (e : ElementRow). every (good_number count) e.corners) (first_of (element_row k words) n)
    → r ≡ every (λ (e : ElementRow). every (good_number count) e.corners) (first_of (element_row corners words) n)
corners_at words k corners n count e r p =
    p ∙ ap (λ (c : ℕ). every (λ (e : ElementRow). every (good_number count) e.corners) (first_of (element_row c words) n)) e

pub elements_at_lem : (words : List ℕ) (k corners n : ℕ) → k ≡ corners → Elements words corners n → Elements words k n
elements_at_lem words k corners n e h = rw e h

pub marks_are : {F : Form} (r : RowsIn F) (f l a v p : Bool)
    → f ≡ every (λ (v : F.Vertex). good_flags (F.flags v)) r.vertices
    → l ≡ every (λ (e : ElementRow). good_parity e.parity) r.lines
    → a ≡ every (λ (e : ElementRow). good_parity e.parity) r.areas
    → v ≡ every (λ (e : ElementRow). good_parity e.parity) r.volumes
    → p ≡ every (λ (part : List StepRow). every good_parity (step_words part)) (curve_parts r.curves r.curve_vertices)
    → (f && l && a && v && p) ≡ marks_hold r
unfolding marks_hold
marks_are r f l a v p pf pl pa pv pp = rw (pf, pl, pa, pv, pp) refl

pub numbers_are : {F : Form} (r : RowsIn F) (count : ℕ) (p l a v s : Bool)
    → p ≡ every (good_number count) r.points
    → l ≡ every (λ (e : ElementRow). every (good_number count) e.corners) r.lines
    → a ≡ every (λ (e : ElementRow). every (good_number count) e.corners) r.areas
    → v ≡ every (λ (e : ElementRow). every (good_number count) e.corners) r.volumes
    → s ≡ every (λ (s : StepRow). good_number count s.vertex) r.curve_vertices
    → (p && l && a && v && s) ≡ numbers_hold count r
unfolding numbers_hold
numbers_are r count p l a v s pp pl pa pv ps = rw (pp, pl, pa, pv, ps) refl

-- ---- the first that is due

module _ {F : Form} (kind : Kind) (s : Sizes) (b : BenchIn F) (nine five : Bool) where
  pub due_counts : counts_hold kind s b ≡ false → refused 9 ≡ first_due (handed_in nine five kind s b)
  unfolding first_due handed_in
  due_counts p = rw p refl

  module _ (p : counts_hold kind s b ≡ true) where
    pub due_benches : nine ≡ false → refused 9 ≡ first_due (handed_in nine five kind s b)
    unfolding first_due handed_in
    due_benches q = rw (p, q) refl

    module _ (q : nine ≡ true) where
      pub due_marks : marks_hold (rows_of kind s b) ≡ false → refused 5 ≡ first_due (handed_in nine five kind s b)
      unfolding first_due handed_in
      due_marks m = rw (p, q, m) refl

      module _ (m : marks_hold (rows_of kind s b) ≡ true) where
        pub due_time : five ≡ false → refused 5 ≡ first_due (handed_in nine five kind s b)
        unfolding first_due handed_in
        due_time t = rw (p, q, m, t) refl

        module _ (t : five ≡ true) where
          pub due_positions : positions_hold (rows_of kind s b) ≡ false → refused 6 ≡ first_due (handed_in nine five kind s b)
          unfolding first_due handed_in
          due_positions o = rw (p, q, m, t, o) refl

          module _ (o : positions_hold (rows_of kind s b) ≡ true) where
            pub due_numbers : numbers_hold s.vertices (rows_of kind s b) ≡ false → refused 7 ≡ first_due (handed_in nine five kind s b)
            unfolding first_due handed_in
            due_numbers n = rw (p, q, m, t, o, n) refl

            module _ (n : numbers_hold s.vertices (rows_of kind s b) ≡ true) where
              pub due_curves : every good_curve (rows_of kind s b).curves ≡ false → refused 8 ≡ first_due (handed_in nine five kind s b)
              unfolding first_due handed_in
              due_curves c = rw (p, q, m, t, o, n, c) refl

              module _ (c : every good_curve (rows_of kind s b).curves ≡ true) where
                pub due_limits : within s LIMITS ≡ false → refused 10 ≡ first_due (handed_in nine five kind s b)
                unfolding first_due handed_in
                due_limits l = rw (p, q, m, t, o, n, c, l) refl

                pub due_none : within s LIMITS ≡ true → accepted ≡ first_due (handed_in nine five kind s b)
                unfolding first_due handed_in
                due_none l = rw (p, q, m, t, o, n, c, l) refl
