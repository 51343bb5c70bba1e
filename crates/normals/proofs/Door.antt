-- The entries: what holds once the lists handed in are accepted, and what each answer means.
-- Assumes nothing.
use mathlib.Core.Path.{◌≡◌, sym, ◌∙◌, ap, subst}
use mathlib.Core.Bool.{Bool, true, false, not, ◌&&◌}
use mathlib.Core.List.{List, [], ◌∷◌}
use mathlib.Core.Logic.{◌⊎◌, inl, inr}
use Prim.Native.Nat.{ℕ, zero, suc, ◌*◌, ◌/◌, ◌≤◌, ◌<◌}
use native.Mathlib.Nat.{mul-suc, mul-le-mul_left, eq-or-lt_of_le}
use native.Mathlib.Omega.{arith}
use lib.Dec.{leb}
use lib.Ieee.{Float}
use lib.ListN.{length, get_or, take, drop}
use lib.Seq.{get_or-take, get_or-drop}
use borrow.Author.Tests.{not-false, ltb-true, leb-true, lt-leb}
use Rattle.geom.specs.declared.vertex.Vertex.{Vertex}
use Rattle.geom.specs.declared.answer.Sizes.{Sizes}
use Rattle.std.specs.Prelude.{Result, Ok, Err}
use Rattle.geom.specs.declared.refusal.Refusal.{Refusal}
use Rattle.geom.specs.declared.refusal.Refusal.TheVariants.{Room}
use Rattle.geom.specs.Answers.{Verdict, accepted, verdict_of, due, first_due, number_of}
use Rattle.geom.specs.Book.{simplices}
use Rattle.geom.specs.Memory.{Bench, ElementRow, first_of, element_row, rows_of, over}
use Rattle.geom.specs.Normals.{Shaded, shaded_by, shading_verdict}
use Rattle.geom.specs.Refusals.{every, good_flags, good_parity, good_number, counts_hold, marks_hold, numbers_hold, handed_in}
use Rattle.geom.proofs.Lists.{and_true_left, and_true_right}
use Rattle.geom.proofs.Accepted.{none_due, refused_before, accepted_before}
use Rattle.geom.proofs.Flipped.{shading_accepted}
use Rattle.judge.proofs.Every.{every_suc}
use Rattle.judge.proofs.Verdicts.{counts_positions, counts_marked}
use Rattle.vertices.proofs.Gathering.{length_part}
use Rattle.normals.specs.Cells.{Signed}

-- ---- what an acceptance gives

-- every row passes: so does row i
every_at : {A : Type 0} (test : A → Bool) (at : ℕ → A) (n i : ℕ) → every test (first_of at n) ≡ true → i < n → test (at i) ≡ true
every_at test at zero i e h = absurd (omega arith)
every_at test at (suc n) i e h =
    let q = sym (every_suc test at n) ∙ e in
    go (every_at test at n i (and_true_left (every test (first_of at n)) (test (at n)) q)) (and_true_right (every test (first_of at n)) (test (at n)) q) (eq-or-lt_of_le {n = i} {m = n} (omega arith))
  where
    go : (i < n → test (at i) ≡ true) → test (at n) ≡ true → (i ≡ n) ⊎ (i < n) → test (at i) ≡ true
    go rest last (inl q) = rw q last
    go rest last (inr l) = rest l

-- so does the entry at a place of a list
every_in : (test : ℕ → Bool) (xs : List ℕ) (k : ℕ) → every test xs ≡ true → k < length xs → test (get_or xs k 0) ≡ true
unfolding every
every_in test [] k e h = absurd (omega arith)
every_in test (x ∷ xs) zero e h = and_true_left (test x) (every test xs) e
every_in test (x ∷ xs) (suc k) e h = every_in test xs k (and_true_right (test x) (every test xs) e) (omega arith)

module _ (s : Sizes) (b : Bench) (e : first_due (handed_in true true simplices s b) ≡ accepted) where
  counts : counts_hold simplices s b ≡ true
  unfolding handed_in
  counts = and_true_left (counts_hold simplices s b) true (not-false _ (none_due (handed_in true true simplices s b) e).0)

  marks : marks_hold (rows_of simplices s b) ≡ true
  unfolding handed_in
  marks = and_true_left (marks_hold (rows_of simplices s b)) true (not-false _ (none_due (handed_in true true simplices s b) e).1.0)

  numbers : numbers_hold s.vertices (rows_of simplices s b) ≡ true
  unfolding handed_in
  numbers = not-false _ (none_due (handed_in true true simplices s b) e).1.1.1.0

  pub positions_stand : 4 * s.vertices ≤ length b.positions
  positions_stand = counts_positions simplices s b counts

  -- a row's corners are vertices
  abbrev inside : ElementRow → Bool
  inside r = every (good_number s.vertices) r.corners

  -- its parity is 0 or 1
  abbrev marked : ElementRow → Bool
  marked r = good_parity r.parity

  signed : (corners n : ℕ) (words : List ℕ) → suc corners * n ≤ length words
      → every inside (first_of (element_row corners words) n) ≡ true
      → every marked (first_of (element_row corners words) n) ≡ true
      → Signed words corners n s.vertices
  unfolding element_row good_number good_parity
  signed corners n words room q m =
      record {
        elements =
            record {
              room = room;
              below = λ i h k l.
                  let start = suc corners * i in
                  let row = every_at inside (element_row corners words) n i q h in
                  let long : length (take corners (drop start words)) ≡ corners
                  = length_part words start corners (omega (arith, mul-suc (suc corners) i, mul-le-mul_left (suc corners) h)) in
                  let good = every_in (good_number s.vertices) (take corners (drop start words)) k row (omega arith) in
                  subst (λ (v : ℕ). v < s.vertices) (get_or-take corners (drop start words) k 0 l ∙ get_or-drop start words k 0) (ltb-true _ _ good);
            };
        parity = λ i h. leb-true _ _ (every_at marked (element_row corners words) n i m h);
      }

  -- a test that the rows of every list pass: those of the areas pass it, and those of the volumes
  lists_pass : (test : ElementRow → Bool) (first last : Bool) → let r = rows_of simplices s b in
      (first && every test r.lines && every test r.areas && every test r.volumes && last) ≡ true → (every test r.areas ≡ true) × (every test r.volumes ≡ true)
  lists_pass test first last q =
      let r = rows_of simplices s b in
      let l = first && every test r.lines in
      let a = every test r.areas in
      let v = every test r.volumes in
      let p = and_true_left (l && a && v) last q in
      (and_true_right l a (and_true_left (l && a) v p), and_true_right (l && a) v p)

  corners_pass : (every inside (rows_of simplices s b).areas ≡ true) × (every inside (rows_of simplices s b).volumes ≡ true)
  unfolding numbers_hold
  corners_pass = lists_pass inside (every (good_number s.vertices) (rows_of simplices s b).points) _ numbers

  parities_pass : (every marked (rows_of simplices s b).areas ≡ true) × (every marked (rows_of simplices s b).volumes ≡ true)
  unfolding marks_hold
  parities_pass = lists_pass marked (every (λ (v : Vertex). good_flags v.flags) (rows_of simplices s b).vertices) _ marks

  pub areas_stand : Signed b.areas 3 s.areas s.vertices
  unfolding rows_of
  areas_stand = signed 3 s.areas b.areas (counts_marked simplices s b counts).listed.area.room corners_pass.0 parities_pass.0

  pub volumes_stand : Signed b.volumes 4 s.volumes s.vertices
  unfolding rows_of
  volumes_stand = signed 4 s.volumes b.volumes (counts_marked simplices s b counts).listed.volume.room corners_pass.1 parities_pass.1

-- ---- the answers

module _ (width : ℕ) (s : Sizes) (b : Bench) (words out : List Float) where
  -- refused for a list handed in
  pub refuses : {ended : Result Unit Refusal} {k : Refusal} → verdict_of ended ≡ first_due (handed_in true true simplices s b) → ended ≡ Err k
      → ◌≡◌ {A = Shaded} (record { verdict = verdict_of ended; out = out }) (shaded_by (shading_verdict width s b out) words out)
  unfolding verdict_of shading_verdict
  refuses {ended} {k} j e =
      let more = due 10 (not (leb s.vertices (length out / width))) ∷ [] in
      let v = refused_before (handed_in true true simplices s b) more (number_of k) (sym j ∙ ap verdict_of e) in
      ap (λ (x : Verdict). record { verdict = x; out = out }) (ap verdict_of e) ∙ sym (ap (λ (x : Verdict). shaded_by x words out) v)

  module _ (a : first_due (handed_in true true simplices s b) ≡ accepted) where
    -- fewer cells than vertices
    pub short : length out / width < s.vertices
        → ◌≡◌ {A = Shaded} (record { verdict = verdict_of (Err Room); out = out }) (shaded_by (shading_verdict width s b out) words out)
    unfolding verdict_of shading_verdict first_due
    short h =
        let test = leb s.vertices (length out / width) in
        let v = accepted_before (handed_in true true simplices s b) (due 10 (not test) ∷ []) a in
        let l : test ≡ false = lt-leb s.vertices (length out / width) h in
        sym (ap (λ (x : Verdict). shaded_by x words out) (v ∙ ap (λ (t : Bool). first_due (due 10 (not t) ∷ [])) l))

    -- enough: every cell is written
    pub fits : s.vertices ≤ length out / width → (after : List Float) → after ≡ over out words
        → ◌≡◌ {A = Shaded} (record { verdict = verdict_of (Ok tt); out = after }) (shaded_by (shading_verdict width s b out) words out)
    unfolding verdict_of
    fits h after e =
        ap (λ (x : List Float). record { verdict = accepted; out = x }) e
        ∙ sym (ap (λ (x : Verdict). shaded_by x words out) (shading_accepted width s b out a h))
