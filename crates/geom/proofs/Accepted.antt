-- What the acceptance of a mesh in memory gives: its lists are Well, as demand 3 asks, over the vertices handed in.
-- Assumes nothing.
use mathlib.Core.Path.{◌≡◌, refl, sym, ◌∙◌, ap, subst}
use mathlib.Core.Bool.{Bool, true, false, not, ◌&&◌, cond}
use mathlib.Core.List.{List, [], ◌∷◌, ◌++◌, map}
use Prim.Native.Nat.{ℕ, zero, suc, ◌*◌, ◌/◌, ◌≤◌, ◌<◌}
use native.Mathlib.Nat.{le-div_iff_mul-le, suc-mul, mul_comm, zero-lt-suc}
use native.Mathlib.Omega.{arith}
use lib.Dec.{T, eqb, ltb→lt}
use lib.Ieee.Fits.{and_l, and_r}
use lib.ListN.{length, take, drop, length-take, length-drop}
use Rattle.std.specs.Prelude.{Result, Ok}
use Rattle.geom.specs.declared.answer.Sizes.{Sizes}
use Rattle.geom.specs.declared.refusal.Refusal.{Refusal}
use Rattle.geom.specs.Book.{Kind, cubes, simplices}
use Rattle.geom.specs.Elements.{Curve}
use Rattle.geom.specs.Ledger.{face_shape, volume_shape}
use Rattle.geom.specs.Answers.{Verdict, accepted, refused, verdict_of, Due, first_due}
use Rattle.geom.specs.Form.{Form}
use Rattle.geom.specs.Memory.{BenchIn, cells, ElementRow, CurveRow, StepRow, RowsIn, first_of, element_row, rows_of, area_corners, volume_corners, element_of, curves_of, mesh_of}
use Rattle.geom.specs.Refinement.{within}
use Rattle.geom.specs.Refusals.{every, good_parity, good_number, curve_lengths, counts_hold, numbers_hold, handed_in, DeskIn, benches_hold, refinement_verdict}
use Rattle.geom.specs.Between.{All, Below, Proper, Well}
use Rattle.geom.proofs.Rows.{length_first_of}
use Rattle.geom.proofs.Lists.{true_is, all_map, all_append, all_of_map, all_take, all_drop}
use Rattle.geom.proofs.Within.{within_facts}

-- ---- tests that passed

pub none_due : (ds : List Due) → first_due ds ≡ accepted → All (λ (d : Due). d.due ≡ false) ds
unfolding first_due
none_due [] e = tt
none_due (d ∷ ds) e = go (none_due ds) d.due refl e
  where
    go : (first_due ds ≡ accepted → All (λ (d : Due). d.due ≡ false) ds) → (b : Bool) → d.due ≡ b
        → cond b (refused d.number) (first_due ds) ≡ accepted → All (λ (d : Due). d.due ≡ false) (d ∷ ds)
    go rest true q f = let z : ◌≡◌ {A = ℕ} 0 1 = cc in absurd (omega arith)
    go rest false q f = (q, rest f)

-- of one list of refusals and then of another: a refusal among the first stays the first, and where none is due there the rest decides
pub refused_before : (ds es : List Due) (n : ℕ) → first_due ds ≡ refused n → first_due (ds ++ es) ≡ refused n
unfolding first_due
refused_before [] es n e = let z : ◌≡◌ {A = ℕ} 0 1 = cc in absurd (omega arith)
refused_before (d ∷ ds) es n e = go (refused_before ds es n) d.due e
  where
    go : (first_due ds ≡ refused n → first_due (ds ++ es) ≡ refused n) → (b : Bool)
        → cond b (refused d.number) (first_due ds) ≡ refused n → cond b (refused d.number) (first_due (ds ++ es)) ≡ refused n
    go rest true q = q
    go rest false q = rest q

pub accepted_before : (ds es : List Due) → first_due ds ≡ accepted → first_due (ds ++ es) ≡ first_due es
unfolding first_due
accepted_before [] es e = refl
accepted_before (d ∷ ds) es e = go (accepted_before ds es) d.due e
  where
    go : (first_due ds ≡ accepted → first_due (ds ++ es) ≡ first_due es) → (b : Bool)
        → cond b (refused d.number) (first_due ds) ≡ accepted → cond b (refused d.number) (first_due (ds ++ es)) ≡ first_due es
    go rest true q = let z : ◌≡◌ {A = ℕ} 0 1 = cc in absurd (omega arith)
    go rest false q = rest q

pub accepted_first : (ds es : List Due) → first_due (ds ++ es) ≡ accepted → first_due ds ≡ accepted
accepted_first ds es e = go (first_due ds) refl
  where
    go : (v : Verdict) → first_due ds ≡ v → v ≡ accepted
    go accepted q = refl
    go (refused n) q = sym (refused_before ds es n q) ∙ e

-- the judge found nothing
pub accepted_by : {ended : Result Unit Refusal} {v : Verdict} {u : Unit} → verdict_of ended ≡ v → ended ≡ Ok u → v ≡ accepted
unfolding verdict_of
accepted_by j e = sym j ∙ ap verdict_of e

pub holds : (b : Bool) → not b ≡ false → T b
holds true e = tt
holds false e = subst T e tt

pub every_holds : {A : Type 0} (test : A → Bool) (xs : List A) → T (every test xs) → All (λ (x : A). T (test x)) xs
unfolding every
every_holds test [] t = tt
every_holds test (x ∷ xs) t = (and_l (test x) (every test xs) t, every_holds test xs (and_r (test x) (every test xs) t))

-- ---- rows

pub all_first_of : {A : Type 0} (P : A → Type 0) (at : ℕ → A) (n : ℕ) → ((i : ℕ) → i < n → P (at i)) → All P (first_of at n)
unfolding first_of
all_first_of P at zero f = tt
all_first_of P at (suc n) f = all_append P (first_of at n) (at n ∷ []) (all_first_of P at n (λ i h. f i (omega arith))) (f n (omega arith), tt)

pub all_both : {A : Type 0} (P Q : A → Type 0) (xs : List A) → All P xs → All Q xs → All (λ (x : A). P x × Q x) xs
all_both P Q [] p q = tt
all_both P Q (x ∷ xs) p q = ((p.0, q.0), all_both P Q xs p.1 q.1)

-- a row that lies whole within the words has all its corners
pub row_long : (corners i : ℕ) (words : List ℕ) → i < length words / suc corners → length (element_row corners words i).corners ≡ corners
unfolding element_row
row_long corners i words h =
    let l : suc i * suc corners ≤ length words = (le-div_iff_mul-le (zero-lt-suc corners)).0 h in
    simp (length-take, length-drop) (omega (arith, suc-mul i (suc corners), mul_comm (suc corners) i))

-- numbers that were judged are below the count
pub below : (n : ℕ) (xs : List ℕ) → T (every (good_number n) xs) → Below n xs
unfolding good_number
below n xs t = all_map (λ x u. ltb→lt x n u) xs (every_holds (good_number n) xs t)

elements_proper :
    (n corners count : ℕ) (words : List ℕ) → count ≤ length words / suc corners
    → T (every (λ (e : ElementRow). every (good_number n) e.corners) (first_of (element_row corners words) count))
    → All (Proper n corners) (map element_of (first_of (element_row corners words) count))
unfolding element_of
elements_proper n corners count words room good =
    let rows = first_of (element_row corners words) count in
    let Long : ElementRow → Type 0 = λ r. length r.corners ≡ corners in
    let Judged : ElementRow → Type 0 = λ r. T (every (good_number n) r.corners) in
    all_of_map (Proper n corners) element_of rows
    (all_map (λ r f. record { long = f.0; below = below n r.corners f.1 }) rows
    (all_both Long Judged rows
    (all_first_of Long (element_row corners words) count (λ i h. row_long corners i words (omega arith)))
    (every_holds (λ (r : ElementRow). every (good_number n) r.corners) rows good)))

curves_below :
    (n : ℕ) (cs : List CurveRow) (steps : List StepRow) → All (λ (s : StepRow). s.vertex < n) steps
    → All (λ (c : Curve). Below n c.vertices) (curves_of cs steps)
unfolding curves_of
curves_below n [] steps a = tt
curves_below n (c ∷ cs) steps a =
    let Low : StepRow → Type 0 = λ s. s.vertex < n in (
      all_of_map (λ (v : ℕ). v < n) (λ (s : StepRow). s.vertex) (take c.count steps) (all_take Low c.count steps a),
      curves_below n cs (drop c.count steps) (all_drop Low c.count steps a),
    )

steps_below : (n : ℕ) (steps : List StepRow) → T (every (λ (s : StepRow). good_number n s.vertex) steps) → All (λ (s : StepRow). s.vertex < n) steps
unfolding good_number
steps_below n steps t = all_map (λ s u. ltb→lt s.vertex n u) steps (every_holds (λ (s : StepRow). good_number n s.vertex) steps t)

-- ---- the whole mesh

-- what refusal 7 judges
pub record Numbers {F : Form} (n : ℕ) (r : RowsIn F) : Type 0 where
  pub points : T (every (good_number n) r.points)
  pub lines : T (every (λ (e : ElementRow). every (good_number n) e.corners) r.lines)
  pub areas : T (every (λ (e : ElementRow). every (good_number n) e.corners) r.areas)
  pub volumes : T (every (λ (e : ElementRow). every (good_number n) e.corners) r.volumes)
  pub steps : T (every (λ (s : StepRow). good_number n s.vertex) r.curve_vertices)

pub numbers : {F : Form} (n : ℕ) (r : RowsIn F) → T (numbers_hold n r) → Numbers n r
unfolding numbers_hold
numbers n r h =
    let inside : ElementRow → Bool = λ e. every (good_number n) e.corners in
    let p = every (good_number n) r.points in
    let l = every inside r.lines in
    let a = every inside r.areas in
    let v = every inside r.volumes in
    let c = every (λ (s : StepRow). good_number n s.vertex) r.curve_vertices in
    let h_v = and_l (p && l && a && v) c h in
    let h_a = and_l (p && l && a) v h_v in
    let h_l = and_l (p && l) a h_a in
    record {
      points = and_l p l h_l;
      lines = and_r p l h_l;
      areas = and_r (p && l) a h_a;
      volumes = and_r (p && l && a) v h_v;
      steps = and_r (p && l && a && v) c h;
    }

-- the corner counts of memory's rows are those of the shapes
area_corners_lem : (kind : Kind) → area_corners kind ≡ (face_shape kind).count
area_corners_lem cubes = refl
area_corners_lem simplices = refl

volume_corners_lem : (kind : Kind) → volume_corners kind ≡ (volume_shape kind).count
volume_corners_lem cubes = refl
volume_corners_lem simplices = refl

-- lists whose counts hold and whose numbers were judged
judged :
    {F : Form} (kind : Kind) (s : Sizes) (b : BenchIn F) → T (within s (cells kind b)) → T (numbers_hold s.vertices (rows_of kind s b))
    → Well kind s.vertices (mesh_of (rows_of kind s b)).lists
unfolding cells rows_of mesh_of
judged kind s b room good =
    let n = s.vertices in
    let q = within_facts s (cells kind b) (true_is _ room) in
    let g = numbers n (rows_of kind s b) good in
    let steps = (rows_of kind s b).curve_vertices in
    record {
      lines = elements_proper n 2 s.lines b.lines q.lines g.lines;
      areas = subst (λ (k : ℕ). All (Proper n k) (map element_of (rows_of kind s b).areas)) (area_corners_lem kind) (elements_proper n (area_corners kind) s.areas b.areas q.areas g.areas);
      volumes = subst (λ (k : ℕ). All (Proper n k) (map element_of (rows_of kind s b).volumes)) (volume_corners_lem kind) (elements_proper n (volume_corners kind) s.volumes b.volumes q.volumes g.volumes);
      curves = curves_below n (rows_of kind s b).curves steps (steps_below n steps g.steps);
    }

-- the vertices are as many as are stated
pub vertex_count : {F : Form} (kind : Kind) (s : Sizes) (b : BenchIn F) → length (mesh_of (rows_of kind s b)).vertices ≡ s.vertices
unfolding rows_of mesh_of
vertex_count kind s b = length_first_of _ s.vertices

-- the lists of a mesh that no entry refuses for what is handed in
pub judged_well :
    {F : Form} (nine five : Bool) (kind : Kind) (s : Sizes) (b : BenchIn F) → first_due (handed_in nine five kind s b) ≡ accepted
    → Well kind s.vertices (mesh_of (rows_of kind s b)).lists
unfolding handed_in counts_hold
judged_well nine five kind s b e =
    let r = rows_of kind s b in
    let room = within s (cells kind b) in
    let sum = eqb (curve_lengths r.curves) s.curve_vertices in
    let none = none_due (handed_in nine five kind s b) e in
    let counts = and_l (room && sum) nine (holds (room && sum && nine) none.0) in
    judged kind s b (and_l room sum counts) (holds (numbers_hold s.vertices r) none.1.1.1.0)

pub accepted_well :
    {F : Form} (kind : Kind) (s : Sizes) (d : DeskIn F) (time : ℕ) → refinement_verdict kind s d time ≡ accepted
    → let mesh = mesh_of (rows_of kind s d.first) in
    Well kind (length mesh.vertices) mesh.lists
unfolding refinement_verdict
accepted_well kind s d time e = rw vertex_count (judged_well (benches_hold kind d) (good_parity time) kind s d.first e)
