-- What a refinement leaves of an accepted mesh is accepted again, on every bench on which it stands; so it can be refined further.
-- Assumes nothing.
use mathlib.Core.Path.{◌≡◌, refl, sym, ap, ◌∙◌, subst}
use mathlib.Core.Bool.{Bool, true, false, cond, not, ◌&&◌}
use mathlib.Core.List.{List, [], ◌∷◌, map}
use Prim.Native.Nat.{ℕ, zero, suc, ◌≤◌, ◌<◌}
use native.Mathlib.Omega.{arith}
use borrow.Author.Tests.{ne_eqb}
use lib.Dec.{T, eqb, leb, lt→ltb}
use lib.Ieee.Fits.{and_l, and_r}
use lib.ListN.{length, take, drop, length-map, length-take, length-drop, take-append-drop}
use Rattle.geom.specs.declared.answer.Sizes.{Sizes}
use Rattle.geom.specs.Book.{Kind, Book, each}
use Rattle.geom.specs.Elements.{Curve}
use Rattle.geom.specs.Rules.{curve_from, curve, Went, pass_by}
use Rattle.geom.specs.Passes.{pass}
use Rattle.geom.specs.Ledger.{face_shape, volume_shape}
use Rattle.geom.specs.Form.{Form}
use Rattle.geom.specs.Mesh.{MeshIn, sizes_of}
use Rattle.geom.specs.Answers.{accepted, refused, Due, first_due}
use Rattle.geom.specs.Refinement.{StateIn, pass_over, state_after, begun, Lent, LIMITS, within, fits, RunIn, run_from, run, went}
use Rattle.geom.specs.Memory.{BenchIn, cells, ElementRow, CurveRow, StepRow, RowsIn, rows_of, step_row, element_of, curves_of, mesh_of}
use Rattle.geom.specs.Refusals.{every, good_parity, good_position_in, good_number, good_curve, curve_lengths, counts_hold, positions_hold, numbers_hold, handed_in, DeskIn, lent_by, benches_hold, refinement_verdict, StandsFor}
use Rattle.geom.specs.Between.{All, Below, Proper, Well}
use Rattle.geom.proofs.Rows.{length_first_of}
use Rattle.geom.proofs.Stated.{sizes_stated}
use Rattle.geom.proofs.Lists.{all_map, all_append, all_under_map, true_is, same_number, and_true_left, and_true_right}
use Rattle.geom.proofs.Standing.{every_true}
use Rattle.geom.proofs.Well.{below_more, pass_is}
use Rattle.geom.proofs.Left.{run_left}
use Rattle.geom.proofs.Accepted.{none_due, holds, every_holds, below, numbers, judged_well, vertex_count}
use Rattle.geom.proofs.Refined.{original, run_of}
use Rattle.geom.proofs.Steady.{Placed, Steady, placed_after}
use Rattle.geom.proofs.Pinned.{good_after, counted, never_fewer}

-- ---- from a mesh to the rows that stand for it

numbers_good : (n : ℕ) (xs : List ℕ) → Below n xs → every (good_number n) xs ≡ true
unfolding good_number
numbers_good n xs b = every_true (good_number n) xs (all_map (λ x l. true_is _ (lt→ltb x n l)) xs b)

rows_good : (n k : ℕ) (rs : List ElementRow) → All (Proper n k) (map element_of rs) → every (λ (e : ElementRow). every (good_number n) e.corners) rs ≡ true
unfolding element_of
rows_good n k rs a =
    every_true (λ (e : ElementRow). every (good_number n) e.corners) rs
    (all_map (λ r (p : Proper n k (element_of r)). numbers_good n r.corners p.below) rs (all_under_map (Proper n k) element_of rs a))

abbrev Low : ℕ → StepRow → Type 0
Low n s = s.vertex < n

steps_low :
    (n : ℕ) (cs : List CurveRow) (rs : List StepRow) → curve_lengths cs ≡ length rs → All (λ (c : Curve). Below n c.vertices) (curves_of cs rs) → All (Low n) rs
unfolding curves_of curve_lengths
steps_low n [] [] e a = tt
steps_low n [] (r ∷ rs) e a = absurd (omega arith)
steps_low n (c ∷ cs) rs e a =
    let front = take c.count rs in
    let rest = drop c.count rs in
    let l : curve_lengths cs ≡ length rest = omega (arith, e, length-drop c.count rs) in
    subst (All (Low n)) (take-append-drop c.count rs)
    (all_append (Low n) front rest (all_under_map (λ (v : ℕ). v < n) (λ (r : StepRow). r.vertex) front a.0) (steps_low n cs rest l a.1))

steps_good : (n : ℕ) (rs : List StepRow) → All (Low n) rs → every (λ (s : StepRow). good_number n s.vertex) rs ≡ true
unfolding good_number
steps_good n rs a = every_true (λ (s : StepRow). good_number n s.vertex) rs (all_map (λ r l. true_is _ (lt→ltb r.vertex n l)) rs a)

-- a curve with vertices
abbrev pub Some : Curve → Type 0
Some c = 0 < length c.vertices

curves_good : (cs : List CurveRow) (rs : List StepRow) → All Some (curves_of cs rs) → every good_curve cs ≡ true
unfolding every curves_of good_curve
curves_good [] rs a = refl
curves_good (c ∷ cs) rs a = rw (go c.count a.0) (curves_good cs (drop c.count rs) a.1)
  where
    go : (n : ℕ) → 0 < length (map (λ (r : StepRow). r.vertex) (take n rs)) → eqb n 0 ≡ false
    go zero h = absurd (omega arith)
    go (suc n) h = ne_eqb (suc n) 0 (λ e. omega arith)

good_curves : (cs : List CurveRow) (rs : List StepRow) → curve_lengths cs ≤ length rs → T (every good_curve cs) → All Some (curves_of cs rs)
unfolding every curves_of good_curve curve_lengths
good_curves [] rs l t = tt
good_curves (c ∷ cs) rs l t =
    let n = length-map (take c.count rs) (λ (r : StepRow). r.vertex) ∙ length-take c.count rs in
    let p = some c.count (and_l (not (eqb c.count 0)) (every good_curve cs) t) in
    (omega (arith, n, p), good_curves cs (drop c.count rs) (omega (arith, length-drop c.count rs)) (and_r (not (eqb c.count 0)) (every good_curve cs) t))
  where
    some : (n : ℕ) → T (not (eqb n 0)) → 0 < n
    some zero h = absurd h
    some (suc n) h = omega arith

-- ---- what is judged of a mesh, wherever it stands

pub record InOrder {F : Form} (kind : Kind) (m : MeshIn F) : Type 0 where
  pub positions : All (Placed F) m.vertices
  pub points : Below (length m.vertices) m.points
  pub well : Well kind (length m.vertices) m.lists
  pub curves : All Some m.lists.curves

positions_on : {F : Form} (r : RowsIn F) → All (Placed F) (mesh_of r).vertices → positions_hold r ≡ true
unfolding mesh_of positions_hold
positions_on {F} r a = every_true (λ (v : F.Vertex). good_position_in F (F.position v)) r.vertices a

numbers_on :
    {F : Form} (kind : Kind) (n : ℕ) (r : RowsIn F) → curve_lengths r.curves ≡ length r.curve_vertices → Below n (mesh_of r).points → Well kind n (mesh_of r).lists
    → numbers_hold n r ≡ true
unfolding mesh_of numbers_hold
numbers_on kind n r c points w =
    rw (
      numbers_good n r.points points,
      rows_good n 2 r.lines w.lines,
      rows_good n (face_shape kind).count r.areas w.areas,
      rows_good n (volume_shape kind).count r.volumes w.volumes,
      steps_good n r.curve_vertices (steps_low n r.curves r.curve_vertices c w.curves),
    )
    refl

curves_on : {F : Form} (r : RowsIn F) → All Some (mesh_of r).lists.curves → every good_curve r.curves ≡ true
unfolding mesh_of
curves_on r a = curves_good r.curves r.curve_vertices a

lengths_on :
    {F : Form} (kind : Kind) (s : Sizes) (b : BenchIn F) → counts_hold kind s b ≡ true → curve_lengths (rows_of kind s b).curves ≡ length (rows_of kind s b).curve_vertices
unfolding counts_hold rows_of
lengths_on kind s b e =
    same_number (curve_lengths (rows_of kind s b).curves) s.curve_vertices (and_true_right (within s (cells kind b)) _ e)
    ∙ sym (length_first_of (step_row b.curve_vertices) s.curve_vertices)

-- a mesh in order and within the limits is accepted on every bench on which it stands
pub accepted_on :
    {F : Form} (kind : Kind) (m : MeshIn F) (b : BenchIn F) → InOrder kind m → within (sizes_of m) LIMITS ≡ true → StandsFor kind b m
    → first_due (handed_in true true kind (sizes_of m) b) ≡ accepted
unfolding StandsFor handed_in first_due sizes_of
accepted_on {F} kind m b order limits stand =
    let s = sizes_of m in
    let r = rows_of kind s b in
    let o : InOrder kind (mesh_of r) = subst (InOrder kind) (sym stand.2) order in
    let n : length (mesh_of r).vertices ≡ s.vertices = ap (λ (x : MeshIn F). length x.vertices) stand.2 in
    let numbers : numbers_hold s.vertices r ≡ true =
    subst (λ (x : ℕ). numbers_hold x r ≡ true) n (numbers_on kind (length (mesh_of r).vertices) r (lengths_on kind s b stand.0) o.points o.well) in
    rw (stand.0, stand.1, positions_on r o.positions, numbers, curves_on r o.curves, limits) refl

-- ---- passes keep a mesh in order

module _ (kind : Kind) (base : ℕ) where
  curve_some : (book : Book) (c : Curve) → Some c → All Some (curve kind base book c).made
  unfolding curve
  curve_some book c s = go c.vertices
    where
      go : (vs : List ℕ) → All Some (curve_from kind base book c vs).made
      go [] = (s, tt)
      go (u ∷ ws) = (omega arith, tt)

  curves_some : (cs : List Curve) (book : Book) → All Some cs → All Some (each (curve kind base) book cs).made
  unfolding each
  curves_some [] book a = tt
  curves_some (c ∷ cs) book a =
      let next = (curve kind base book c).book in
      all_append Some (curve kind base book c).made (each (curve kind base) next cs).made (curve_some book c a.0) (curves_some cs next a.1)

  pass_some : (w : Went) → All Some w.lists.curves → All Some (pass kind base w).lists.curves
  unfolding pass_by
  pass_some w a = subst (λ (x : Went). All Some x.lists.curves) (sym (pass_is kind base w)) (curves_some w.lists.curves _ a)

module _ {F : Form} (steady : Steady F) (kind : Kind) (time : Bool) (mesh : MeshIn F) (order : InOrder kind mesh) where
  abbrev base : ℕ
  base = length mesh.vertices

  abbrev state : ℕ → StateIn F
  state n = state_after kind time mesh n

  some_after : (n : ℕ) → All Some (state n).mesh.lists.curves
  unfolding state_after pass_over
  some_after zero = order.curves
  some_after (suc n) = pass_some kind base (went (state n)) (some_after n)

  points_after : (n : ℕ) → (state n).mesh.points ≡ mesh.points
  unfolding state_after pass_over
  points_after zero = refl
  points_after (suc n) = points_after n

  order_after : (n : ℕ) → InOrder kind (state n).mesh
  order_after n =
      record {
        positions = placed_after steady kind time mesh n order.positions;
        points = subst (Below (length (state n).mesh.vertices)) (sym (points_after n)) (below_more (never_fewer kind time mesh n) mesh.points order.points);
        well = subst (λ (k : ℕ). Well kind k (state n).mesh.lists) (sym (counted kind time mesh order.well n)) (good_after kind time mesh order.well n).well;
        curves = some_after n;
      }

-- ---- the limits

fits_limits : {F : Form} (lent : Lent) (s : StateIn F) → fits lent s ≡ true → within (sizes_of s.mesh) LIMITS ≡ true
unfolding fits
fits_limits lent s e =
    let a = within (sizes_of s.mesh) lent.cells in
    let b = within (sizes_of s.mesh) LIMITS in
    let c = leb (length s.book) lent.book in
    and_true_right a b (and_true_left (a && b) c (and_true_left (a && b && c) _ e))

run_limits :
    {F : Form} (kind : Kind) (time : Bool) (lent : Lent) (base depth n : ℕ) (s : StateIn F) → within (sizes_of s.mesh) LIMITS ≡ true
    → within (sizes_of (run_from kind time lent base depth n s).left.mesh) LIMITS ≡ true
unfolding run_from
run_limits kind time lent from zero n s e = e
run_limits {F} kind time lent from (suc depth) n s e = go (run_limits kind time lent from depth (suc n) (pass_over kind time from s)) (fits lent (pass_over kind time from s)) refl
  where
    next : StateIn F
    next = pass_over kind time from s

    Fine : RunIn F → Type 0
    Fine r = within (sizes_of r.left.mesh) LIMITS ≡ true

    go : (within (sizes_of next.mesh) LIMITS ≡ true → Fine (run_from kind time lent from depth (suc n) next)) → (b : Bool) → fits lent next ≡ b
        → Fine (cond b (run_from kind time lent from depth (suc n) next) (record { passes = n; left = s; verdict = refused 10 }))
    go onward true f = onward (fits_limits lent next f)
    go onward false f = e

-- ---- what acceptance gives

module _ {F : Form} (nine five : Bool) (kind : Kind) (s : Sizes) (b : BenchIn F) (yes_it_is : first_due (handed_in nine five kind s b) ≡ accepted) where
  abbrev r : RowsIn F
  r = rows_of kind s b

  abbrev mesh : MeshIn F
  mesh = mesh_of r

  not_due : All (λ (x : Due). x.due ≡ false) (handed_in nine five kind s b)
  not_due = none_due (handed_in nine five kind s b) yes_it_is

  counts_hold_lem : counts_hold kind s b ≡ true
  unfolding handed_in
  counts_hold_lem = true_is _ (and_l (counts_hold kind s b) nine (holds (counts_hold kind s b && nine) not_due.0))

  positions_good : All (Placed F) mesh.vertices
  unfolding handed_in positions_hold mesh_of
  positions_good =
      let test : F.Vertex → Bool = λ v. good_position_in F (F.position v) in
      all_map (λ v t. true_is _ t) r.vertices (every_holds test r.vertices (holds (every test r.vertices) not_due.1.1.0))

  points_low : Below s.vertices r.points
  unfolding handed_in
  points_low = below s.vertices r.points (numbers s.vertices r (holds (numbers_hold s.vertices r) not_due.1.1.1.0)).points

  curves_hold : T (every good_curve r.curves)
  unfolding handed_in
  curves_hold = holds (every good_curve r.curves) not_due.1.1.1.1.0

  pub limits_hold : within (sizes_of mesh) LIMITS ≡ true
  unfolding handed_in counts_hold rows_of
  limits_hold =
      let lengths = same_number (curve_lengths r.curves) s.curve_vertices (and_true_right (within s (cells kind b)) _ counts_hold_lem) in
      ap (λ (x : Sizes). within x LIMITS) (sizes_stated kind s b lengths) ∙ true_is _ (holds (within s LIMITS) not_due.1.1.1.1.1.0)

  pub accepted_in_order : InOrder kind mesh
  unfolding mesh_of
  accepted_in_order =
      let e = sym (vertex_count kind s b) in
      record {
        positions = positions_good;
        points = subst (λ (n : ℕ). Below n r.points) e points_low;
        well = subst (λ (n : ℕ). Well kind n mesh.lists) e (judged_well nine five kind s b yes_it_is);
        curves = good_curves r.curves r.curve_vertices (omega (arith, lengths_on kind s b counts_hold_lem)) curves_hold;
      }

-- ---- the mesh that is left

module _ {F : Form} (kind : Kind) (s : Sizes) (d : DeskIn F) (time : ℕ) (yes_it_is : refinement_verdict kind s d time ≡ accepted) where
  started : InOrder kind (original kind s d)
  unfolding refinement_verdict
  started = accepted_in_order (benches_hold kind d) (good_parity time) kind s d.first yes_it_is

  started_limits : within (sizes_of (original kind s d)) LIMITS ≡ true
  unfolding refinement_verdict
  started_limits = limits_hold (benches_hold kind d) (good_parity time) kind s d.first yes_it_is

  module _ (steady : Steady F) (depth : ℕ) where
    abbrev left : MeshIn F
    left = (run_of kind s d depth time).left.mesh

    left_in_order : InOrder kind left
    left_in_order =
        subst (λ (x : StateIn F). InOrder kind x.mesh) (sym (run_left kind (eqb time 1) (lent_by kind d) depth (original kind s d)))
        (order_after steady kind (eqb time 1) (original kind s d) started (run_of kind s d depth time).passes)

    left_limits : within (sizes_of left) LIMITS ≡ true
    unfolding run
    left_limits = run_limits kind (eqb time 1) (lent_by kind d) (length (original kind s d).vertices) depth 0 (begun (original kind s d)) started_limits

    pub left_placed : All (Placed F) left.vertices
    left_placed = left_in_order.positions

    pub accepted_again : (bench : BenchIn F) → StandsFor kind bench left → first_due (handed_in true true kind (sizes_of left) bench) ≡ accepted
    accepted_again bench = accepted_on kind left bench left_in_order left_limits

    -- handed in once more, with benches and a byte in order
    pub verdict_again :
        (next : DeskIn F) (byte : ℕ) → StandsFor kind next.first left → benches_hold kind next ≡ true → good_parity byte ≡ true
        → refinement_verdict kind (sizes_of left) next byte ≡ accepted
    unfolding refinement_verdict
    verdict_again next byte stand benches parity = rw (benches, parity) (accepted_again next.first stand)
