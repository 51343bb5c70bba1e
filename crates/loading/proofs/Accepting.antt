-- A mesh that was read and stands on a bench is accepted in memory: no refusal is due for it. Assumes nothing.
use mathlib.Core.Path.{◌≡◌, refl, sym, ◌∙◌, ap}
use mathlib.Core.Bool.{Bool, true, not}
use mathlib.Core.List.{List, [], ◌∷◌, map, flat_map}
use Prim.Native.Nat.{ℕ}
use lib.Dec.{eqb}
use lib.ListN.{length}
use Rattle.geom.specs.declared.parity.Parity.{Parity}
use Rattle.geom.specs.declared.vertex.Vertex.{Vertex}
use Rattle.geom.specs.Answers.{accepted, first_due}
use Rattle.geom.specs.Book.{Kind}
use Rattle.geom.specs.Elements.{Element, Curve}
use Rattle.geom.specs.Mesh.{Mesh, sizes_of}
use Rattle.geom.specs.Memory.{Bench, ElementRow, CurveRow, StepRow, Rows, area_corners, volume_corners, cells, rows_of, mesh_of, bench_of}
use Rattle.geom.specs.Refinement.{LIMITS}
use Rattle.geom.specs.Refusals.{every, good_position, good_number, good_curve, positions_hold, numbers_hold, handed_in, StandsFor}
use Rattle.geom.specs.File.{bench_over}
use Rattle.geom.specs.Between.{All}
use Rattle.geom.proofs.Lists.{all_map, all_append, all_of_map}
use Rattle.geom.proofs.Back.{element_row_of, curve_row_of, step_rows, own_steps}
use Rattle.geom.proofs.Standing.{over_begins, Laid, elements_read, curves_read, steps_read, every_true, stands}
use Rattle.geom.proofs.Within.{within_holds}
use Rattle.judge.proofs.Verdicts.{numbers_are, due_none}
use Rattle.loading.proofs.Fine.{Number, Fine}

-- a mesh that was written over a bench stands there
pub laid : (m : Mesh) (old : Bench) → Laid m (bench_over old (bench_of m))
unfolding bench_over
laid m old =
    record {
      positions = over_begins old.positions (bench_of m).positions refl;
      marks = over_begins old.marks (bench_of m).marks refl;
      points = over_begins old.points (bench_of m).points refl;
      lines = over_begins old.lines (bench_of m).lines refl;
      areas = over_begins old.areas (bench_of m).areas refl;
      volumes = over_begins old.volumes (bench_of m).volumes refl;
      curves = over_begins old.curves (bench_of m).curves refl;
      curve_vertices = over_begins old.curve_vertices (bench_of m).curve_vertices refl;
    }

-- ---- tests over the rows of a mesh

every_number : (count : ℕ) (vs : List ℕ) → All (Number count) vs → every (good_number count) vs ≡ true
every_number count vs a = every_true (good_number count) vs a

elements_numbered :
    (count : ℕ) (es : List Element) → All (λ (e : Element). All (Number count) e.corners) es
    → every (λ (e : ElementRow). every (good_number count) e.corners) (map element_row_of es) ≡ true
elements_numbered count es a =
    every_true (λ (e : ElementRow). every (good_number count) e.corners) (map element_row_of es)
    (all_of_map (λ (e : ElementRow). every (good_number count) e.corners ≡ true) element_row_of es
    (all_map (λ e b. every_number count e.corners b) es a))

steps_numbered : (count : ℕ) (vs : List ℕ) (ps : List Parity) → All (Number count) vs → All (λ (s : StepRow). Number count s.vertex) (step_rows vs ps)
steps_numbered count [] ps a = tt
steps_numbered count (v ∷ vs) [] a = (a.0, steps_numbered count vs [] a.1)
steps_numbered count (v ∷ vs) (p ∷ ps) a = (a.0, steps_numbered count vs ps a.1)

curves_numbered :
    (count : ℕ) (cs : List Curve) → All (λ (c : Curve). All (Number count) c.vertices) cs
    → All (λ (s : StepRow). Number count s.vertex) (flat_map own_steps cs)
unfolding flat_map
curves_numbered count [] a = tt
curves_numbered count (c ∷ cs) a =
    all_append (λ (s : StepRow). Number count s.vertex) (own_steps c) (flat_map own_steps cs)
    (steps_numbered count c.vertices c.parities a.0) (curves_numbered count cs a.1)

curves_some :
    (cs : List Curve) → All (λ (c : Curve). not (eqb (length c.vertices) 0) ≡ true) cs → every good_curve (map curve_row_of cs) ≡ true
unfolding good_curve
curves_some cs a = every_true good_curve (map curve_row_of cs) (all_of_map (λ (r : CurveRow). good_curve r ≡ true) curve_row_of cs a)

-- ---- the verdict

module _ (kind : Kind) (m : Mesh) (b : Bench) (l : Laid m b) (f : Fine kind (cells kind b) m) where
  standing : StandsFor kind b m
  standing = stands kind m b l f.formed (within_holds (sizes_of m) (cells kind b) f.within)

  -- what is read back is the mesh
  pub mesh_back : mesh_of (rows_of kind (sizes_of m) b) ≡ m
  unfolding StandsFor
  mesh_back = standing.2

  abbrev rows : Rows
  rows = rows_of kind (sizes_of m) b

  positions_hold_lem : positions_hold rows ≡ true
  unfolding positions_hold mesh_of
  positions_hold_lem =
      ap (λ (x : Mesh). every (λ (v : Vertex). good_position v.position) x.vertices) mesh_back
      ∙ every_true (λ (v : Vertex). good_position v.position) m.vertices f.positions

  numbers_hold_lem : numbers_hold (sizes_of m).vertices rows ≡ true
  unfolding mesh_of rows_of sizes_of bench_of
  numbers_hold_lem =
      let n = length m.vertices in
      sym
      (numbers_are rows n true true true true true
      (sym (ap (λ (x : Mesh). every (good_number n) x.points) mesh_back ∙ every_number n m.points f.points))
      (sym (ap (every (λ (e : ElementRow). every (good_number n) e.corners)) (elements_read 2 m.lists.lines l.lines f.formed.lines) ∙ elements_numbered n m.lists.lines f.lines))
      (sym (ap (every (λ (e : ElementRow). every (good_number n) e.corners)) (elements_read (area_corners kind) m.lists.areas l.areas f.formed.areas) ∙ elements_numbered n m.lists.areas f.areas))
      (sym (ap (every (λ (e : ElementRow). every (good_number n) e.corners)) (elements_read (volume_corners kind) m.lists.volumes l.volumes f.formed.volumes) ∙ elements_numbered n m.lists.volumes f.volumes))
      (sym
      (ap (every (λ (s : StepRow). good_number n s.vertex)) (steps_read m.lists.curves l.curve_vertices)
      ∙ every_true (λ (s : StepRow). good_number n s.vertex) (flat_map own_steps m.lists.curves) (curves_numbered n m.lists.curves f.curves))))

  curves_hold : every good_curve rows.curves ≡ true
  unfolding rows_of sizes_of bench_of
  curves_hold = ap (every good_curve) (curves_read m.lists.curves l.curves) ∙ curves_some m.lists.curves f.some

  -- no refusal is due
  pub none_due : (nine five : Bool) → nine ≡ true → five ≡ true → first_due (handed_in nine five kind (sizes_of m) b) ≡ accepted
  unfolding StandsFor
  none_due nine five n t =
      sym
      (due_none kind (sizes_of m) b nine five standing.0 n standing.1 t positions_hold_lem numbers_hold_lem curves_hold
      (within_holds (sizes_of m) LIMITS f.limits))
