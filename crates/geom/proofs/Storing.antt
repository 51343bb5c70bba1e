-- A mesh that is accepted in memory can be held by a file, where its words have 32 bits and its floats are binary32's. So what is written for
-- it reads back. Assumes nothing.
use mathlib.Core.Path.{◌≡◌, refl, ◌∙◌, ap}
use mathlib.Core.Bool.{Bool, true, not, ◌&&◌}
use mathlib.Core.List.{List, [], ◌∷◌, map}
use Prim.Native.Nat.{ℕ, suc, ◌+◌, ◌-◌, ◌*◌, ◌/◌, ◌^◌, ◌≤◌, ◌<◌}
use native.Mathlib.Omega.{arith}
use lib.Dec.{T, eqb, eqb→eq}
use lib.Ieee.{binary32, fits}
use lib.Ieee.Fits.{and_l, and_r}
use lib.ListN.{length, get_or, take, drop, length-take, length-drop, length-map}
use Rattle.numbers.specs.Binary32 as Binary32
use Rattle.geom.specs.declared.vertex.Vertex.{Vertex}
use Rattle.geom.specs.declared.answer.Sizes.{Sizes}
use Rattle.geom.specs.Book.{Kind}
use Rattle.geom.specs.Mesh.{sizes_of}
use Rattle.geom.specs.Answers.{accepted, first_due}
use Rattle.geom.specs.Memory.{Bench, cells, ElementRow, CurveRow, StepRow, Rows, first_of, four_row, vertex_row, vertex_row_in, element_row, curve_row, step_row, rows_of, area_corners, volume_corners, parity_of, element_of, step_words, curves_of, mesh_of}
use Rattle.geom.specs.Refinement.{LIMITS, within}
use Rattle.geom.specs.Refusals.{every, good_flags, good_parity, good_coordinate, good_position, good_position_in, good_number, good_curve, curve_lengths, counts_hold, marks_hold, positions_hold, numbers_hold, handed_in}
use Rattle.geom.specs.File.{file_of, figure, read}
use Rattle.geom.specs.Between.{All}
use Rattle.geom.proofs.Rows.{length_first_of}
use Rattle.geom.proofs.Lists.{all_map, all_of_map, all_take, all_drop, true_is, and_true_left, and_true_right}
use Rattle.geom.proofs.Within.{Within, within_facts}
use Rattle.geom.proofs.Stated.{sizes_stated}
use Rattle.geom.proofs.Accepted.{none_due, holds, every_holds, all_first_of, all_both, row_long, numbers as numbers_judged, vertex_count}
use Rattle.geom.proofs.Reread.{Placed, Number, Cornered, Strung, Storable, reads_back}

-- words of 32 bits, and values that binary32 holds, at every place: what slices of u32 and f32 give
pub record Worded (b : Bench) : Type 0 where
  pub positions : (i : ℕ) → T (fits binary32 (get_or b.positions i Binary32.zero))
  pub marks : (i : ℕ) → get_or b.marks i 0 < 2 ^ 32
  pub curves : (i : ℕ) → get_or b.curves i 0 < 2 ^ 32

-- ---- tests

every_is : {A : Type 0} (test : A → Bool) (xs : List A) → T (every test xs) → All (λ (x : A). test x ≡ true) xs
every_is test xs t = all_map (λ x u. true_is (test x) u) xs (every_holds test xs t)

within_true : (s t : Sizes) → T (within s t) → Within s t
within_true s t h = within_facts s t (true_is (within s t) h)

-- ---- vertices

record Raw (v : Vertex) : Type 0 where
  x : T (fits binary32 v.position.x)
  y : T (fits binary32 v.position.y)
  z : T (fits binary32 v.position.z)
  w : T (fits binary32 v.position.w)
  tag : v.tag < 2 ^ 32
  k : v.k < 2 ^ 32

placed : (v : Vertex) → Raw v → good_flags v.flags ≡ true → good_position v.position ≡ true → Placed v
unfolding good_position_in
placed v r f g =
    let a = good_coordinate v.position.x in
    let b = good_coordinate v.position.y in
    let c = good_coordinate v.position.z in
    let d = good_coordinate v.position.w in
    let h = and_true_left (a && b && c) d g in
    let i = and_true_left (a && b) c h in
    record {
      x = record { holds = r.x; good = and_true_left a b i };
      y = record { holds = r.y; good = and_true_right a b i };
      z = record { holds = r.z; good = and_true_right (a && b) c h };
      w = record { holds = r.w; good = and_true_right (a && b && c) d g };
      flags = f;
      tag = r.tag;
      k = r.k;
    }

raw : (b : Bench) → Worded b → (i : ℕ) → Raw (vertex_row b.positions b.marks i)
unfolding vertex_row_in four_row
raw b w i =
    record {
      x = w.positions (4 * i);
      y = w.positions (4 * i + 1);
      z = w.positions (4 * i + 2);
      w = w.positions (4 * i + 3);
      tag = w.marks (3 * i + 1);
      k = w.marks (3 * i + 2);
    }

vertices_placed : (b : Bench) (n : ℕ) → Worded b
    → T (every (λ (v : Vertex). good_flags v.flags) (first_of (vertex_row b.positions b.marks) n))
    → T (every (λ (v : Vertex). good_position v.position) (first_of (vertex_row b.positions b.marks) n))
    → All Placed (first_of (vertex_row b.positions b.marks) n)
vertices_placed b n w f g =
    let vs = first_of (vertex_row b.positions b.marks) n in
    let Flags : Vertex → Type 0 = λ v. good_flags v.flags ≡ true in
    let Good : Vertex → Type 0 = λ v. good_position v.position ≡ true in
    let Both : Vertex → Type 0 = λ v. Flags v × Good v in
    all_map (λ v h. placed v h.0 h.1.0 h.1.1) vs
    (all_both Raw Both vs (all_first_of Raw (vertex_row b.positions b.marks) n (λ i l. raw b w i))
    (all_both Flags Good vs (every_is (λ (v : Vertex). good_flags v.flags) vs f) (every_is (λ (v : Vertex). good_position v.position) vs g)))

-- ---- elements

elements_cornered :
    (n corners count : ℕ) (words : List ℕ) → count ≤ length words / suc corners
    → T (every (λ (e : ElementRow). every (good_number n) e.corners) (first_of (element_row corners words) count))
    → All (Cornered n corners) (map element_of (first_of (element_row corners words) count))
unfolding element_of
elements_cornered n corners count words room good =
    let rows = first_of (element_row corners words) count in
    let Long : ElementRow → Type 0 = λ r. length r.corners ≡ corners in
    let Judged : ElementRow → Type 0 = λ r. T (every (good_number n) r.corners) in
    all_of_map (Cornered n corners) element_of rows
    (all_map (λ r f. record { long = f.0; numbers = every_is (good_number n) r.corners f.1 }) rows
    (all_both Long Judged rows
    (all_first_of Long (element_row corners words) count (λ i h. row_long corners i words (omega arith)))
    (every_holds (λ (r : ElementRow). every (good_number n) r.corners) rows good)))

-- ---- curves

pub steps_fewer : (rs : List StepRow) → length (step_words rs) ≡ length rs - 1
unfolding step_words
steps_fewer [] = refl
steps_fewer (r ∷ []) = refl
steps_fewer (r ∷ s ∷ rs) = omega (arith, steps_fewer (s ∷ rs))

curves_strung :
    (n : ℕ) (cs : List CurveRow) (steps : List StepRow) → curve_lengths cs ≤ length steps
    → All (λ (c : CurveRow). c.tag < 2 ^ 32) cs → All (λ (c : CurveRow). good_curve c ≡ true) cs
    → All (λ (s : StepRow). Number n s.vertex) steps → All (Strung n) (curves_of cs steps)
unfolding curves_of curve_lengths good_curve
curves_strung n [] steps l t g a = tt
curves_strung n (c ∷ cs) steps l t g a =
    let Low : StepRow → Type 0 = λ s. Number n s.vertex in
    let own = take c.count steps in
    let h = length-take c.count steps in
    let d = length-drop c.count steps in
    let e : length (map (λ (r : StepRow). r.vertex) own) ≡ c.count = omega (arith, length-map own (λ (r : StepRow). r.vertex)) in (
      record {
        tag = t.0;
        some = ap (λ (k : ℕ). not (eqb k 0)) e ∙ g.0;
        numbers = all_of_map (Number n) (λ (s : StepRow). s.vertex) own (all_take Low c.count steps a);
        stepped = omega (arith, length-map (step_words own) parity_of, steps_fewer own, length-map own (λ (r : StepRow). r.vertex));
      },
      curves_strung n cs (drop c.count steps) (omega arith) t.1 g.1 (all_drop Low c.count steps a),
    )

-- ---- the whole mesh

-- the sizes of a mesh that is accepted are those that are stated
module _ (kind : Kind) (s : Sizes) (b : Bench) (nine five : Bool) (e : first_due (handed_in nine five kind s b) ≡ accepted) where
  counts : T (counts_hold kind s b)
  unfolding handed_in
  counts = and_l (counts_hold kind s b) nine (holds (counts_hold kind s b && nine) (none_due (handed_in nine five kind s b) e).0)

  pub accepted_cells : Within s (cells kind b)
  unfolding counts_hold
  accepted_cells = within_true s (cells kind b) (and_l (within s (cells kind b)) (eqb (curve_lengths (rows_of kind s b).curves) s.curve_vertices) counts)

  pub accepted_limits : Within s LIMITS
  unfolding handed_in
  accepted_limits = within_true s LIMITS (holds (within s LIMITS) (none_due (handed_in nine five kind s b) e).1.1.1.1.1.0)

  pub accepted_sum : curve_lengths (rows_of kind s b).curves ≡ s.curve_vertices
  unfolding counts_hold
  accepted_sum =
      eqb→eq (curve_lengths (rows_of kind s b).curves) s.curve_vertices
      (and_r (within s (cells kind b)) (eqb (curve_lengths (rows_of kind s b).curves) s.curve_vertices) counts)

  pub accepted_curves : All (λ (c : CurveRow). good_curve c ≡ true) (rows_of kind s b).curves
  unfolding handed_in
  accepted_curves = every_is good_curve (rows_of kind s b).curves (holds (every good_curve (rows_of kind s b).curves) (none_due (handed_in nine five kind s b) e).1.1.1.1.0)

  pub accepted_sizes : sizes_of (mesh_of (rows_of kind s b)) ≡ s
  unfolding rows_of
  accepted_sizes = sizes_stated kind s b accepted_sum

module _ (kind : Kind) (s : Sizes) (b : Bench) (words : Worded b) where
  abbrev r : Rows
  r = rows_of kind s b

  storable :
      T (within s (cells kind b)) → curve_lengths r.curves ≡ s.curve_vertices → T (marks_hold r) → T (positions_hold r)
      → T (numbers_hold s.vertices r) → T (every good_curve r.curves) → T (within s LIMITS) → Storable kind (mesh_of r)
  unfolding cells rows_of mesh_of curve_row marks_hold positions_hold
  storable fit sum marks positions numbers some few =
      let n = s.vertices in
      let even : ElementRow → Bool = λ e. good_parity e.parity in
      let f₁ = every (λ (v : Vertex). good_flags v.flags) r.vertices in
      let f₂ = every even r.lines in
      let f₃ = every even r.areas in
      let f₄ = every even r.volumes in
      let flags = and_l f₁ f₂ (and_l (f₁ && f₂) f₃ (and_l (f₁ && f₂ && f₃) f₄ (and_l (f₁ && f₂ && f₃ && f₄) _ marks))) in
      let judged = numbers_judged n r numbers in
      let q = within_true s (cells kind b) fit in
      let long : length r.curve_vertices ≡ s.curve_vertices = length_first_of (step_row b.curve_vertices) s.curve_vertices in
      let count = vertex_count kind s b in
      record {
        vertices = vertices_placed b n words flags positions;
        points = rw count (every_is (good_number n) r.points judged.points);
        lines = rw count (elements_cornered n 2 s.lines b.lines q.lines judged.lines);
        areas = rw count (elements_cornered n (area_corners kind) s.areas b.areas q.areas judged.areas);
        volumes = rw count (elements_cornered n (volume_corners kind) s.volumes b.volumes q.volumes judged.volumes);
        curves =
            rw count
            (curves_strung n r.curves r.curve_vertices (omega arith)
            (all_first_of (λ (c : CurveRow). c.tag < 2 ^ 32) (curve_row b.curves) s.curves (λ i h. words.curves (2 * i)))
            (every_is good_curve r.curves some)
            (every_is (λ (s : StepRow). good_number n s.vertex) r.curve_vertices judged.steps));
        limits = rw (sizes_stated kind s b sum) (within_true s LIMITS few);
      }

  -- a mesh that is accepted in memory can be held by a file
  pub accepted_storable : (nine five : Bool) → first_due (handed_in nine five kind s b) ≡ accepted → Storable kind (mesh_of r)
  unfolding handed_in counts_hold
  accepted_storable nine five e =
      let none = none_due (handed_in nine five kind s b) e in
      let fit = within s (cells kind b) in
      let sum = eqb (curve_lengths r.curves) s.curve_vertices in
      let h = and_l (fit && sum) nine (holds (fit && sum && nine) none.0) in
      storable (and_l fit sum h) (eqb→eq (curve_lengths r.curves) s.curve_vertices (and_r fit sum h))
      (and_l (marks_hold r) five (holds (marks_hold r && five) none.1.0))
      (holds (positions_hold r) none.1.1.0)
      (holds (numbers_hold s.vertices r) none.1.1.1.0)
      (holds (every good_curve r.curves) none.1.1.1.1.0)
      (holds (within s LIMITS) none.1.1.1.1.1.0)

  -- What is written from a mesh that is accepted in memory reads back, into enough cells, as that mesh.
  pub accepted_reads_back : (nine five : Bool) (lent : Kind → Sizes) → first_due (handed_in nine five kind s b) ≡ accepted → within s (lent kind) ≡ true
      → figure lent (file_of kind (mesh_of r)) ≡ read (record { kind = kind; mesh = mesh_of r }) []
  accepted_reads_back nine five lent e w =
      reads_back lent kind (mesh_of r) (accepted_storable nine five e)
      (rw (accepted_sizes kind s b nine five e) (within_facts s (lent kind) w))
