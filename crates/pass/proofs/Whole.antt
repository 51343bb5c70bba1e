-- A whole pass: what its calls wrote on the other bench stands for the next state, and what held before the pass holds after it.
-- Assumes nothing.
use mathlib.Core.Path.{◌≡◌, refl, sym, ◌∙◌, ap, ap₂, subst}
use mathlib.Core.Bool.{Bool, true}
use mathlib.Core.List.{List, [], ◌∷◌, ◌++◌, map, append-nil, append_assoc}
use Prim.Native.Nat.{ℕ, zero, suc, ◌+◌, ◌-◌, ◌*◌, ◌/◌, min}
use native.Mathlib.Nat.{add-zero}
use native.Mathlib.Omega.{arith}
use lib.ListN.{length, get_or, drop}
use lib.Seq.{drop_at}
use Rattle.geom.specs.Form.{Form}
use Rattle.geom.specs.declared.answer.Sizes.{Sizes}
use Rattle.geom.specs.Answers.{whole, fitted}
use Rattle.geom.specs.Book.{Kind, Book}
use Rattle.geom.specs.Elements.{Curve, Lists}
use Rattle.geom.specs.Smoothing.{with_midpoints_in, smoothed_in}
use Rattle.geom.specs.Mesh.{sizes_of}
use Rattle.geom.specs.Memory.{BenchIn, RowsIn, area_corners, volume_corners, cells, first_of, element_row, curve_row, step_row, element_of, curves_of, rows_of, mesh_of, bench_of, over, AsLong}
use Rattle.geom.specs.Refusals.{every, good_flags, counts_hold, marks_hold, StandsFor, StepsWritten}
use Rattle.geom.specs.Refinement.{LIMITS, pass_over, fits, within, went}
use Rattle.geom.specs.Between.{All, Good}
use Rattle.geom.proofs.Lists.{and_true_left, and_true_right}
use Rattle.geom.proofs.Rows.{length_first_of, first_of_same}
use Rattle.geom.proofs.Back.{elements_own, curves_own}
use Rattle.geom.proofs.Standing.{over_begins, begins_take, Laid, FlaggedIn, Formed, elements_read, curves_read, steps_read, stands}
use Rattle.geom.proofs.Forming.{rows_stepped, formed}
use Rattle.book.specs.Cells.{pairs_of, pair_at}
use Rattle.geom.proofs.Within.{Within, within_facts, within_holds}
use Rattle.vertices.specs.Cells as Vertices
use Rattle.std.specs.Prelude.{Ok}
use Rattle.lists.specs.Lists.{Slices, lists_of, points_of, Made}
use Rattle.pass.specs.Benches.{state_of, lent_of, Held, Lends, Onward, Passed}
use Rattle.pass.proofs.Fitting.{fits_holds}
use Rattle.pass.proofs.Next.{slices_of, next, w, olds, news, curves_stay, length_book, next_sizes}
use Rattle.pass.proofs.Ready.{held_within, bounded, entries_are, entries_grow, next_good}

-- ---- flags that were judged

every_flagged : (F : Form) (vs : List F.Vertex) → every (λ (v : F.Vertex). good_flags (F.flags v)) vs ≡ true → All (FlaggedIn F) vs
unfolding every
every_flagged F [] e = tt
every_flagged F (v ∷ vs) e =
    let x = good_flags (F.flags v) in
    let y = every (λ (v : F.Vertex). good_flags (F.flags v)) vs in
    (and_true_left x y e, every_flagged F vs (and_true_right x y e))

marks_flags : {F : Form} (r : RowsIn F) → marks_hold r ≡ true → every (λ (v : F.Vertex). good_flags (F.flags v)) r.vertices ≡ true
unfolding marks_hold
marks_flags r e = and_true_left _ _ (and_true_left _ _ (and_true_left _ _ (and_true_left _ _ e)))

-- ---- the pairs that a pass adds

first_of_more : {A : Type 0} (f : ℕ → A) (m n : ℕ) → first_of f (m + n) ≡ first_of f m ++ first_of (λ (i : ℕ). f (m + i)) n
unfolding first_of
first_of_more f m zero = ap (first_of f) (add-zero m) ∙ sym (append-nil (first_of f m))
first_of_more {A} f m (suc n) =
    let e : m + suc n ≡ suc (m + n) = omega arith in
    ap (first_of f) e
    ∙ ap (λ (r : List A). r ++ f (m + n) ∷ []) (first_of_more f m n)
    ∙ append_assoc (first_of f m) (first_of (λ (i : ℕ). f (m + i)) n) (f (m + n) ∷ [])

module _ {F : Form} {kind : Kind} {base room : ℕ} {s c : Sizes} {a b : BenchIn F} {book : List ℕ} {made : ℕ} {sums : List F.Cell} {tallies : List ℕ} (h : Held kind base s a book made) (l : Lends kind base room c a b book sums tallies) {after : Slices} {book₂ : List ℕ} {t : Sizes} {e : ℕ} (m : Made base room s c (w kind base s a book made) (slices_of b) after book₂ t e) where
  pairs_are : Vertices.pairs_from book₂ made (e - made) ≡ news kind base s a book made
  unfolding Vertices.pairs_from Vertices.pair_row pairs_of
  pairs_are =
      let g = entries_grow h l m in
      let n : e ≡ made + (e - made) = omega (arith, g) in
      sym (
      ap (drop (length (pairs_of book made))) (sym m.entries ∙ ap (first_of (pair_at book₂)) n ∙ first_of_more (pair_at book₂) made (e - made))
      ∙ drop_at (first_of (pair_at book₂) made) (first_of (λ (i : ℕ). pair_at book₂ (made + i)) (e - made)) (length (pairs_of book made))
      (length_first_of (pair_at book₂) made ∙ sym (length_book kind base s a book made))
      ∙ first_of_same _ _ (e - made) (λ i k. λ j. record { first = get_or book₂ (add-zero (4 * (made + i)) j) 0; second = get_or book₂ (4 * (made + i) + 1) 0 })
      )

  -- ---- the next mesh, as it can be written and read back

  flagged : All (FlaggedIn F) (olds kind base s a book made)
  unfolding marks_hold rows_of
  flagged = every_flagged F (olds kind base s a book made) (marks_flags (rows_of kind s a) h.marks)

  module _ (time : Bool) where
    next_formed : Formed kind (next kind base s a book made time).mesh
    unfolding mesh_of rows_of
    next_formed = formed kind time base (state_of kind s a book made) h.good flagged (rows_stepped _ _)

  lists_are : lists_of kind t after ≡ (w kind base s a book made).lists
  unfolding pass_over mesh_of rows_of
  lists_are =
      let f = next_formed true in
      let k = m.counts in
      let o = m.wrote in
      let n = (w kind base s a book made).lists in
      λ i.
      record {
        lines = (ap (λ (j : ℕ). map element_of (first_of (element_row 2 after.lines) j)) k.lines ∙ ap (map element_of) (elements_read 2 n.lines (over_begins _ _ o.lines) f.lines) ∙ elements_own n.lines) i;
        areas = (ap (λ (j : ℕ). map element_of (first_of (element_row (area_corners kind) after.areas) j)) k.areas ∙ ap (map element_of) (elements_read (area_corners kind) n.areas (over_begins _ _ o.areas) f.areas) ∙ elements_own n.areas) i;
        volumes = (ap (λ (j : ℕ). map element_of (first_of (element_row (volume_corners kind) after.volumes) j)) k.volumes ∙ ap (map element_of) (elements_read (volume_corners kind) n.volumes (over_begins _ _ o.volumes) f.volumes) ∙ elements_own n.volumes) i;
        curves =
            (ap₂ (λ (x y : ℕ). curves_of (first_of (curve_row after.curves) x) (first_of (step_row after.steps) y)) (k.curves ∙ sym (curves_stay kind base s a book made)) k.steps
            ∙ ap₂ curves_of (curves_read n.curves (over_begins _ _ o.curves)) (steps_read n.curves (over_begins _ _ o.steps))
            ∙ curves_own n.curves f.curves) i;
      }

  -- ---- sizes

  within_cells : Within t (cells kind a)
  within_cells =
      let f = held_within h in
      let g = bounded h l in
      let k = m.counts in
      let q = l.caps in
      let r = m.ready.within in
      record {
        vertices = omega (arith, g.0, k.vertices, r);
        points = omega (arith, f.points, k.points);
        lines = omega (arith, k.line, ap (λ (z : Sizes). z.lines) q);
        areas = omega (arith, k.area, ap (λ (z : Sizes). z.areas) q);
        volumes = omega (arith, k.volume, ap (λ (z : Sizes). z.volumes) q);
        curves = omega (arith, f.curves, k.curves);
        curve_vertices = omega (arith, k.step, ap (λ (z : Sizes). z.curve_vertices) q);
      }

  within_limits : Within t LIMITS
  within_limits =
      let f = within_facts _ _ h.limits in
      let g = bounded h l in
      let k = m.counts in
      let q = l.caps in
      let r = m.ready.within in
      record {
        vertices = omega (arith, g.1, k.vertices, r);
        points = omega (arith, f.points, k.points);
        lines = omega (arith, k.line, ap (λ (z : Sizes). z.lines) q);
        areas = omega (arith, k.area, ap (λ (z : Sizes). z.areas) q);
        volumes = omega (arith, k.volume, ap (λ (z : Sizes). z.volumes) q);
        curves = omega (arith, f.curves, k.curves);
        curve_vertices = omega (arith, k.step, ap (λ (z : Sizes). z.curve_vertices) q);
      }

  module _ (time : Bool) where
    sizes_are : t ≡ sizes_of (next kind base s a book made time).mesh
    sizes_are =
        let k = m.counts in
        (λ i.
        record {
          vertices = (k.vertices ∙ ap (λ (n : ℕ). base + n) (sym (entries_are h l m))) i;
          points = k.points i;
          lines = k.lines i;
          areas = k.areas i;
          volumes = k.volumes i;
          curves = k.curves i;
          curve_vertices = k.steps i;
        })
        ∙ sym (next_sizes kind base s a book made h time)

    fit : fits (lent_of kind a book) (next kind base s a book made time) ≡ true
    unfolding pass_over mesh_of rows_of
    fit =
        let n = entries_are h l m in
        let g = bounded h l in
        let r = m.ready.within in
        fits_holds (lent_of kind a book) (next kind base s a book made time)
        (record {
          cells = subst (λ (z : Sizes). Within z (cells kind a)) sizes_are within_cells;
          limits = subst (λ (z : Sizes). Within z LIMITS) sizes_are within_limits;
          book = omega (arith, n, r, g.3);
          limit = omega (arith, n, r, g.1);
        })

    -- what the vertex rules wrote
    abbrev Wrote : List F.Coordinate → List ℕ → Type 0
    Wrote positions marks =
        (curves : List Curve)
        → Vertices.OverIn F b.positions b.marks
        (smoothed_in F kind time (Vertices.lists_of after.lines t.lines (area_corners kind) after.areas t.areas (volume_corners kind) after.volumes t.volumes curves)
        (with_midpoints_in F (olds kind base s a book made) (Vertices.pairs_from book₂ made (e - made))))
        positions
        marks

    -- the bench that is written
    module _ {positions : List F.Coordinate} {marks points : List ℕ} (v : Wrote positions marks) (p : points ≡ over b.points (points_of a.points s.points)) where
      abbrev other : BenchIn F
      other =
          record {
            positions = positions;
            marks = marks;
            points = points;
            lines = after.lines;
            areas = after.areas;
            volumes = after.volumes;
            curves = after.curves;
            curve_vertices = after.steps;
          }

      laid : Vertices.OverIn F b.positions b.marks (smoothed_in F kind time (w kind base s a book made).lists (with_midpoints_in F (olds kind base s a book made) (news kind base s a book made))) positions marks
      laid =
          subst (λ (x : Book). Vertices.OverIn F b.positions b.marks (smoothed_in F kind time (w kind base s a book made).lists (with_midpoints_in F (olds kind base s a book made) x)) positions marks) pairs_are
          (subst (λ (x : Lists). Vertices.OverIn F b.positions b.marks (smoothed_in F kind time x (with_midpoints_in F (olds kind base s a book made) (Vertices.pairs_from book₂ made (e - made)))) positions marks) lists_are
          (v (curves_of (first_of (curve_row after.curves) t.curves) (first_of (step_row after.steps) t.curve_vertices))))

      next_laid : Laid (next kind base s a book made time).mesh other
      unfolding pass_over mesh_of rows_of bench_of
      next_laid =
          let o = m.wrote in
          record {
            positions = over_begins _ _ laid.points;
            marks = over_begins _ _ laid.words;
            points = over_begins _ _ p;
            lines = over_begins _ _ o.lines;
            areas = over_begins _ _ o.areas;
            volumes = over_begins _ _ o.volumes;
            curves = over_begins _ _ o.curves;
            curve_vertices = over_begins _ _ o.steps;
          }

      standing : cells kind other ≡ cells kind b → StandsFor kind other (next kind base s a book made time).mesh
      standing q =
          stands kind (next kind base s a book made time).mesh other next_laid (next_formed time)
          (ap₂ within (sym sizes_are) (q ∙ sym l.twin) ∙ within_holds t (cells kind a) within_cells)

      went_next : went (next kind base s a book made time) ≡ w kind base s a book made
      unfolding pass_over mesh_of rows_of
      went_next = refl

      onward : cells kind other ≡ cells kind b → Onward kind base (next kind base s a book made time) other book₂ t e
      unfolding StandsFor StepsWritten pass_over mesh_of rows_of bench_of
      onward q =
          let st = standing q in
          let z = sizes_are in
          let state : state_of kind t other book₂ e ≡ next kind base s a book made time =
          λ i. record { mesh = (ap (λ (x : Sizes). mesh_of (rows_of kind x other)) z ∙ st.2) i; book = m.entries i }
          in
          record {
            held =
                record {
                  counts = ap (λ (x : Sizes). counts_hold kind x other) z ∙ st.0;
                  marks = ap (λ (x : Sizes). marks_hold (rows_of kind x other)) z ∙ st.1;
                  limits = within_holds t LIMITS within_limits;
                  count = m.counts.vertices;
                  linked = m.ready.linked;
                  good = subst (Good kind base) (sym (ap went state ∙ went_next)) (next_good h l m);
                };
            state = state;
            steps = begins_take next_laid.curve_vertices;
          }

      pub passed_whole : cells kind other ≡ cells kind b → Passed kind base (lent_of kind a book) (next kind base s a book made time) other book₂ (Ok (record { sizes = t; made = e }))
      unfolding pass_over mesh_of rows_of
      passed_whole q =
          let n = next kind base s a book made time in
          let entries : e ≡ length n.book = sym (entries_are h l m) in
          record {
            answer =
                (λ i. whole (record { sizes = sizes_are i; made = entries i }))
                ∙ ap (λ (t : Bool). fitted t (record { sizes = sizes_of n.mesh; made = length n.book })) (sym fit);
            onward = onward q;
          }

-- slices that keep their lengths keep their cells
pub cells_same : {F : Form} (kind : Kind) {x y : BenchIn F} → AsLong x y → cells kind x ≡ cells kind y
unfolding cells
cells_same kind s =
    λ i.
    record {
      vertices = min (s.positions i / 4) (s.marks i / 3);
      points = s.points i;
      lines = s.lines i / 3;
      areas = s.areas i / suc (area_corners kind);
      volumes = s.volumes i / suc (volume_corners kind);
      curves = s.curves i / 2;
      curve_vertices = s.curve_vertices i / 2;
    }
