-- What is picked from the parts of a file is what the file is found to be: the lists, one after the other, each where the one before left the reader.
-- Assumes nothing.
use mathlib.Core.Path.{◌≡◌, refl, ap}
use mathlib.Core.List.{List}
use Prim.Native.Nat.{ℕ, zero, suc, ◌+◌, ◌*◌}
use native.Mathlib.Omega.{arith}
use Rattle.std.specs.Prelude.{Result, Ok, Err}
use Rattle.geom.specs.declared.answer.Sizes.{Sizes}
use Rattle.geom.specs.declared.kind.Kind.{Kind}
use Rattle.geom.specs.declared.kind.Kind.TheVariants.{Cubes, Simplices}
use Rattle.geom.specs.Book as Book
use Rattle.geom.specs.Kinds.{kind_of}
use Rattle.geom.specs.Memory.{area_corners, volume_corners}
use Rattle.geom.specs.File.{vertex, number, element}
use Rattle.judge.specs.declared.counts.Lengths.{Lengths}
use Rattle.judge.specs.Counts.{cells_of}
use Rattle.geom.specs.declared.refusal.Refusal.{Refusal}
use Rattle.geom.specs.Answers.{number_of}
use Rattle.reading.specs.declared.part.Taken.{Taken}
use Rattle.reading.specs.declared.walk.Walked.{Walked}
use Rattle.fields.specs.Fields.{word_at, vertex_at, wide, element_at}
use Rattle.fields.specs.Listed.{Listed}
use Rattle.reading.specs.Parts.{taken_of, Curved}
use Rattle.reading.specs.Walk.{lent_of, Walks}
use Rattle.reading.specs.Picked.{header_of, refusal_of, sizes_in, lists_in, found_in, found_of}
use Rattle.reading.specs.Places.{Finds}
use Rattle.reading.proofs.Lists.{Lies, stops, at1, at2, at3, at4, at5, vertices_stop, points_stop, lines_stop, areas_stop, volumes_stop, curves_stop, sizes, left_over, all_read, all_lain, all_fits}
use Rattle.reading.proofs.Header.{Opens, header_opens, figure_stops, figure_finds}

-- a list that was read: its count, and where the reader goes on
list_read : (t : Taken) (at each n : ℕ) → t ≡ taken_of t.field at 4 each → t.field ≡ Ok n → (t.n ≡ n) × (t.at ≡ at + 4 + each * n)
list_read t at each n p e = let h = rw e at p in (ap (λ (t : Taken). t.n) h, ap (λ (t : Taken). t.at) h)

module _ (kind : Kind) (lent : Sizes) (bytes : List ℕ) (w : Walked) (here : w.kind.at ≡ 2) (f : Walks (record { kind = kind; cells = lent }) bytes w) where
  abbrev K : Book.Kind
  K = kind_of kind

  abbrev Picked : Type 0
  Picked = Lies (lists_in (refusal_of w) kind w) kind lent bytes

  refused : (k : Refusal) → refusal_of w ≡ Err k → stops K lent bytes (number_of k) → Picked
  refused k r s = rw r s

  module _ (n : ℕ) (ev : w.vertices.field ≡ Ok n) where
    v : Listed bytes 2 lent.vertices 25 n (λ (i : ℕ). vertex_at bytes (6 + 25 * i)) vertex
    v = rw (here, ev) at f.vertices.0

    qv : (w.vertices.n ≡ n) × (w.vertices.at ≡ at1 K lent bytes n v)
    qv = list_read w.vertices 2 25 n (rw here at f.vertices.1) ev

    module _ (np : ℕ) (ep : w.points.field ≡ Ok np) where
      p : Listed bytes (at1 K lent bytes n v) lent.points 4 np (λ (i : ℕ). word_at bytes (at1 K lent bytes n v + 4 + 4 * i)) (number n)
      p = rw (qv.1, qv.0, ep) at f.points.0

      qp : (w.points.n ≡ np) × (w.points.at ≡ at2 K lent bytes n v np p)
      qp = list_read w.points (at1 K lent bytes n v) 4 np (rw qv.1 at f.points.1) ep

      module _ (nl : ℕ) (el : w.lines.field ≡ Ok nl) where
        l : Listed bytes (at2 K lent bytes n v np p) lent.lines 9 nl (λ (i : ℕ). element_at 2 bytes (at2 K lent bytes n v np p + 4 + 9 * i)) (element n 2)
        l = rw (qp.1, qv.0, el) at f.lines.0

        ql : (w.lines.n ≡ nl) × (w.lines.at ≡ at3 K lent bytes n v np p nl l)
        ql = list_read w.lines (at2 K lent bytes n v np p) 9 nl (rw qp.1 at f.lines.1) el

        module _ (na : ℕ) (ea : w.areas.field ≡ Ok na) where
          a : Listed bytes (at3 K lent bytes n v np p nl l) lent.areas (wide (area_corners K)) na (λ (i : ℕ). element_at (area_corners K) bytes (at3 K lent bytes n v np p nl l + 4 + wide (area_corners K) * i)) (element n (area_corners K))
          a = rw (ql.1, qv.0, ea) at f.areas.0

          qa : (w.areas.n ≡ na) × (w.areas.at ≡ at4 K lent bytes n v np p nl l na a)
          qa = list_read w.areas (at3 K lent bytes n v np p nl l) (wide (area_corners K)) na (rw ql.1 at f.areas.1) ea

          module _ (ns : ℕ) (es : w.volumes.field ≡ Ok ns) where
            s : Listed bytes (at4 K lent bytes n v np p nl l na a) lent.volumes (wide (volume_corners K)) ns (λ (i : ℕ). element_at (volume_corners K) bytes (at4 K lent bytes n v np p nl l na a + 4 + wide (volume_corners K) * i)) (element n (volume_corners K))
            s = rw (qa.1, qv.0, es) at f.volumes.0

            qs : (w.volumes.n ≡ ns) × (w.volumes.at ≡ at5 K lent bytes n v np p nl l na a ns s)
            qs = list_read w.volumes (at4 K lent bytes n v np p nl l na a) (wide (volume_corners K)) ns (rw qa.1 at f.volumes.1) es

            module _ (nv : ℕ) (ec : w.curves.field ≡ Ok nv) where
              c : Curved bytes (at5 K lent bytes n v np p nl l na a ns s) lent.curves n lent.curve_vertices w.curves.n nv w.curves.at
              c = rw (qs.1, qv.0, ec) at f.curves

              abbrev all : Sizes
              all = sizes K lent bytes n v np p nl l na a ns s w.curves.n c.counts nv c.all

              sizes_are : sizes_in w ≡ all
              unfolding sizes_in
              sizes_are = rw (qv.0, qp.0, ql.0, qa.0, qs.0, ec) refl

              finished : (x : ℕ) → w.left.field ≡ Ok x → refusal_of w ≡ Ok tt
              unfolding refusal_of
              finished x e = rw (ev, ep, el, ea, es, ec, e) refl

              left_stops : (k : Refusal) → w.left.field ≡ Err k → refusal_of w ≡ Err k
              unfolding refusal_of
              left_stops k e = rw (ev, ep, el, ea, es, ec, e) refl

              by_left : (x : Result ℕ Refusal) → w.left.field ≡ x → Picked
              by_left (Ok x) e =
                  let h = rw (e, c.goes) at f.left in
                  rw (finished x e, sizes_are)
                  (refl, all_read K lent bytes n v np p nl l na a ns s w.curves.n c.counts nv c.all h, all_lain K lent bytes n v np p nl l na a ns s w.curves.n c.counts nv c.all h, all_fits K lent bytes n v np p nl l na a ns s w.curves.n c.counts nv c.all)
              by_left (Err k) e =
                  let h = rw (e, c.goes) at f.left in
                  refused k (left_stops k e) (rw h.0 (left_over K lent bytes n v np p nl l na a ns s w.curves.n c.counts nv c.all h.1))

            curves_refused : (k : Refusal) → w.curves.field ≡ Err k → refusal_of w ≡ Err k
            unfolding refusal_of
            curves_refused k e = rw (ev, ep, el, ea, es, e) refl

            by_curves : (x : Result ℕ Refusal) → w.curves.field ≡ x → Picked
            by_curves (Ok nv) e = by_left nv e w.left.field refl
            by_curves (Err k) e = refused k (curves_refused k e) (curves_stop K lent bytes n v np p nl l na a ns s (number_of k) (rw (qs.1, qv.0, e) at f.curves).0)

          volumes_refused : (k : Refusal) → w.volumes.field ≡ Err k → refusal_of w ≡ Err k
          unfolding refusal_of
          volumes_refused k e = rw (ev, ep, el, ea, e) refl

          by_volumes : (x : Result ℕ Refusal) → w.volumes.field ≡ x → Picked
          by_volumes (Ok ns) e = by_curves ns e w.curves.field refl
          by_volumes (Err k) e = refused k (volumes_refused k e) (volumes_stop K lent bytes n v np p nl l na a (number_of k) (rw (qa.1, qv.0, e) at f.volumes.0))

        areas_refused : (k : Refusal) → w.areas.field ≡ Err k → refusal_of w ≡ Err k
        unfolding refusal_of
        areas_refused k e = rw (ev, ep, el, e) refl

        by_areas : (x : Result ℕ Refusal) → w.areas.field ≡ x → Picked
        by_areas (Ok na) e = by_volumes na e w.volumes.field refl
        by_areas (Err k) e = refused k (areas_refused k e) (areas_stop K lent bytes n v np p nl l (number_of k) (rw (ql.1, qv.0, e) at f.areas.0))

      lines_refused : (k : Refusal) → w.lines.field ≡ Err k → refusal_of w ≡ Err k
      unfolding refusal_of
      lines_refused k e = rw (ev, ep, e) refl

      by_lines : (x : Result ℕ Refusal) → w.lines.field ≡ x → Picked
      by_lines (Ok nl) e = by_areas nl e w.areas.field refl
      by_lines (Err k) e = refused k (lines_refused k e) (lines_stop K lent bytes n v np p (number_of k) (rw (qp.1, qv.0, e) at f.lines.0))

    points_refused : (k : Refusal) → w.points.field ≡ Err k → refusal_of w ≡ Err k
    unfolding refusal_of
    points_refused k e = rw (ev, e) refl

    by_points : (x : Result ℕ Refusal) → w.points.field ≡ x → Picked
    by_points (Ok np) e = by_lines np e w.lines.field refl
    by_points (Err k) e = refused k (points_refused k e) (points_stop K lent bytes n v (number_of k) (rw (qv.1, qv.0, e) at f.points.0))

  vertices_refused : (k : Refusal) → w.vertices.field ≡ Err k → refusal_of w ≡ Err k
  unfolding refusal_of
  vertices_refused k e = rw e refl

  by_vertices : (x : Result ℕ Refusal) → w.vertices.field ≡ x → Picked
  by_vertices (Ok n) e = by_points n e w.points.field refl
  by_vertices (Err k) e = refused k (vertices_refused k e) (vertices_stop K lent bytes (number_of k) (rw (here, e) at f.vertices.0))

  lists_lie : Picked
  lists_lie = by_vertices w.vertices.field refl

-- ---- the whole file

module _ (first : Lengths) (bytes : List ℕ) (w : Walked) (f : Walks (lent_of w.kind.field first) bytes w) where
  abbrev lent : Book.Kind → Sizes
  lent kind = cells_of kind first

  opened : Opens (header_of w.version.field w.kind.field) bytes
  opened = header_opens bytes w.version.field w.kind.field w.version f.version.0 f.version.1 f.kind.0

  -- the lists stand behind version and kind
  behind : (a b : ℕ) → w.version.field ≡ Ok a → w.kind.field ≡ Ok b → w.kind.at ≡ 2
  behind a b x y =
      let e = ap (λ (t : Taken). t.at) (rw x at f.version.1) in
      omega (arith, ap (λ (t : Taken). t.at) (rw (y, e) at f.kind.1))

  finds : (x y : Result ℕ Refusal) → w.version.field ≡ x → w.kind.field ≡ y → Opens (header_of x y) bytes → Walks (lent_of y first) bytes w → Finds (found_in (header_of x y) w) lent bytes
  finds (Ok zero) y e g o h = figure_stops lent bytes 1 o
  finds (Ok (suc zero)) (Ok zero) e g o h =
      figure_finds lent bytes Cubes (cells_of Book.cubes first) o refl (lists_in (refusal_of w) Cubes w) (lists_lie Cubes (cells_of Book.cubes first) bytes w (behind _ _ e g) h)
  finds (Ok (suc zero)) (Ok (suc zero)) e g o h =
      figure_finds lent bytes Simplices (cells_of Book.simplices first) o refl (lists_in (refusal_of w) Simplices w) (lists_lie Simplices (cells_of Book.simplices first) bytes w (behind _ _ e g) h)
  finds (Ok (suc zero)) (Ok (suc (suc n))) e g o h = figure_stops lent bytes 2 o
  finds (Ok (suc zero)) (Err n) e g o h = figure_stops lent bytes (number_of n) o
  finds (Ok (suc (suc n))) y e g o h = figure_stops lent bytes 1 o
  finds (Err n) y e g o h = figure_stops lent bytes (number_of n) o

  pub picks : Finds (found_of w) lent bytes
  picks = finds w.version.field w.kind.field refl refl opened f
