-- The state after a pass over a bench: its lists and book are those of the list rules, its sizes, and that what bursts doesn't fit.
-- Assumes nothing.
use mathlib.Core.Path.{◌≡◌, refl, sym, ◌∙◌, ap}
use mathlib.Core.Bool.{Bool, false}
use mathlib.Core.Logic.{⊎_elim}
use mathlib.Core.List.{List, [], ◌∷◌, map}
use Prim.Native.Nat.{ℕ, suc, ◌+◌, ◌≤◌, ◌<◌}
use native.Mathlib.Omega.{arith}
use lib.ListN.{length, get_or, drop, length-append, length-drop, length-map}
use Rattle.geom.specs.Form.{Form}
use Rattle.geom.specs.declared.answer.Sizes.{Sizes}
use Rattle.geom.specs.Answers.{fitted}
use Rattle.geom.specs.Book.{Kind, Book, each}
use Rattle.geom.specs.Elements.{Curve, Lists}
use Rattle.geom.specs.Rules.{curve_from, curve, Went, pass_by}
use Rattle.geom.specs.Vertices.{pair_in}
use Rattle.geom.specs.Smoothing.{with_midpoints_in, settled_from_in, smoothed_in}
use Rattle.geom.specs.Mesh.{curve_vertices_of, sizes_of}
use Rattle.geom.specs.Memory.{BenchIn, first_of, vertex_row_in, curve_row, step_row, rows_of, mesh_of}
use Rattle.geom.specs.Refinement.{StateIn, pass_over, fits, went}
use Rattle.geom.proofs.Stated.{length_rows}
use Rattle.geom.proofs.Books.{Grown}
use Rattle.geom.proofs.Well.{pass_is, pass_grows}
use Rattle.book.specs.Cells.{pairs_of}
use Rattle.std.specs.Prelude.{Err}
use Rattle.lists.specs.Lists.{Slices, slices, passed, Bursts}
use Rattle.pass.specs.Benches.{state_of, lent_of, Held, Lends, Passed}
use Rattle.geom.proofs.Rows.{length_first_of}
use Rattle.pass.proofs.Fitting.{false_unless, fits_facts}

-- ---- numbers of entries

pub length_smoothed : (F : Form) (kind : Kind) (time : Bool) (l : Lists) (vs : List F.Vertex) → length (smoothed_in F kind time l vs) ≡ length vs
unfolding smoothed_in settled_from_in
length_smoothed F kind time l vs = go 0 vs
  where
    go : (n : ℕ) (xs : List F.Vertex) → length (settled_from_in F kind time l vs n xs) ≡ length xs
    go n [] = refl
    go n (x ∷ xs) = ap suc (go (suc n) xs)

pub length_made : (F : Form) (vs : List F.Vertex) (new : Book) → length (with_midpoints_in F vs new) ≡ length vs + length new
unfolding with_midpoints_in
length_made F vs new = length-append vs (map (pair_in F vs) new) ∙ ap (λ (n : ℕ). length vs + n) (length-map new (pair_in F vs))

-- a curve stays one curve
length_curves : (kind : Kind) (base : ℕ) (cs : List Curve) (book : Book) → length (each (curve kind base) book cs).made ≡ length cs
unfolding each curve
length_curves kind base [] book = refl
length_curves kind base (c ∷ cs) book =
    length-append (curve kind base book c).made (each (curve kind base) (curve kind base book c).book cs).made
    ∙ omega (arith, one c.vertices, length_curves kind base cs (curve kind base book c).book)
  where
    one : (vs : List ℕ) → length (curve_from kind base book c vs).made ≡ 1
    one [] = refl
    one (u ∷ ws) = refl

-- ---- the next state

-- the lists' slices of a bench
abbrev pub slices_of : {F : Form} → BenchIn F → Slices
slices_of b = slices b.lines b.areas b.volumes b.curves b.curve_vertices

module _ {F : Form} (kind : Kind) (base : ℕ) (s : Sizes) (a : BenchIn F) (book : List ℕ) (made : ℕ) where
  abbrev pub next : Bool → StateIn F
  next time = pass_over kind time base (state_of kind s a book made)

  abbrev pub w : Went
  w = passed kind base s (slices_of a) book made

  -- the vertices before the pass, and the pairs that it adds
  abbrev pub olds : List F.Vertex
  olds = first_of (vertex_row_in F a.positions a.marks) s.vertices

  abbrev pub news : Book
  news = drop (length (pairs_of book made)) w.book

  pub length_book : length (pairs_of book made) ≡ made
  unfolding pairs_of
  length_book = length_first_of _ made

  pub curves_stay : length w.lists.curves ≡ s.curves
  unfolding pass_by
  curves_stay =
      ap (λ (x : Went). length x.lists.curves) (pass_is kind base _) ∙ length_curves kind base _ _ ∙ length_rows (first_of (curve_row a.curves) s.curves) (first_of (step_row a.curve_vertices) s.curve_vertices) ∙ length_first_of (curve_row a.curves) s.curves

  module _ (h : Held kind base s a book made) where
    -- what the pass adds to the book are pairs of the vertices that stood
    pub added : Grown base s.vertices (pairs_of book made) w.book
    unfolding mesh_of rows_of
    added =
        rw (h.count ∙ ap (λ (n : ℕ). base + n) (sym length_book))
        (pass_grows kind base (went (state_of kind s a book made)) h.good)

    pub longer : made ≤ length w.book
    longer = omega (arith, ap length added.is, length-append (pairs_of book made) added.more, length_book)

    pub next_count : length (with_midpoints_in F olds news) ≡ base + length w.book
    next_count =
        length_made F olds news
        ∙ omega (arith, length_first_of (vertex_row_in F a.positions a.marks) s.vertices, length-drop (length (pairs_of book made)) w.book, length_book, longer, h.count)

    pub next_sizes :
        (time : Bool)
        → sizes_of (next time).mesh
        ≡ record {
          vertices = base + length w.book;
          points = s.points;
          lines = length w.lists.lines;
          areas = length w.lists.areas;
          volumes = length w.lists.volumes;
          curves = s.curves;
          curve_vertices = curve_vertices_of w.lists.curves;
        }
    unfolding sizes_of pass_over mesh_of rows_of
    next_sizes time =
        λ i.
        record {
          vertices = (length_smoothed F kind time w.lists (with_midpoints_in F olds news) ∙ next_count) i;
          points = length_first_of (λ (j : ℕ). get_or a.points j 0) s.points i;
          lines = length w.lists.lines;
          areas = length w.lists.areas;
          volumes = length w.lists.volumes;
          curves = curves_stay i;
          curve_vertices = curve_vertices_of w.lists.curves;
        }

    -- what bursts the bounds doesn't fit what is lent,
    bursts :
        (time : Bool) {room : ℕ} {c : Sizes} {b : BenchIn F} {sums : List F.Cell} {tallies : List ℕ} → Lends kind base room c a b book sums tallies → Bursts room c w
        → fits (lent_of kind a book) (next time) ≡ false
    unfolding pass_over mesh_of rows_of
    bursts time {room} {c} l x =
        false_unless (fits (lent_of kind a book) (next time))
        (λ e.
        let f = fits_facts (lent_of kind a book) (next time) e in
        let cells = rw (next_sizes time) at f.cells in
        let limits = rw (next_sizes time) at f.limits in
        let entries : length w.book ≤ (lent_of kind a book).book = f.book in
        let r = l.rooms in
        let k = l.caps in
        ⊎_elim
        (λ (y : room < length w.book). omega (arith, entries, cells.vertices, limits.vertices, r))
        (⊎_elim
        (λ (y : c.lines < length w.lists.lines). omega (arith, cells.lines, limits.lines, ap (λ (z : Sizes). z.lines) k))
        (⊎_elim
        (λ (y : c.areas < length w.lists.areas). omega (arith, cells.areas, limits.areas, ap (λ (z : Sizes). z.areas) k))
        (⊎_elim
        (λ (y : c.volumes < length w.lists.volumes). omega (arith, cells.volumes, limits.volumes, ap (λ (z : Sizes). z.volumes) k))
        (λ (y : c.curve_vertices < curve_vertices_of w.lists.curves). omega (arith, cells.curve_vertices, limits.curve_vertices, ap (λ (z : Sizes). z.curve_vertices) k)))))
        x)

    -- and is refused by 10
    pub passed_full :
        (time : Bool) {room : ℕ} {c : Sizes} {b other : BenchIn F} {book' : List ℕ} {sums : List F.Cell} {tallies : List ℕ} → Lends kind base room c a b book sums tallies → Bursts room c w
        → Passed kind base (lent_of kind a book) (next time) other book' (Err (record {}))
    passed_full time l x =
        let n = next time in
        record {
          answer = ap (λ (t : Bool). fitted t (record { sizes = sizes_of n.mesh; made = length n.book })) (sym (bursts time l x));
          onward = tt;
        }
