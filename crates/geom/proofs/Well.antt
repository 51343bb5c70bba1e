-- Lists whose elements have their kind's number of corners, all of them vertices; and that every pass keeps this, with a book that rises.
-- Assumes nothing.
use mathlib.Core.Path.{◌≡◌, refl, sym, ◌∙◌, ap, subst}
use mathlib.Core.Bool.{Bool, true, false, cond}
use mathlib.Core.List.{List, [], ◌∷◌, ◌++◌, map}
use Prim.Native.Nat.{ℕ, zero, ◌+◌, ◌<◌, ◌≤◌}
use native.Mathlib.Omega.{arith}
use lib.Dec.{eqb}
use lib.ListN.{length}
use Rattle.geom.specs.declared.parity.Parity.{Parity}
use Rattle.geom.specs.declared.parity.Parity.TheVariants.{Even, Odd}
use Rattle.geom.specs.Parity.{times}
use Rattle.geom.specs.Book.{Kind, cubes, simplices, Pair, pair, Book, Found, found, none, seek, midpoint, Made, each, mids}
use Rattle.geom.specs.Elements.{Element, Curve, Row, Shape, point_at, pick, pairs_of, flat, unless, pieces, assemble}
use Rattle.geom.specs.Rules.{LINE_PIECES, line_ends, line_pieces, line, divide, steps, between, curve_from, curve, Went, pass_by}
use Rattle.geom.specs.Simplices.{triangle, tetrahedron, simplex_pass}
use Rattle.geom.specs.Cubes.{SQUARE_AXES, diagonal, no_square, square, cube, cube_pass}
use Rattle.geom.specs.Passes.{pass}
use Rattle.geom.specs.Ledger.{face_shape, volume_shape}
use Rattle.geom.specs.Between.{area_rule, volume_rule, All, Below, Fits, Proper, IsArea, IsVolume, Low, Good}
use Rattle.geom.proofs.Lists.{all_map, all_append, all_of_map, all_each, all_at}
use Rattle.geom.proofs.Books.{Grown, grown_same, grown_length, grown_trans, grown_entry, grown_each, grown_mids, Known, known, seek_over, Over, mids_over, midpoint_below}
use Rattle.geom.proofs.Cells.{Sized, length_pick, sized_pieces}

-- ── numbers below a count ──

pub below_more : {m n : ℕ} → m ≤ n → (xs : List ℕ) → Below m xs → Below n xs
below_more h xs = all_map (λ x l. omega arith) xs

-- a list with an entry below n
pub some_below : {n k : ℕ} {c : List ℕ} → zero < k → Fits n k c → zero < n
some_below {n} {k} {c} z f = go c f.long f.below
  where
    go : (c : List ℕ) → length c ≡ k → Below n c → zero < n
    go [] l b = absurd (omega arith)
    go (x ∷ c) l b = omega (arith, b.0)

pub pick_below : (n : ℕ) (points row : List ℕ) → zero < n → Below n points → Below n (pick points row)
unfolding pick
pick_below n points row z b = all_of_map (λ (x : ℕ). x < n) (point_at points) row (all_each (all_at n points z b) row)

pairs_low : (m : ℕ) (c : List ℕ) (edges : List Pair) → zero < m → Below m c → All (Low m) (pairs_of c edges)
unfolding pairs_of
pairs_low m c edges z b =
    all_of_map (Low m) (λ (e : Pair). pair (point_at c e.first) (point_at c e.second)) edges
    (all_each (λ e. record { start = all_at m c z b e.first; stop = all_at m c z b e.second }) edges)

-- a fact of an element that is kept, and of the others
pub all_kept :
    (P : Element → Type 0) (b : Bool) (e : Element) (es : List Element) → (b ≡ false → P e) → All P es → All P (unless b e es)
all_kept P true e es h a = a
all_kept P false e es h a = (h refl, a)

-- the pieces of a table over vertices
pub pieces_proper :
    (n k : ℕ) (axes : List (List Pair)) (p : Parity) (points : List ℕ) (rows : List Row) → zero < n → Below n points → Sized k rows
    → All (Proper n k) (pieces axes p points rows)
unfolding pieces
pieces_proper n k axes p points [] z b s = tt
pieces_proper n k axes p points (r ∷ rows) z b s =
    all_kept (Proper n k) (flat axes (pick points r.places))
    (record { corners = pick points r.places; parity = times r.parity p })
    (pieces axes p points rows)
    (λ kept. record { long = length_pick points r.places k s.0; below = pick_below n points r.places z b })
    (pieces_proper n k axes p points rows z b s.1)

-- the midpoints in a book, of pairs of vertices
over_below :
    (kind : Kind) (base m : ℕ) (later : Book) (qs : List Pair) (made : List ℕ) → m ≤ base + length later → All (Low m) qs
    → Over kind base later qs made → Below (base + length later) made
over_below kind base m later qs made h l o = subst (Below (base + length later)) (sym o.are) (go qs l o.knows)
  where
    go :
        (qs : List Pair) → All (Low m) qs → All (Known kind base later) qs → Below (base + length later) (map (midpoint kind base later) qs)
    go [] l k = tt
    go (q ∷ qs) l k = (midpoint_below kind base later q (omega (arith, l.0.start)) k.0, go qs l.1 k.1)

between_below : (n : ℕ) (ms ws : List ℕ) → Below n ms → Below n ws → Below n (between ms ws)
unfolding between
between_below n (v ∷ ms) (w ∷ ws) a b = (a.0, (b.0, between_below n ms ws a.1 b.1))
between_below n [] (w ∷ ws) a b = b
between_below n (v ∷ ms) [] a b = tt
between_below n [] [] a b = tt

-- ── each rule grows the book, and makes elements of vertices ──

-- what a rule makes of each entry of a list
made_each :
    {A B : Type 0} (base m : ℕ) (later : Book) (rule : Book → A → Made B) (P : A → Type 0) (Q : B → Type 0)
    → ((book : Book) (x : A) → P x → Grown base m book (rule book x).book)
    → ((book : Book) (x : A) → P x → Grown base m (rule book x).book later → All Q (rule book x).made) → (xs : List A) → All P xs
    → (book : Book) → Grown base m (each rule book xs).book later → All Q (each rule book xs).made
unfolding each
made_each base m later rule P Q grows makes [] a book g = tt
made_each base m later rule P Q grows makes (x ∷ xs) a book g =
    let next = (rule book x).book in
    all_append Q (rule book x).made (each rule next xs).made
    (makes book x a.0 (grown_trans (grown_each base m rule P grows xs a.1 next) g))
    (made_each base m later rule P Q grows makes xs a.1 next g)

module _ (kind : Kind) (base m : ℕ) where
  line_low : (e : Element) → Proper m 2 e → Low m (line_ends e)
  line_low e f =
      let z = some_below (omega arith) f in
      record { start = all_at m e.corners z f.below 0; stop = all_at m e.corners z f.below 1 }

  line_grows : (book : Book) (e : Element) → Proper m 2 e → Grown base m book (line kind base book e).book
  unfolding line
  line_grows book e f = grown_entry base m book (line_ends e) (seek kind base book (line_ends e)) (line_low e f)

  line_makes :
      (later : Book) → m ≤ base + length later → (book : Book) (e : Element) → Proper m 2 e
      → Grown base m (line kind base book e).book later → All (Proper (base + length later) 2) (line kind base book e).made
  unfolding line
  line_makes later h book e f g = go (seek kind base book (line_ends e))
    where
      n : ℕ
      n = base + length later

      v : ℕ
      v = midpoint kind base book (line_ends e)

      s : seek kind base later (line_ends e) ≡ found v
      s = seek_over kind base book (line_ends e) g

      e' : midpoint kind base later (line_ends e) ≡ v
      e' = known kind base later (line_ends e) v s

      b : v < n
      b =
          subst (λ (x : ℕ). x < n) e'
          (midpoint_below kind base later (line_ends e) (omega (arith, (line_low e f).start)) (s ∙ ap found (sym e')))

      go : (x : Found) → All (Proper n 2) (line_pieces v e x)
      go (found w) = tt
      go none =
          pieces_proper n 2 [] e.parity (e.corners ++ v ∷ []) LINE_PIECES (omega (arith, b))
          (all_append (λ (x : ℕ). x < n) e.corners (v ∷ []) (below_more h e.corners f.below) (b, tt))
          (refl, (refl, tt))

  -- an element divided by a shape
  module _ (shape : Shape) (some : zero < shape.count) where
    divide_low : (e : Element) → Proper m shape.count e → All (Low m) (pairs_of e.corners shape.edges)
    divide_low e f = pairs_low m e.corners shape.edges (some_below some f) f.below

    divide_grows : (book : Book) (e : Element) → Proper m shape.count e → Grown base m book (divide kind shape base book e).book
    unfolding divide
    divide_grows book e f = grown_mids kind base m (pairs_of e.corners shape.edges) (divide_low e f) book

    -- its midpoints are those of every later book
    divide_over :
        (later book : Book) (e : Element) → Proper m shape.count e → Grown base m (divide kind shape base book e).book later
        → Over kind base later (pairs_of e.corners shape.edges) (mids kind base book (pairs_of e.corners shape.edges)).made
    unfolding divide
    divide_over later book e f g = mids_over kind base m (pairs_of e.corners shape.edges) (divide_low e f) book later g

    divide_makes :
        Sized shape.count shape.table → (later : Book) → m ≤ base + length later → (book : Book) (e : Element)
        → Proper m shape.count e → Grown base m (divide kind shape base book e).book later
        → All (Proper (base + length later) shape.count) (divide kind shape base book e).made
    unfolding divide assemble
    divide_makes s later h book e f g =
        let n = base + length later in
        let qs = pairs_of e.corners shape.edges in
        let made = (mids kind base book qs).made in
        let z : zero < m = some_below some f in
        pieces_proper n shape.count shape.axes e.parity (pick (e.corners ++ made) shape.points) shape.table (omega arith)
        (pick_below n (e.corners ++ made) shape.points (omega arith)
        (all_append (λ (x : ℕ). x < n) e.corners made (below_more h e.corners f.below)
        (over_below kind base m later qs made h (divide_low e f) (divide_over later book e f g))))
        s

  steps_low : (u : ℕ) (ws : List ℕ) (ps : List Parity) → u < m → Below m ws → All (Low m) (steps u ws ps)
  unfolding steps
  steps_low u (w ∷ ws) (Even ∷ ps) l b = (record { start = l; stop = b.0 }, steps_low w ws ps b.0 b.1)
  steps_low u (w ∷ ws) (Odd ∷ ps) l b = (record { start = b.0; stop = l }, steps_low w ws ps b.0 b.1)
  steps_low u [] (p ∷ ps) l b = tt
  steps_low u (w ∷ ws) [] l b = tt
  steps_low u [] [] l b = tt

  curve_grows : (book : Book) (c : Curve) → Below m c.vertices → Grown base m book (curve kind base book c).book
  unfolding curve
  curve_grows book c b = go c.vertices b
    where
      go : (vs : List ℕ) → Below m vs → Grown base m book (curve_from kind base book c vs).book
      go [] b = grown_same
      go (u ∷ ws) b = grown_mids kind base m (steps u ws c.parities) (steps_low u ws c.parities b.0 b.1) book

  curve_makes :
      (later : Book) → m ≤ base + length later → (book : Book) (c : Curve) → Below m c.vertices
      → Grown base m (curve kind base book c).book later
      → All (λ (d : Curve). Below (base + length later) d.vertices) (curve kind base book c).made
  unfolding curve
  curve_makes later h book c b g = go c.vertices b g
    where
      n : ℕ
      n = base + length later

      go :
          (vs : List ℕ) → Below m vs → Grown base m (curve_from kind base book c vs).book later
          → All (λ (d : Curve). Below n d.vertices) (curve_from kind base book c vs).made
      go [] b' g' = (below_more h c.vertices b, tt)
      go (u ∷ ws) b' g' =
          let qs = steps u ws c.parities in
          let l = steps_low u ws c.parities b'.0 b'.1 in (
            (
              omega (arith, b'.0),
              between_below n (mids kind base book qs).made ws
                  (over_below kind base m later qs (mids kind base book qs).made h l (mids_over kind base m qs l book later g'))
                  (below_more h ws b'.1),
            ),
            tt,
          )

-- ── the kinds' areas and volumes ──

some_face : (kind : Kind) → zero < (face_shape kind).count
some_face cubes = omega arith
some_face simplices = omega arith

pub some_volume : (kind : Kind) → zero < (volume_shape kind).count
some_volume cubes = omega arith
some_volume simplices = omega arith

sized_squares : (kind : Kind) → Sized (face_shape kind).count (face_shape kind).table
sized_squares cubes = (refl, (refl, (refl, (refl, tt))))
sized_squares simplices = (refl, (refl, (refl, (refl, tt))))

-- the rule of a square, by its two tests: a = d, and flat
abbrev square_by : Bool → Bool → ℕ → Book → Element → Made Element
square_by s t base book e =
    cond s (record { made = []; book = book })
    (cond t (no_square (mids cubes base book (diagonal e.corners ∷ []))) (divide cubes (face_shape cubes) base book e))

area_grows :
    (kind : Kind) (base m : ℕ) (book : Book) (e : Element) → IsArea kind m e
    → Grown base m book (area_rule kind base book e).book
unfolding square triangle
area_grows simplices base m book e f = divide_grows simplices base m (face_shape simplices) (some_face simplices) book e f
area_grows cubes base m book e f = go (eqb (point_at e.corners 0) (point_at e.corners 3)) (flat SQUARE_AXES e.corners)
  where
    low : All (Low m) (diagonal e.corners ∷ [])
    low =
        let z = some_below (some_face cubes) f in
        (record { start = all_at m e.corners z f.below 0; stop = all_at m e.corners z f.below 3 }, tt)

    go :
        (s t : Bool)
        → Grown base m book (square_by s t base book e).book
    go true t = grown_same
    go false true = grown_mids cubes base m (diagonal e.corners ∷ []) low book
    go false false = divide_grows cubes base m (face_shape cubes) (some_face cubes) book e f

area_makes :
    (kind : Kind) (base m : ℕ) (later : Book) → m ≤ base + length later → (book : Book) (e : Element) → IsArea kind m e
    → Grown base m (area_rule kind base book e).book later
    → All (IsArea kind (base + length later)) (area_rule kind base book e).made
unfolding square triangle
area_makes simplices base m later h book e f g =
    divide_makes simplices base m (face_shape simplices) (some_face simplices) (sized_squares simplices) later h book e f g
area_makes cubes base m later h book e f g = go (eqb (point_at e.corners 0) (point_at e.corners 3)) (flat SQUARE_AXES e.corners) g
  where
    go :
        (s t : Bool)
        → Grown base m (square_by s t base book e).book later
        → All (Proper (base + length later) 4) (square_by s t base book e).made
    go true t g = tt
    go false true g = tt
    go false false g = divide_makes cubes base m (face_shape cubes) (some_face cubes) (sized_squares cubes) later h book e f g

-- ── a pass ──

volume_grows : (kind : Kind) (base m : ℕ) (book : Book) (e : Element) → IsVolume kind m e → Grown base m book (volume_rule kind base book e).book
volume_grows kind base m = divide_grows kind base m (volume_shape kind) (some_volume kind)

pub grown_volumes :
    (kind : Kind) (base m : ℕ) (vs : List Element) → All (IsVolume kind m) vs
    → (book : Book) → Grown base m book (each (volume_rule kind base) book vs).book
grown_volumes kind base m = grown_each base m (volume_rule kind base) (IsVolume kind m) (volume_grows kind base m)

-- a volume's midpoints are those of every later book
pub volume_over :
    (kind : Kind) (base m : ℕ) (later book : Book) (v : Element) → IsVolume kind m v → Grown base m (volume_rule kind base book v).book later
    → Over kind base later (pairs_of v.corners (volume_shape kind).edges) (mids kind base book (pairs_of v.corners (volume_shape kind).edges)).made
volume_over kind base m = divide_over kind base m (volume_shape kind) (some_volume kind)

pub pass_is : (kind : Kind) (base : ℕ) (w : Went) → pass kind base w ≡ pass_by kind (area_rule kind) (volume_rule kind) base w
unfolding cube_pass simplex_pass cube tetrahedron
pass_is cubes base w = refl
pass_is simplices base w = refl

-- the book after lines, after areas, after volumes and after curves
module _ (kind : Kind) (base : ℕ) (w : Went) where
  abbrev after_lines : Made Element
  after_lines = each (line kind base) w.book w.lists.lines

  abbrev pub after_areas : Made Element
  after_areas = each (area_rule kind base) after_lines.book w.lists.areas

  abbrev after_volumes : Made Element
  after_volumes = each (volume_rule kind base) after_areas.book w.lists.volumes

  abbrev pub after_curves : Made Curve
  after_curves = each (curve kind base) after_volumes.book w.lists.curves

module _ (kind : Kind) (base : ℕ) (w : Went) (good : Good kind base w) where
  abbrev m : ℕ
  m = base + length w.book

  lines_grow : Grown base m w.book (after_lines kind base w).book
  lines_grow = grown_each base m (line kind base) (Proper m 2) (line_grows kind base m) w.lists.lines good.well.lines w.book

  areas_grow : Grown base m (after_lines kind base w).book (after_areas kind base w).book
  areas_grow =
      grown_each base m (area_rule kind base) (IsArea kind m) (area_grows kind base m) w.lists.areas good.well.areas (after_lines kind base w).book

  volumes_grow : Grown base m (after_areas kind base w).book (after_volumes kind base w).book
  volumes_grow =
      grown_volumes kind base m w.lists.volumes good.well.volumes (after_areas kind base w).book

  pub curves_grow : Grown base m (after_volumes kind base w).book (after_curves kind base w).book
  curves_grow =
      grown_each base m (curve kind base) (λ (c : Curve). Below m c.vertices) (curve_grows kind base m) w.lists.curves good.well.curves (after_volumes kind base w).book

  all_grow : Grown base m w.book (after_curves kind base w).book
  all_grow = grown_trans lines_grow (grown_trans areas_grow (grown_trans volumes_grow curves_grow))

  pub pass_longer : base + length w.book ≤ base + length (after_curves kind base w).book
  pass_longer = omega (arith, grown_length all_grow)

  pass_good' : Good kind base (pass_by kind (area_rule kind) (volume_rule kind) base w)
  unfolding pass_by
  pass_good' =
      let later = (after_curves kind base w).book in
      let n = base + length later in
      record {
        rising = all_grow.rises good.rising (omega arith);
        well =
            record {
              lines =
                  made_each base m later (line kind base) (Proper m 2) (Proper n 2) (line_grows kind base m) (line_makes kind base m later pass_longer)
                  w.lists.lines good.well.lines w.book (grown_trans areas_grow (grown_trans volumes_grow curves_grow));
              areas =
                  made_each base m later (area_rule kind base) (IsArea kind m) (IsArea kind n) (area_grows kind base m) (area_makes kind base m later pass_longer)
                  w.lists.areas good.well.areas (after_lines kind base w).book (grown_trans volumes_grow curves_grow);
              volumes =
                  made_each base m later (volume_rule kind base) (IsVolume kind m) (IsVolume kind n) (volume_grows kind base m) (divide_makes kind base m (volume_shape kind) (some_volume kind) (sized_pieces kind) later pass_longer)
                  w.lists.volumes good.well.volumes (after_areas kind base w).book curves_grow;
              curves =
                  made_each base m later (curve kind base) (λ (c : Curve). Below m c.vertices) (λ (c : Curve). Below n c.vertices) (curve_grows kind base m) (curve_makes kind base m later pass_longer)
                  w.lists.curves good.well.curves (after_volumes kind base w).book grown_same;
            };
      }

  pub pass_good : Good kind base (pass kind base w)
  pass_good = subst (Good kind base) (sym (pass_is kind base w)) pass_good'

  -- what a pass adds to the book are pairs of vertices that stood before it
  pub pass_grows : Grown base m w.book (pass kind base w).book
  unfolding pass_by
  pass_grows = subst (λ (x : Went). Grown base m w.book x.book) (sym (pass_is kind base w)) all_grow
