-- One element divided in memory is the definition's element divided by its shape.
-- Assumes nothing.
use mathlib.Core.Path.{◌≡◌, refl, sym, ◌∙◌, ap, subst}
use mathlib.Core.Logic.{inl, inr}
use mathlib.Core.List.{List, [], ◌∷◌, ◌++◌}
use Prim.Native.Nat.{ℕ, suc, ◌+◌, ◌*◌, ◌/◌, ◌<◌, ◌≤◌}
use native.Mathlib.Omega.{arith}
use native.Mathlib.Nat.{zero-add, mul-suc}
use native.Mathlib.Numerals.{add-one}
use lib.ListN.{length, get_or, take, drop, length-drop, length-map}
use lib.Seq.{length-take-le, take-length}
use Rattle.geom.specs.declared.parity.Parity.{Parity}
use Rattle.geom.specs.Book.{Kind, Book, Made, mids}
use Rattle.geom.specs.Elements.{Element, point_at, pick, pieces, assemble, pairs_of as edge_pairs}
use Rattle.geom.specs.Rules.{divide}
use Rattle.geom.specs.Memory.{first_of, element_row, element_of, parity_of}
use Rattle.division.specs.Writing.{written, Laid, Extends, Exceeds}
use Rattle.division.specs.Shapes.{axes_of, table_of, order_of, shape_of, edges_of}
use Rattle.division.specs.Middles.{middles_of, Middled}
use Rattle.geom.proofs.Rows.{map_first_of}
use Rattle.division.proofs.Rows.{first_of_part, take_written}
use Rattle.division.proofs.Folds.{mids_grows}
use Rattle.division.proofs.Middles.{middles_all, length_middles}

-- the corners of a row stand at the front of the points
pub loaded :
    (k row : ℕ) (old start points : List ℕ) → suc k * suc row ≤ length old → points ≡ written start 0 (take k (drop ((k + 1) * row) old))
    → take k points ≡ take k (drop (suc k * row) old)
loaded k row old start points l is =
    let from = suc k * row in
    let long = length-take-le k (drop from old) (omega (arith, length-drop from old, mul-suc (suc k) row)) in
    ap (take k) (is ∙ ap (λ (w : ℕ). written start 0 (take k (drop (w * row) old))) (add-one k))
    ∙ take_written start 0 (take k (drop from old)) k (omega arith) (omega arith)

-- ── the order of the points ──

-- points as they were made
pub arranged_none : (n : ℕ) (order points : List ℕ) → length order ≡ 0 → n ≤ length points → take n points ≡ pick (take n points) (order_of n order)
unfolding order_of pick
arranged_none n [] points e l =
    let front = take n points in
    let long = length-take-le n points l in
    sym
    (map_first_of (point_at front) (λ (i : ℕ). i) n
    ∙ ap (λ (f : ℕ → ℕ). first_of f n) (λ i j. get_or front (sym (zero-add j) i) 0)
    ∙ first_of_part 0 front 0 n (omega arith)
    ∙ ap (λ (m : ℕ). take m front) (sym long)
    ∙ take-length front)
arranged_none n (x ∷ order) points e l = absurd (omega arith)

order_some : (n : ℕ) (order : List ℕ) → (length order ≡ 0 → ⊥) → order_of n order ≡ order
unfolding order_of
order_some n [] e = absurd (e refl)
order_some n (x ∷ order) e = refl

pub order_length : (n : ℕ) (order : List ℕ) → (length order ≡ 0 → ⊥) → length (order_of n order) ≡ n → length order ≡ n
order_length n order some all = ap length (sym (order_some n order some)) ∙ all

-- points that are put in order in another list and copied back
pub arranged :
    (n : ℕ) (order points start : List ℕ) {part ordered after : List ℕ} → (length order ≡ 0 → ⊥) → length (order_of n order) ≡ n
    → part ≡ take n points → ordered ≡ written start 0 (pick part (take n (drop 0 order))) → after ≡ written points 0 (take n (drop 0 ordered))
    → take n after ≡ pick (take n points) (order_of n order)
unfolding pick
arranged n order points start {part} {ordered} {after} some all whole picked copied =
    let o = order_some n order some in
    let long = order_length n order some all in
    let words = ap (λ (m : ℕ). take m order) (sym long) ∙ take-length order in
    let wide = length-map order (point_at part) in
    let front : take n ordered ≡ pick part order =
    ap (take n) (picked ∙ ap (λ (xs : List ℕ). written start 0 (pick part xs)) words)
    ∙ take_written start 0 (pick part order) n (omega arith) (omega arith)
    in
    ap (take n) copied
    ∙ take_written points 0 (take n ordered) n (omega arith) (omega (arith, ap length front))
    ∙ front
    ∙ ap (λ (xs : List ℕ). pick xs order) whole
    ∙ ap (pick (take n points)) (sym o)

-- ── one element ──

-- the element of a row, divided
abbrev pub divided : Kind → ℕ → ℕ → List ℕ → List ℕ → List ℕ → List ℕ → List ℕ → ℕ → Book → Made Element
divided kind k base edges order table axes old row book =
    divide kind (shape_of k edges order table axes) base book (element_of (element_row k old row))

length_middles_of :
    (kind : Kind) (k base : ℕ) (points edges : List ℕ) (book : Book)
    → length (middles_of kind k base edges points book).made ≡ length edges / 2
length_middles_of kind k base points edges book =
    ap (λ (m : Made ℕ). length m.made) (middles_all kind k base points edges book)
    ∙ length_middles kind k base points edges book (length edges / 2)

module _ (kind : Kind) (k base row : ℕ) (old edges order table axes : List ℕ) (book : Book) (points : List ℕ) (loaded : take k points ≡ take k (drop (suc k * row) old)) where
  -- the parity of the element
  abbrev parity : Parity
  parity = parity_of (get_or old (suc k * row + k) 0)

  -- its midpoints
  abbrev middles : Made ℕ
  middles = middles_of kind k base edges points book

  -- its points, as the table speaks of them
  abbrev spoken : List ℕ
  spoken = pick (take k points ++ middles.made) (order_of (k + length edges / 2) order)

  divided_is :
      divided kind k base edges order table axes old row book ≡ record { made = pieces (axes_of k axes) parity spoken (table_of k table); book = middles.book }
  unfolding divide shape_of element_of element_row assemble middles_of
  divided_is =
      ap
      (λ (xs : List ℕ).
      let m = mids kind base book (edge_pairs xs (edges_of edges)) in
      record { made = pieces (axes_of k axes) parity (pick (xs ++ m.made) (order_of (k + length edges / 2) order)) (table_of k table); book = m.book })
      (sym loaded)

  -- no room for a midpoint
  pub divided_crowded :
      (room cells rows : ℕ) → room < length middles.book → Exceeds room cells rows (divided kind k base edges order table axes old row book)
  divided_crowded room cells rows l = inl (omega (arith, ap (λ (m : Made Element). length m.book) divided_is))

  -- the points in the table's order, as they stand in memory
  pub ordered_is :
      {room e : ℕ} {points₂ book₂ front : List ℕ} → Middled k base room points middles points₂ book₂ e → k ≤ length points
      → front ≡ pick (take (k + length edges / 2) points₂) (order_of (k + length edges / 2) order) → front ≡ spoken
  ordered_is m long first =
      first
      ∙ ap (λ (xs : List ℕ). pick xs (order_of (k + length edges / 2) order))
      (ap (take (k + length edges / 2)) m.list
      ∙ take_written points k middles.made (k + length edges / 2) long (omega (arith, length_middles_of kind k base points edges book)))

  module _ {front : List ℕ} (are : front ≡ spoken) where
    pieces_are : {p : Parity} → p ≡ parity → pieces (axes_of k axes) p front (table_of k table) ≡ (divided kind k base edges order table axes old row book).made
    pieces_are same =
        ap (λ (q : Parity). pieces (axes_of k axes) q front (table_of k table)) same
        ∙ ap (λ (xs : List ℕ). pieces (axes_of k axes) parity xs (table_of k table)) are
        ∙ ap (λ (x : Made Element). x.made) (sym divided_is)

    -- no cell for a piece
    pub divided_full :
        {p : Parity} (room cells rows : ℕ) → p ≡ parity → cells < rows + length (pieces (axes_of k axes) p front (table_of k table))
        → Exceeds room cells rows (divided kind k base edges order table axes old row book)
    divided_full room cells rows same l = inr (omega (arith, ap length (pieces_are same)))

    pub divided_extends :
        {p : Parity} {room cells rows r e : ℕ} {points₂ book₂ new after : List ℕ} → Middled k base room points middles points₂ book₂ e → p ≡ parity
        → Laid k cells rows (pieces (axes_of k axes) p front (table_of k table)) new after r
        → Extends k base room cells rows (divided kind k base edges order table axes old row book) new after book₂ r e
    divided_extends {cells = cells} {rows = rows} {r = r} {new = new} {after = after} m same x =
        let y = subst (λ (es : List Element). Laid k cells rows es new after r) (pieces_are same) x in
        record {
          ready = m.ready;
          entries = m.entries ∙ ap (λ (x : Made Element). x.book) (sym divided_is);
          counted = y.counted;
          within = y.within;
          ends = y.ends;
          list = y.list;
        }

-- dividing only adds to the book
pub divide_grows :
    (kind : Kind) (k base : ℕ) (edges order table axes : List ℕ) (b : Book) (x : Element)
    → length b ≤ length (divide kind (shape_of k edges order table axes) base b x).book
unfolding divide
divide_grows kind k base edges order table axes b x = mids_grows kind base b (edge_pairs x.corners (shape_of k edges order table axes).edges)
