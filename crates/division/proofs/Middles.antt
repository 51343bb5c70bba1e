-- The midpoints of an element's edges, one after the other, behind its corners.
-- Assumes nothing.
use mathlib.Core.Path.{◌≡◌, refl, sym, ◌∙◌, ap, subst}
use mathlib.Core.Bool.{true}
use mathlib.Core.List.{List, [], ◌∷◌, ◌++◌}
use Prim.Native.Nat.{ℕ, ◌+◌, ◌*◌, ◌/◌, ◌<◌, ◌≤◌}
use native.Mathlib.Omega.{arith}
use lib.ListN.{length, get_or, take, set}
use lib.Seq.{get_or-take}
use Rattle.geom.specs.Book.{Kind, Pair, pair, Book, Made, seek, book_or, midpoint, each, place, mids}
use Rattle.geom.specs.Elements.{point_at, pairs_of as edge_pairs}
use Rattle.geom.specs.Memory.{first_of}
use Rattle.book.specs.Cells.{pairs_of}
use Rattle.book.specs.Answers.{Ready, Placed}
use Rattle.division.specs.Writing.{written}
use Rattle.division.specs.Shapes.{below, edge_at, edges_of}
use Rattle.division.specs.Middles.{middles_of, Middled}
use Rattle.geom.proofs.Rows.{map_first_of}
use Rattle.division.proofs.Rows.{written_none, written_set, written_before, length_written}
use Rattle.division.proofs.Tables.{below_at}
use Rattle.division.proofs.Folds.{up_to, up_to_on, book_grows, place_grows, length_placed}

-- the pair of edge i between the first points
abbrev pub ask : ℕ → List ℕ → List ℕ → ℕ → Pair
ask k points edges i =
    pair (point_at (take k points) (get_or edges (2 * i) 0)) (point_at (take k points) (get_or edges (2 * i + 1) 0))

-- the midpoints of the first i edges
abbrev pub middles_to : Kind → ℕ → ℕ → List ℕ → List ℕ → Book → ℕ → Made ℕ
middles_to kind k base points edges book i = up_to (place kind base) book (ask k points edges) i

pub middles_all :
    (kind : Kind) (k base : ℕ) (points edges : List ℕ) (book : Book)
    → middles_of kind k base edges points book ≡ middles_to kind k base points edges book (length edges / 2)
unfolding middles_of mids edge_pairs edges_of edge_at
middles_all kind k base points edges book =
    ap (each (place kind base) book)
    (map_first_of (λ (e : Pair). pair (point_at (take k points) e.first) (point_at (take k points) e.second)) (edge_at edges) (length edges / 2))

-- one midpoint an edge
pub length_middles : (kind : Kind) (k base : ℕ) (points edges : List ℕ) (book : Book) (i : ℕ) → length (middles_to kind k base points edges book i).made ≡ i
length_middles kind k base points edges book = length_placed kind base book (ask k points edges)

-- The midpoints of i of the edges have been made.
pub record Middling (kind : Kind) (k base room : ℕ) (start edges : List ℕ) (before : Book) (i entries : ℕ) (points book : List ℕ) : Type 0 where
  pub within : i ≤ length edges / 2
  pub ends : below k edges ≡ true
  pub fits : k + length edges / 2 ≤ length start
  pub ready : Ready base room entries book
  pub holds : pairs_of book entries ≡ (middles_to kind k base start edges before i).book
  pub list : points ≡ written start k (middles_to kind k base start edges before i).made

pub middling_start :
    {kind : Kind} {k base room made : ℕ} {start edges book : List ℕ} → below k edges ≡ true → k + length edges / 2 ≤ length start → Ready base room made book
    → Middling kind k base room start edges (pairs_of book made) 0 made start book
unfolding first_of each
middling_start {k = k} {start = start} e l r =
    record { within = omega arith; ends = e; fits = l; ready = r; holds = refl; list = sym (written_none start k (omega arith)) }

module _ {kind : Kind} {k base room : ℕ} {start edges : List ℕ} {before : Book} {i entries : ℕ} {points book : List ℕ} (m : Middling kind k base room start edges before i entries points book) where
  pub middling_length : length points ≡ length start
  middling_length =
      ap length m.list
      ∙ length_written start k (middles_to kind k base start edges before i).made
      (omega (arith, length_middles kind k base start edges before i, m.within, m.fits))

  -- the end of an edge is one of the corners
  middling_end : (j : ℕ) → j < length edges → get_or edges j 0 < k
  middling_end j l = below_at k edges m.ends j l

  -- what a turn knows: the ends of its edge and the place of its midpoint are among the points
  pub record MiddleTurn : Type 0 where
    pub turn : i < length edges / 2
    pub first : get_or edges (2 * i) 0 < length points
    pub second : get_or edges (2 * i + 1) 0 < length points
    pub next : k + i < length points

  pub middling_turn : i < length edges / 2 → MiddleTurn
  middling_turn l =
      let long = middling_length in
      record {
        turn = l;
        first = omega (arith, m.fits, middling_end (2 * i) (omega arith));
        second = omega (arith, m.fits, middling_end (2 * i + 1) (omega arith));
        next = omega (arith, m.fits);
      }

  middling_reads : (j : ℕ) → j < length edges → get_or points (get_or edges j 0) 0 ≡ point_at (take k start) (get_or edges j 0)
  middling_reads j l =
      let e = get_or edges j 0 in
      let b = middling_end j l in
      ap (λ (p : List ℕ). get_or p e 0) m.list
      ∙ written_before start k (middles_to kind k base start edges before i).made e 0 b (omega (arith, m.fits))
      ∙ sym (get_or-take k start e 0 b)

  -- the pair that the code asks for
  pub middling_asks :
      {a b : ℕ} → i < length edges / 2 → a ≡ point_at points (get_or edges (2 * i) 0) → b ≡ point_at points (get_or edges (2 * i + 1) 0)
      → pair a b ≡ ask k start edges i
  middling_asks l p q =
      let a = p ∙ middling_reads (2 * i) (omega arith) in
      let b = q ∙ middling_reads (2 * i + 1) (omega arith) in
      λ j. record { first = a j; second = b j }

  -- the rule of the next pair
  step_is : {q : Pair} → q ≡ ask k start edges i → place kind base (pairs_of book entries) q ≡ place kind base (middles_to kind k base start edges before i).book (ask k start edges i)
  step_is a = let b = m.holds in cc

  pub middling_on :
      {after : List ℕ} {v e : ℕ} {q : Pair} → i < length edges / 2 → q ≡ ask k start edges i → Placed kind base room entries q book after v e
      → Middling kind k base room start edges before (i + 1) e (set points (k + i) v) after
  unfolding place
  middling_on {after} {v} {e} {q} l a p =
      let made = (middles_to kind k base start edges before i).made in
      let s = step_is a in
      let o = up_to_on (place kind base) before (ask k start edges) i in
      let n = length_middles kind k base start edges before i in
      let f : midpoint kind base (pairs_of book entries) q ∷ [] ≡ (place kind base (middles_to kind k base start edges before i).book (ask k start edges i)).made =
      ap (λ (x : Made ℕ). x.made) s
      in
      record {
        within = omega arith;
        ends = m.ends;
        fits = m.fits;
        ready = p.ready;
        holds = p.book ∙ ap (λ (x : Made ℕ). x.book) s ∙ ap (λ (x : Made ℕ). x.book) (sym o);
        list =
            ap (λ (x : List ℕ). set x (k + i) v) m.list
            ∙ ap (λ (j : ℕ). set (written start k made) (k + j) v) (sym n)
            ∙ written_set start k made v (omega (arith, m.fits))
            ∙ ap (λ (u : ℕ). written start k (made ++ u ∷ [])) p.vertex
            ∙ ap (λ (x : List ℕ). written start k (made ++ x)) f
            ∙ ap (λ (x : Made ℕ). written start k x.made) (sym o);
      }

  -- no room for the next: then none for all
  pub middling_full :
      {q : Pair} → i < length edges / 2 → q ≡ ask k start edges i
      → room < length (book_or (pairs_of book entries) q (seek kind base (pairs_of book entries) q))
      → room < length (middles_of kind k base edges start before).book
  unfolding place
  middling_full l a f =
      let s = ap (λ (x : Made ℕ). length x.book) (step_is a) in
      let o = ap (λ (x : Made ℕ). length x.book) (up_to_on (place kind base) before (ask k start edges) i) in
      let w = ap (λ (x : Made ℕ). length x.book) (middles_all kind k base start edges before) in
      let g = book_grows (place kind base) before (ask k start edges) (place_grows kind base) (i + 1) (length edges / 2) (omega arith) in
      omega arith

  pub middling_done : length edges / 2 ≤ i → Middled k base room start (middles_of kind k base edges start before) points book entries
  middling_done l =
      let e : i ≡ length edges / 2 = omega (arith, m.within) in
      let a : middles_to kind k base start edges before i ≡ middles_of kind k base edges start before =
      ap (middles_to kind k base start edges before) e ∙ sym (middles_all kind k base start edges before)
      in
      record {
        ready = m.ready;
        entries = m.holds ∙ ap (λ (x : Made ℕ). x.book) a;
        list = m.list ∙ ap (λ (x : Made ℕ). written start k x.made) a;
      }

-- ── one pair alone ──

-- the midpoint of [a,b] is that of the one edge between two points
pub middle_placed :
    (kind : Kind) (base room made a b : ℕ) {words after cells : List ℕ} {e : ℕ}
    → Middled 2 base room (a ∷ b ∷ 0 ∷ []) (middles_of kind 2 base (0 ∷ 1 ∷ []) (a ∷ b ∷ 0 ∷ []) (pairs_of words made)) after cells e
    → Placed kind base room made (pair a b) words cells (get_or after 2 0) e
unfolding written middles_of mids each place edge_pairs edges_of edge_at first_of
middle_placed kind base room made a b m =
    record { ready = m.ready; vertex = ap (λ (l : List ℕ). get_or l 2 0) m.list; book = m.entries }

pub middle_crowded :
    (kind : Kind) (base room made a b : ℕ) (words : List ℕ)
    → room < length (middles_of kind 2 base (0 ∷ 1 ∷ []) (a ∷ b ∷ 0 ∷ []) (pairs_of words made)).book
    → room < length (book_or (pairs_of words made) (pair a b) (seek kind base (pairs_of words made) (pair a b)))
unfolding middles_of mids each place edge_pairs edges_of edge_at first_of
middle_crowded kind base room made a b words l = l

-- the cells that were held are the book's
pub middled_held :
    {corners base room e : ℕ} {points after book words : List ℕ} {m : Made ℕ} → Middled corners base room points m after book e → book ≡ words
    → Middled corners base room points m after words e
middled_held {corners} {base} {room} {e} {points} {after} {book} {words} {m} x same =
    subst (λ (w : List ℕ). Middled corners base room points m after w e) same x
