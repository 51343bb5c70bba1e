-- Document 01, sections 3 and 4: what the two kinds share. The rule of a line, of a curve, of an element that is divided by its shape,
-- and one pass over all lists.
-- Each rule goes from the vertex count handed in, the book and an element to the pieces and the book after.
-- Says nothing of the room that is lent, and of no coordinate.
-- Assumes nothing.
use Rattle.std.specs.Prelude.{List, [], ◌∷◌, ◌++◌, ℕ}
use Rattle.geom.specs.declared.parity.Parity.{Parity}
use Rattle.geom.specs.declared.parity.Parity.TheVariants.{Even, Odd}
use Rattle.geom.specs.Book.{Kind, Pair, pair, Book, Found, found, none, seek, midpoint, book_or, Made, each, mids}
use Rattle.geom.specs.Elements.{Element, Curve, Lists, Row, Shape, point_at, pairs_of, assemble, pieces}

-- a row of a table whose piece keeps the parity, and one whose piece is flipped
abbrev pub same : List ℕ → Row
same places = record { places = places; parity = Even }

abbrev pub turned : List ℕ → Row
turned places = record { places = places; parity = Odd }

-- Line [a,b] with the vertex v at place 2: [a,v], [v,b] of the same parity.
abbrev pub LINE_PIECES : List Row
LINE_PIECES =
    same (0 ∷ 2 ∷ []) ∷
    same (2 ∷ 1 ∷ []) ∷
    []

-- the directed pair of a line
abbrev pub line_ends : Element → Pair
line_ends e = pair (point_at e.corners 0) (point_at e.corners 1)

-- if known, nothing; if the pair is new, its vertex and two lines
abbrev pub line_pieces : ℕ → Element → Found → List Element
line_pieces v e (found w) = []
line_pieces v e none = pieces [] e.parity (e.corners ++ v ∷ []) LINE_PIECES

-- Line [a,b]: if the pair is new, vertex v and lines [a,v], [v,b] of the same parity; if known, nothing. (A line [a,a] of cubes is known.)
unfoldable pub line : Kind → ℕ → Book → Element → Made Element
line kind base book e =
    record {
      made = line_pieces (midpoint kind base book (line_ends e)) e (seek kind base book (line_ends e));
      book = book_or book (line_ends e) (seek kind base book (line_ends e));
    }

-- an element divided by its shape: its midpoints are made in the shape's order, then its pieces
unfoldable pub divide : Kind → Shape → ℕ → Book → Element → Made Element
divide kind s base book e =
    let m = mids kind base book (pairs_of e.corners s.edges) in
    record { made = assemble s e.parity e.corners m.made; book = m.book }

-- a step from u to w is the pair [u,w] if its parity is even, [w,u] if odd
abbrev pub step_ends : Parity → ℕ → ℕ → Pair
step_ends Even u w = pair u w
step_ends Odd u w = pair w u

-- the pairs of a curve's steps
unfoldable pub steps : ℕ → List ℕ → List Parity → List Pair
steps u (w ∷ ws) (p ∷ ps) = step_ends p u w ∷ steps w ws ps
steps u [] (p ∷ ps) = []
steps u (w ∷ ws) [] = []
steps u [] [] = []

-- between neighbours comes the midpoint
unfoldable pub between : List ℕ → List ℕ → List ℕ
between (m ∷ ms) (w ∷ ws) = m ∷ w ∷ between ms ws
between [] (w ∷ ws) = w ∷ ws
between (m ∷ ms) [] = []
between [] [] = []

-- each parity is doubled
unfoldable pub doubled : List Parity → List Parity
doubled [] = []
doubled (p ∷ ps) = p ∷ p ∷ doubled ps

-- a curve's vertices after the first, with what comes between, and the curve's other fields
abbrev pub curve_from : Kind → ℕ → Book → Curve → List ℕ → Made Curve
curve_from kind base book c [] = record { made = c ∷ []; book = book }
curve_from kind base book c (u ∷ ws) =
    let m = mids kind base book (steps u ws c.parities) in
    record {
      made = record { tag = c.tag; vertices = u ∷ between m.made ws; parities = doubled c.parities } ∷ [];
      book = m.book;
    }

-- Curve: between neighbours u, w comes the midpoint of [u,w] if that parity is even, of [w,u] if odd; each parity is doubled; the tag stays.
-- A curve of one vertex is unchanged: it has no step and no parity.
unfoldable pub curve : Kind → ℕ → Book → Curve → Made Curve
curve kind base book c = curve_from kind base book c c.vertices

-- all lists, and the book
pub record Went : Type 0 where
  pub lists : Lists
  pub book : Book

-- One pass, with the kind's rules of an area and a volume: lines, then areas, volumes, curves, each in list order, with one book through all;
-- the old lists are replaced.
unfoldable pub pass_by : Kind → (ℕ → Book → Element → Made Element) → (ℕ → Book → Element → Made Element) → ℕ → Went → Went
pass_by kind area volume base w =
    let lines = each (line kind base) w.book w.lists.lines in
    let areas = each (area base) lines.book w.lists.areas in
    let volumes = each (volume base) areas.book w.lists.volumes in
    let curves = each (curve kind base) volumes.book w.lists.curves in
    record {
      lists = record { lines = lines.made; areas = areas.made; volumes = volumes.made; curves = curves.made };
      book = curves.book;
    }
