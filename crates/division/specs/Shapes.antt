-- Tables in memory: the shape that slices of places stand for.
-- Assumes nothing.
use Rattle.std.specs.Prelude.{◌≡◌, Bool, true, ◌&&◌, List, [], ◌∷◌, map, ℕ, suc, ◌+◌, ◌*◌, ◌/◌, ◌<◌, ◌≤◌, ltb, length, get_or, take, drop}
use Rattle.geom.specs.Book.{Pair, pair}
use Rattle.geom.specs.declared.parity.Parity.{Parity}
use Rattle.geom.specs.Parity.{times}
use Rattle.geom.specs.Elements.{Element, Row, Shape, pick, flat, unless}
use Rattle.geom.specs.Memory.{ElementRow, first_of, element_row, parity_of}

-- every word is less than n
unfoldable pub below : ℕ → List ℕ → Bool
below n [] = true
below n (x ∷ xs) = ltb x n && below n xs

-- two words an edge: the places of its ends
unfoldable pub edge_at : List ℕ → ℕ → Pair
edge_at words i = pair (get_or words (2 * i) 0) (get_or words (2 * i + 1) 0)

unfoldable pub edges_of : List ℕ → List Pair
edges_of words = first_of (edge_at words) (length words / 2)

-- the places of the points that a table speaks of; no words where they are the n points as they are made
unfoldable pub order_of : ℕ → List ℕ → List ℕ
order_of n [] = first_of (λ (i : ℕ). i) n
order_of n (x ∷ xs) = x ∷ xs

-- a row of a table stands as an element does: places, then 0, or 1 where the piece is flipped
unfoldable pub row_of : ElementRow → Row
row_of r = record { places = r.corners; parity = parity_of r.parity }

-- the rows of a table of pieces with so many corners
unfoldable pub table_of : ℕ → List ℕ → List Row
table_of corners table = map row_of (first_of (element_row corners table) (length table / suc corners))

-- the table of a line's two pieces: from its first end to the middle, and from there to its second
abbrev pub LINE_TABLE : List ℕ
LINE_TABLE = 0 ∷ 2 ∷ 0 ∷ 2 ∷ 1 ∷ 0 ∷ []

-- one axis of a piece with so many corners: pairs of places, from a word on
unfoldable pub axis_from : ℕ → List ℕ → ℕ → List Pair
axis_from corners axes from =
    first_of (λ (j : ℕ). pair (get_or axes (from + 2 * j) 0) (get_or axes (from + 2 * j + 1) 0)) (corners / 2)

-- the axes, one after the other, each of as many words as a piece has corners; no words where nothing is flat
unfoldable pub axes_of : ℕ → List ℕ → List (List Pair)
axes_of corners axes = first_of (λ (i : ℕ). axis_from corners axes (corners * i)) (length axes / corners)

-- the shape with so many corners and these tables
unfoldable pub shape_of : ℕ → List ℕ → List ℕ → List ℕ → List ℕ → Shape
shape_of corners edges order table axes =
    record {
      count = corners;
      edges = edges_of edges;
      points = order_of (corners + length edges / 2) order;
      table = table_of corners table;
      axes = axes_of corners axes;
    }

-- the tables speak of corners and points that there are, 27 at most
pub record Shaped (corners : ℕ) (edges order table axes : List ℕ) : Type 0 where
  pub some : 0 < corners
  pub few : corners + length edges / 2 ≤ 27
  pub ends : below corners edges ≡ true
  pub made : below (corners + length edges / 2) order ≡ true
  pub all : length (order_of (corners + length edges / 2) order) ≡ corners + length edges / 2
  pub places : below (corners + length edges / 2) table ≡ true
  pub along : below corners axes ≡ true

-- the places of a table of pieces, and of the axes, are there
pub record Tabled (corners : ℕ) (points table axes : List ℕ) : Type 0 where
  pub some : 0 < corners
  pub few : corners ≤ 27
  pub places : below (length points) table ≡ true
  pub along : below corners axes ≡ true

-- the piece whose row of the table begins at a word, or nothing where it is flat
abbrev pub kept_from : ℕ → Parity → List ℕ → List ℕ → List ℕ → ℕ → List Element
kept_from corners p points table axes from =
    unless (flat (axes_of corners axes) (pick points (take corners (drop from table))))
    (record { corners = pick points (take corners (drop from table)); parity = times (parity_of (get_or table (from + corners) 0)) p })
    []
