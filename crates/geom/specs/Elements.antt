-- Document 01, section 2 and 8: lines, areas, volumes and curves as lists of vertex numbers; and what the tables of sections 3 and 4 mean.
-- Says nothing of vertices, points or coordinates, nor whether a number is that of a vertex or an element has its kind's number of corners.
-- Assumes nothing.
use Rattle.std.specs.Prelude.{Bool, true, false, ◌&&◌, ◌||◌, List, [], ◌∷◌, ◌++◌, map, ℕ, eqb, get_or}
use Rattle.geom.specs.declared.parity.Parity.{Parity}
use Rattle.geom.specs.Parity.{times}
use Rattle.geom.specs.Book.{Pair, pair}

-- a line, an area or a volume
pub record Element : Type 0 where
  pub corners : List ℕ
  pub parity : Parity

-- a curve: one parity for each step between neighbours, so one fewer than vertices
pub record Curve : Type 0 where
  pub tag : ℕ
  pub vertices : List ℕ
  pub parities : List Parity

-- the lists that a pass replaces (points stay)
pub record Lists : Type 0 where
  pub lines : List Element
  pub areas : List Element
  pub volumes : List Element
  pub curves : List Curve

-- the point at a place, from 0
abbrev pub point_at : List ℕ → ℕ → ℕ
point_at points i = get_or points i 0

-- the points at the places of a row
unfoldable pub pick : List ℕ → List ℕ → List ℕ
pick points row = map (point_at points) row

-- pairs of points, by the places of both ends
unfoldable pub pairs_of : List ℕ → List Pair → List Pair
pairs_of points edges = map (λ (e : Pair). pair (point_at points e.first) (point_at points e.second)) edges

-- each of these edges has equal ends
unfoldable pub shut : List ℕ → List Pair → Bool
shut points [] = true
shut points (e ∷ edges) = eqb (point_at points e.first) (point_at points e.second) && shut points edges

-- Flat: the edges along one of the axes each have equal ends.
unfoldable pub flat : List (List Pair) → List ℕ → Bool
flat [] corners = false
flat (axis ∷ axes) corners = shut corners axis || flat axes corners

-- a row of a table of pieces: the places of its corners, and Odd where the piece is flipped
pub record Row : Type 0 where
  pub places : List ℕ
  pub parity : Parity

-- How an element is divided. Places count the corners first, then the midpoints.
pub record Shape : Type 0 where
  -- how many corners
  pub count : ℕ
  -- the pairs of corners whose midpoints are made, in this order
  pub edges : List Pair
  -- the points that the table speaks of: the places of the corners and of the midpoints as they are made
  pub points : List ℕ
  -- the pieces
  pub table : List Row
  -- the edges of a piece along each axis; none where nothing is flat
  pub axes : List (List Pair)

-- an element in front of others, or left out where it is flat
abbrev pub unless : Bool → Element → List Element → List Element
unless true e es = es
unless false e es = e ∷ es

-- the pieces of a table over given points, flat pieces dropped; parities multiply
unfoldable pub pieces : List (List Pair) → Parity → List ℕ → List Row → List Element
pieces axes p points [] = []
pieces axes p points (row ∷ rows) =
    unless (flat axes (pick points row.places))
    (record { corners = pick points row.places; parity = times row.parity p })
    (pieces axes p points rows)

-- the pieces of an element with given corners and the midpoints of its edges
unfoldable pub assemble : Shape → Parity → List ℕ → List ℕ → List Element
assemble s p corners middles = pieces s.axes p (pick (corners ++ middles) s.points) s.table
