-- Document 01, section 4: the cube pass, as list rules, with the four tables of cubical.rs.
-- Says nothing of smoothing or of a vertex's data.
-- Assumes nothing.
use Rattle.std.specs.Prelude.{cond, List, [], ◌∷◌, ◌++◌, map, ℕ, eqb}
use Rattle.geom.specs.Book.{cubes, Pair, pair, Book, Made, mids}
use Rattle.geom.specs.Elements.{Element, Shape, point_at, flat}
use Rattle.geom.specs.Rules.{same, divide, Went, pass_by}

-- Square [a,b,c,d]: midpoints ad, ab, ac, bd, cd in this order.
abbrev pub SQUARE_EDGES : List Pair
SQUARE_EDGES =
    pair 0 3 ∷
    pair 0 1 ∷
    pair 0 2 ∷
    pair 1 3 ∷
    pair 2 3 ∷
    []

-- the points of the next table: a, b, c, d, ab, ac, bd, cd, and last the centre ad, which is made first (place 4)
abbrev pub SQUARE_POINTS : List ℕ
SQUARE_POINTS = 0 ∷ 1 ∷ 2 ∷ 3 ∷ 5 ∷ 6 ∷ 7 ∷ 8 ∷ 4 ∷ []

-- Defines how new squares should be from linearly divided points.
abbrev pub SQUARE_ASSEMBLY_ORDER : List (List ℕ)
SQUARE_ASSEMBLY_ORDER =
    (0 ∷ 4 ∷ 5 ∷ 8 ∷ []) ∷
    (4 ∷ 1 ∷ 8 ∷ 6 ∷ []) ∷
    (5 ∷ 8 ∷ 2 ∷ 7 ∷ []) ∷
    (8 ∷ 6 ∷ 7 ∷ 3 ∷ []) ∷
    []

-- Defines all 12 edges of a cube based on vertex indices.
abbrev pub CUBE_EDGE_ORDER : List Pair
CUBE_EDGE_ORDER =
    pair 0 1 ∷
    pair 0 2 ∷
    pair 0 4 ∷
    pair 1 3 ∷
    pair 1 5 ∷
    pair 2 3 ∷
    pair 2 6 ∷
    pair 3 7 ∷
    pair 4 5 ∷
    pair 4 6 ∷
    pair 5 7 ∷
    pair 6 7 ∷
    []

-- Defines all 6 faces of a cube based on vertex indices.
abbrev pub CUBE_FACE_ORDER : List (List ℕ)
CUBE_FACE_ORDER =
    (0 ∷ 1 ∷ 2 ∷ 3 ∷ []) ∷
    (0 ∷ 1 ∷ 4 ∷ 5 ∷ []) ∷
    (0 ∷ 2 ∷ 4 ∷ 6 ∷ []) ∷
    (1 ∷ 3 ∷ 5 ∷ 7 ∷ []) ∷
    (2 ∷ 3 ∷ 6 ∷ 7 ∷ []) ∷
    (4 ∷ 5 ∷ 6 ∷ 7 ∷ []) ∷
    []

-- Defines how new cubes should be from linearly divided points.
abbrev pub CUBE_ASSEMBLY_ORDER : List (List ℕ)
CUBE_ASSEMBLY_ORDER =
    (0 ∷ 8 ∷ 9 ∷ 20 ∷ 10 ∷ 21 ∷ 22 ∷ 26 ∷ []) ∷
    (8 ∷ 1 ∷ 20 ∷ 11 ∷ 21 ∷ 12 ∷ 26 ∷ 23 ∷ []) ∷
    (9 ∷ 20 ∷ 2 ∷ 13 ∷ 22 ∷ 26 ∷ 14 ∷ 24 ∷ []) ∷
    (20 ∷ 11 ∷ 13 ∷ 3 ∷ 26 ∷ 23 ∷ 24 ∷ 15 ∷ []) ∷
    (10 ∷ 21 ∷ 22 ∷ 26 ∷ 4 ∷ 16 ∷ 17 ∷ 25 ∷ []) ∷
    (21 ∷ 12 ∷ 26 ∷ 23 ∷ 16 ∷ 5 ∷ 25 ∷ 18 ∷ []) ∷
    (22 ∷ 26 ∷ 14 ∷ 24 ∷ 17 ∷ 25 ∷ 6 ∷ 19 ∷ []) ∷
    (26 ∷ 23 ∷ 24 ∷ 15 ∷ 25 ∷ 18 ∷ 19 ∷ 7 ∷ []) ∷
    []

-- the first and the last corner of a square
abbrev pub diagonal : List ℕ → Pair
diagonal corners = pair (point_at corners 0) (point_at corners 3)

-- Cube: midpoints by `CUBE_EDGE_ORDER`, then by `CUBE_FACE_ORDER` (first and last corner), then of corners 0 and 7.
abbrev pub CUBE_EDGES : List Pair
CUBE_EDGES = CUBE_EDGE_ORDER ++ map diagonal CUBE_FACE_ORDER ++ pair 0 7 ∷ []

-- the points of `CUBE_ASSEMBLY_ORDER`: the corners, then the midpoints as they are made
abbrev pub CUBE_POINTS : List ℕ
CUBE_POINTS =
    0 ∷ 1 ∷ 2 ∷ 3 ∷ 4 ∷ 5 ∷ 6 ∷ 7 ∷
    8 ∷ 9 ∷ 10 ∷ 11 ∷ 12 ∷ 13 ∷ 14 ∷ 15 ∷ 16 ∷ 17 ∷ 18 ∷ 19 ∷
    20 ∷ 21 ∷ 22 ∷ 23 ∷ 24 ∷ 25 ∷
    26 ∷ []

-- A flat square is [a,b,a,b] or [a,a,c,c].
abbrev pub SQUARE_AXES : List (List Pair)
SQUARE_AXES =
    (pair 0 2 ∷ pair 1 3 ∷ []) ∷
    (pair 0 1 ∷ pair 2 3 ∷ []) ∷
    []

-- A cube is flat if its four edges along one axis each have equal ends.
abbrev pub CUBE_AXES : List (List Pair)
CUBE_AXES =
    (pair 0 4 ∷ pair 1 5 ∷ pair 2 6 ∷ pair 3 7 ∷ []) ∷
    (pair 0 2 ∷ pair 1 3 ∷ pair 4 6 ∷ pair 5 7 ∷ []) ∷
    (pair 0 1 ∷ pair 2 3 ∷ pair 4 5 ∷ pair 6 7 ∷ []) ∷
    []

abbrev pub SQUARE : Shape
SQUARE =
    record {
      count = 4;
      edges = SQUARE_EDGES;
      points = SQUARE_POINTS;
      table = map same SQUARE_ASSEMBLY_ORDER;
      axes = SQUARE_AXES;
    }

abbrev pub CUBE : Shape
CUBE =
    record {
      count = 8;
      edges = CUBE_EDGES;
      points = CUBE_POINTS;
      table = map same CUBE_ASSEMBLY_ORDER;
      axes = CUBE_AXES;
    }

-- no piece, with the book after given midpoints
abbrev pub no_square : Made ℕ → Made Element
no_square m = record { made = []; book = m.book }

-- Square [a,b,c,d]: nothing if a = d; if a = c and b = d, or a = b and c = d, the midpoint of [a,d] is made but no square;
-- else midpoints ad, ab, ac, bd, cd in this order and `SQUARE_ASSEMBLY_ORDER`.
unfoldable pub square : ℕ → Book → Element → Made Element
square base book e =
    cond (eqb (point_at e.corners 0) (point_at e.corners 3))
    (record { made = []; book = book })
    (cond (flat SQUARE_AXES e.corners)
    (no_square (mids cubes base book (diagonal e.corners ∷ [])))
    (divide cubes SQUARE base book e))

-- the rule of a cube
unfoldable pub cube : ℕ → Book → Element → Made Element
cube = divide cubes CUBE

-- Same order: lines, then squares, cubes, curves, each in list order; the old lists are replaced.
unfoldable pub cube_pass : ℕ → Went → Went
cube_pass = pass_by cubes square cube
