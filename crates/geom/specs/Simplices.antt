-- Document 01, section 3: the simplex pass, as list rules.
-- Says nothing of smoothing or of a vertex's data.
-- Assumes nothing.
use Rattle.std.specs.Prelude.{List, [], ◌∷◌, ℕ}
use Rattle.geom.specs.Book.{simplices, Pair, pair, Book, Made}
use Rattle.geom.specs.Elements.{Element, Row, Shape}
use Rattle.geom.specs.Rules.{same, turned, divide, Went, pass_by}

-- Triangle [a,b,c], p = ab, q = ac, r = bc made in this order (places 3, 4, 5):
abbrev pub TRIANGLE_EDGES : List Pair
TRIANGLE_EDGES =
    pair 0 1 ∷
    pair 0 2 ∷
    pair 1 2 ∷
    []

-- [a,p,q], [p,b,r], [q,r,c], then [p,q,r] flipped.
abbrev pub TRIANGLE_PIECES : List Row
TRIANGLE_PIECES =
    same (0 ∷ 3 ∷ 4 ∷ []) ∷
    same (3 ∷ 1 ∷ 5 ∷ []) ∷
    same (4 ∷ 5 ∷ 2 ∷ []) ∷
    turned (3 ∷ 4 ∷ 5 ∷ []) ∷
    []

-- Tetrahedron [a,b,c,d], midpoints 0 to 5 = ab, ac, ad, bc, bd, cd (places 4 to 9):
abbrev pub TETRAHEDRON_EDGES : List Pair
TETRAHEDRON_EDGES =
    pair 0 1 ∷
    pair 0 2 ∷
    pair 0 3 ∷
    pair 1 2 ∷
    pair 1 3 ∷
    pair 2 3 ∷
    []

-- [a,0,1,2], [0,b,3,4], [1,3,c,5], [2,4,5,d], [0,1,2,4], then flipped [0,1,3,4], [1,3,4,5], then [1,2,4,5].
abbrev pub TETRAHEDRON_PIECES : List Row
TETRAHEDRON_PIECES =
    same (0 ∷ 4 ∷ 5 ∷ 6 ∷ []) ∷
    same (4 ∷ 1 ∷ 7 ∷ 8 ∷ []) ∷
    same (5 ∷ 7 ∷ 2 ∷ 9 ∷ []) ∷
    same (6 ∷ 8 ∷ 9 ∷ 3 ∷ []) ∷
    same (4 ∷ 5 ∷ 6 ∷ 8 ∷ []) ∷
    turned (4 ∷ 5 ∷ 7 ∷ 8 ∷ []) ∷
    turned (5 ∷ 7 ∷ 8 ∷ 9 ∷ []) ∷
    same (5 ∷ 6 ∷ 8 ∷ 9 ∷ []) ∷
    []

-- no simplex is flat: no axes
abbrev pub TRIANGLE : Shape
TRIANGLE =
    record {
      count = 3;
      edges = TRIANGLE_EDGES;
      points = 0 ∷ 1 ∷ 2 ∷ 3 ∷ 4 ∷ 5 ∷ [];
      table = TRIANGLE_PIECES;
      axes = [];
    }

abbrev pub TETRAHEDRON : Shape
TETRAHEDRON =
    record {
      count = 4;
      edges = TETRAHEDRON_EDGES;
      points = 0 ∷ 1 ∷ 2 ∷ 3 ∷ 4 ∷ 5 ∷ 6 ∷ 7 ∷ 8 ∷ 9 ∷ [];
      table = TETRAHEDRON_PIECES;
      axes = [];
    }

-- the rule of a triangle
unfoldable pub triangle : ℕ → Book → Element → Made Element
triangle = divide simplices TRIANGLE

-- the rule of a tetrahedron
unfoldable pub tetrahedron : ℕ → Book → Element → Made Element
tetrahedron = divide simplices TETRAHEDRON

-- Lines, then triangles, tetrahedra, curves, each in list order; the old lists are replaced.
unfoldable pub simplex_pass : ℕ → Went → Went
simplex_pass = pass_by simplices triangle tetrahedron
