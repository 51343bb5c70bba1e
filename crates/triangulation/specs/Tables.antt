-- The tables by which squares and cubes are cut, row for row; and that what they make of a list is what the definition makes of it.
-- Assumes nothing.
use Rattle.std.specs.Prelude.{◌≡◌, refl, List, [], ◌∷◌, ℕ}
use native.Mathlib.Omega.{arith}
use Rattle.geom.specs.Memory.{first_of, element_row}
use Rattle.geom.specs.Triangulation.{triangulate_square, triangulate_cube}
use Rattle.division.specs.Shapes.{below, row_of}
use Rattle.triangulation.specs.Cutting.{neighbours, cut_by, cut_all, Table}
use Rattle.triangulation.specs.Entry.{triangles_of, tetrahedra_of}

abbrev pub square_table : List ℕ
square_table =
    0 ∷ 1 ∷ 3 ∷ 0
    ∷ 0 ∷ 2 ∷ 3 ∷ 1
    ∷ []

abbrev pub cube_table : List ℕ
cube_table =
    0 ∷ 1 ∷ 3 ∷ 7 ∷ 0
    ∷ 0 ∷ 1 ∷ 5 ∷ 7 ∷ 1
    ∷ 0 ∷ 2 ∷ 3 ∷ 7 ∷ 1
    ∷ 0 ∷ 2 ∷ 6 ∷ 7 ∷ 0
    ∷ 0 ∷ 4 ∷ 5 ∷ 7 ∷ 0
    ∷ 0 ∷ 4 ∷ 6 ∷ 7 ∷ 1
    ∷ []

pub square_holds : Table 4 3 2 square_table
unfolding below
square_holds = record { speaks = record { some = omega arith; places = refl }; few = omega arith; whole = refl }

pub cube_holds : Table 8 4 6 cube_table
unfolding below
cube_holds = record { speaks = record { some = omega arith; places = refl }; few = omega arith; whole = refl }

pub square_makes : (squares : List ℕ) (rows : ℕ) → cut_all 4 3 square_table 2 squares rows ≡ triangles_of squares rows
unfolding cut_all cut_by element_row first_of neighbours row_of triangulate_square
square_makes squares rows = refl

pub cube_makes : (solids : List ℕ) (rows : ℕ) → cut_all 8 4 cube_table 6 solids rows ≡ tetrahedra_of solids rows
unfolding cut_all cut_by element_row first_of neighbours row_of triangulate_cube
cube_makes solids rows = refl
