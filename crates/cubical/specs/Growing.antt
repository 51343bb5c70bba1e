-- That the rule of squares only adds to the book, as the rule of every list has to.
-- Assumes nothing.
use mathlib.Core.Bool.{Bool, true, false, cond}
use mathlib.Core.List.{[], ◌∷◌}
use native.Mathlib.Omega.{arith}
use lib.Dec.{eqb}
use Rattle.std.specs.Prelude.{ℕ, ◌≤◌, length}
use Rattle.geom.specs.Book.{cubes, Book, mids}
use Rattle.geom.specs.Elements.{Element, point_at, flat, pairs_of as edge_pairs}
use Rattle.geom.specs.Rules.{divide}
use Rattle.geom.specs.Cubes.{SQUARE_AXES, SQUARE_EDGES, SQUARE, diagonal, no_square, square}
use Rattle.division.proofs.Folds.{mids_grows}

pub square_grows : (base : ℕ) (b : Book) (x : Element) → length b ≤ length (square base b x).book
unfolding square divide
square_grows base b x = go (eqb (point_at x.corners 0) (point_at x.corners 3)) (flat SQUARE_AXES x.corners)
  where
    go :
        (s t : Bool)
        → length b
        ≤ length
        (cond s (record { made = []; book = b })
        (cond t (no_square (mids cubes base b (diagonal x.corners ∷ []))) (divide cubes SQUARE base b x))).book
    go true t = omega arith
    go false true = mids_grows cubes base b (diagonal x.corners ∷ [])
    go false false = mids_grows cubes base b (edge_pairs x.corners SQUARE_EDGES)
