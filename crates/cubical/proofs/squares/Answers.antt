-- `cubical::squares` meets its contract: the tables are those of the definition, by computation. Assumes nothing.
use mathlib.Core.Path.{refl}
use Rattle.geom.specs.Memory.{first_of, element_row}
use Rattle.division.specs.Shapes.{below, edge_at, edges_of, order_of, row_of, table_of, axis_from, axes_of, shape_of}
use native.Mathlib.Omega.{arith}
use Rattle.cubical.proofs.squares.Goals as goal

pub each_row-requires : goal.each_row-requires
unfolding axes_of axis_from below edge_at edges_of element_row first_of order_of row_of shape_of table_of
each_row-requires c =
    record { stands = (record { some = omega arith; few = omega arith; ends = refl; made = refl; all = refl; places = refl; along = refl }, refl); count_in_bounds = c.requires.count_in_bounds; begun = c.requires.begun }
