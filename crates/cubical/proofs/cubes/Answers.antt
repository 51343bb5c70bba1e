-- `cubical::cubes` meets its contract: the tables are those of the definition, by computation. Assumes nothing.
use mathlib.Core.Path.{refl}
use Rattle.geom.specs.Memory.{first_of, element_row}
use Rattle.geom.specs.Cubes.{cube}
use Rattle.division.specs.Shapes.{below, edge_at, edges_of, order_of, row_of, table_of, axis_from, axes_of, shape_of}
use native.Mathlib.Omega.{arith}
use Rattle.cubical.proofs.cubes.Goals as goal

pub divide_all-requires : goal.divide_all-requires
unfolding below first_of order_of
divide_all-requires c = record { shaped = record { some = omega arith; few = omega arith; ends = refl; made = refl; all = refl; places = refl; along = refl }; count_in_bounds = c.requires.count_in_bounds; begun = c.requires.begun }

pub returns-clause-passed : goal.returns-clause-passed
unfolding axes_of axis_from cube edge_at edges_of element_row first_of order_of row_of shape_of table_of
returns-clause-passed c = c.divide_all.ensures.passed
