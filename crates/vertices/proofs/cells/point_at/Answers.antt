-- `vertices::cells::point_at` meets its contract. Assumes nothing.
use Rattle.geom.specs.Memory.{four_row}
use Rattle.vertices.proofs.cells.point_at.Goals as goal

pub returns : goal.returns
unfolding four_row
returns c = cc
