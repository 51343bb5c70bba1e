-- `vertices::cells::vertex_at` meets its contract. Assumes nothing.
use Rattle.geom.specs.Memory.{four_row, vertex_row_in}
use Rattle.vertices.proofs.cells.vertex_at.Goals as goal

pub returns : goal.returns
unfolding four_row vertex_row_in
returns c = cc
