-- `vertices::cells::midpoint_vertex` meets its contract. Assumes nothing.
use Rattle.geom.specs.Vertices.{midpoint_in}
use Rattle.vertices.proofs.cells.midpoint_vertex.Goals as goal

pub returns : goal.returns
unfolding midpoint_in
returns c = cc
