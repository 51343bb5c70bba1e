-- `vertices::gather::Gathered::put` meets its contract. Assumes nothing.
use Rattle.geom.specs.Floats.{binary32}
use Rattle.vertices.proofs.Gathering.{row_put}
use Rattle.vertices.proofs.gather.Gathered.put.Goals as goal

pub returns-clause-rows : goal.returns-clause-rows
returns-clause-rows c = row_put binary32 _ _ _ _ _ _ _ _ c.requires c.put_point.ensures c.put_tally.ensures
