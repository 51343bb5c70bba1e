-- `vertices::gather::Gathered::clear` meets its contract: the cells passed are clear. Assumes nothing.
use Rattle.geom.specs.Floats.{binary32}
use Rattle.vertices.proofs.Gathering.{cleared_on}
use Rattle.vertices.proofs.Kept.{kept_on}
use Rattle.vertices.proofs.gather.Gathered.clear.Goals as goal

pub loop-i-preserved : goal.loop-i-preserved
loop-i-preserved c = record { kept = kept_on c.loop-i.invariant.kept c.put.ensures.kept; cleared = cleared_on binary32 _ _ _ _ _ _ c.loop-i.invariant.cleared c.zero.ensures c.put.ensures.rows }
