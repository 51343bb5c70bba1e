-- `vertices::settle::moved` meets its contract, axis by axis. Assumes nothing.
use Rattle.geom.specs.Floats.{binary32}
use Rattle.vertices.proofs.Settling.{moved_timed, moved_still}
use Rattle.vertices.proofs.settle.moved.Goals as goal

pub returns-then-time : goal.returns-then-time
returns-then-time c = moved_timed binary32 _ _ _ _ _ c.axis-x.ensures c.axis-y.ensures c.axis-z.ensures _ _ c.if-time.true c.axis-w.ensures

pub returns-else-time : goal.returns-else-time
returns-else-time c = moved_still binary32 _ _ _ _ _ c.axis-x.ensures c.axis-y.ensures c.axis-z.ensures _ c.if-time.false
