-- `vertices::settle::settled_point` meets its contract. Assumes nothing.
use Rattle.geom.specs.Floats.{binary32}
use Rattle.vertices.proofs.Settling.{settled_none, settled_moved}
use Rattle.vertices.proofs.settle.settled_point.Goals as goal

pub returns-then-count-eq0 : goal.returns-then-count-eq0
returns-then-count-eq0 c = λ touch. settled_none binary32 _ _ _ _ touch c.if-count-eq0.true

pub returns : goal.returns
returns c = λ touch. settled_moved binary32 _ _ _ _ touch _ _ c.if-count-eq0.false c.over-p.ensures c.moved.ensures
