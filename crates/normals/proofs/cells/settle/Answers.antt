-- `normals::cells::settle` meets its contract: the sums passed are normalised, and the others still what they were. Assumes nothing.
use Rattle.normals.proofs.Settling.{settling_start, settling_on, settling_done}
use Rattle.normals.proofs.cells.settle.Goals as goal

pub loop-i-init : goal.loop-i-init
loop-i-init g c = settling_start g.met.V.Cell.reads _ _ _ _ _

pub loop-i-preserved : goal.loop-i-preserved
loop-i-preserved g c =
    settling_on g.met.V.Cell.reads _ _ _ _ _ _ _ c.loop-i.invariant c.loop-i-test.true _ _ _ c.read-sum.ensures c.normalise.ensures c.put_normal.ensures

pub returns : goal.returns
returns g c = settling_done g.met.V.Cell.reads _ _ _ _ _ _ _ c.loop-i.invariant c.loop-i.auto.i-end c.loop-i-test.false c.requires
