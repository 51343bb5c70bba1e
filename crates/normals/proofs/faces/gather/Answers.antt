-- `normals::faces::gather` meets its contract: each vertex has what the elements passed give it. Assumes nothing.
use Rattle.normals.proofs.Adding.{gathering_start, gathering_on, gathering_done}
use Rattle.normals.proofs.faces.gather.Goals as goal

pub loop-i-init : goal.loop-i-init
loop-i-init g c = gathering_start _ _ _ _ _ _ _ _ _

pub loop-i-preserved : goal.loop-i-preserved
loop-i-preserved g c = gathering_on _ _ _ _ _ _ _ _ _ _ _ _ c.loop-i.invariant c.add.ensures

pub returns : goal.returns
returns g c = gathering_done _ _ _ _ _ _ _ _ _ _ _ c.loop-i.invariant c.loop-i.auto.i-end c.loop-i-test.false
