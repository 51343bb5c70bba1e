-- `triangulation::cutting::meets` meets its contract: a pair of neighbours a turn (`Meeting`). Assumes nothing.
use lib.ListN.{take, drop}
use Rattle.geom.specs.Elements.{pick}
use Rattle.triangulation.proofs.Meeting.{Meeting}
use Rattle.triangulation.proofs.cutting.meets.Given as goal

abbrev pub invariant-loop-i : goal.invariant-loop-i
invariant-loop-i l = Meeting (pick l.points (take l.size (drop l.from l.table))) l.size l.i l.last
