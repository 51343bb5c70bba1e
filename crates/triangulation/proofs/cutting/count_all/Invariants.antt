-- `triangulation::cutting::count_all` meets its contract: an element a turn (`Counting`). Assumes nothing.
use Rattle.triangulation.proofs.Turns.{Counting}
use Rattle.triangulation.proofs.Pieces.{element_makes}
use Rattle.triangulation.proofs.cutting.count_all.Given as goal

abbrev pub invariant-loop-i : goal.invariant-loop-i
invariant-loop-i l = Counting (element_makes l.corners l.size l.table l.pieces l.old) l.rows l.i l.total
