-- `triangulation::cutting::cut_all` meets its contract: an element a turn (`Writing`). Assumes nothing.
use Rattle.triangulation.proofs.Turns.{Writing}
use Rattle.triangulation.proofs.Pieces.{element_makes}
use Rattle.triangulation.proofs.cutting.cut_all.Given as goal

abbrev pub invariant-loop-i : goal.invariant-loop-i
invariant-loop-i l = Writing l.size 0 (element_makes l.corners l.size l.table l.pieces l.old) l.rows l.initial.new l.i l.filled l.new
