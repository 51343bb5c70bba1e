-- `division::elements::assemble` meets its contract: a row of the table a turn (`Rowing`). Assumes nothing.
use Rattle.division.proofs.Assembling.{Rowing}
use Rattle.division.proofs.elements.assemble.Given as goal

abbrev pub invariant-loop-row : goal.invariant-loop-row
invariant-loop-row l = Rowing l.corners l.parity l.points l.table l.axes l.cells l.rows l.initial.new l.row-iterator.rest.now l.row-iterator.size l.filled l.new
