-- `triangulation::cutting::write_one` meets its contract: a row of the table a turn (`Writing`). Assumes nothing.
use Rattle.triangulation.proofs.Turns.{Writing}
use Rattle.triangulation.proofs.Pieces.{row_makes}
use Rattle.triangulation.proofs.cutting.write_one.Given as goal

abbrev pub invariant-loop-j : goal.invariant-loop-j
invariant-loop-j l = Writing l.size l.rows (row_makes l.size l.table l.parity l.points) l.pieces l.initial.new l.j l.filled l.new
