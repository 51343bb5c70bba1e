-- `triangulation::cutting::kept` meets its contract: a row of the table a turn (`Counting`). Assumes nothing.
use Rattle.geom.specs.declared.parity.Parity.{Parity}
use Rattle.triangulation.proofs.Turns.{Counting}
use Rattle.triangulation.proofs.Pieces.{row_makes}
use Rattle.triangulation.proofs.cutting.kept.Given as goal

abbrev pub invariant-loop-j : goal.invariant-loop-j
invariant-loop-j l = (p : Parity) → Counting (row_makes l.size l.table p l.points) l.pieces l.j l.kept
