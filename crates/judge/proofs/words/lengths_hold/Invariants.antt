-- `judge::words::lengths_hold` meets its contract: what is left of the total and the lengths passed make the total. Assumes nothing.
use Rattle.judge.proofs.Parts.{Counting}
use Rattle.judge.proofs.words.lengths_hold.Given as goal

abbrev pub invariant-loop-i : goal.invariant-loop-i
invariant-loop-i l = Counting l.curves l.rows l.total l.i l.left
