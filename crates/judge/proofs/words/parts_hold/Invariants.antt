-- `judge::words::parts_hold` meets its contract: the curves passed have their parities, and the next one starts behind them. Assumes nothing.
use Rattle.judge.proofs.Parts.{Walking}
use Rattle.judge.proofs.words.parts_hold.Given as goal

abbrev pub invariant-loop-i : goal.invariant-loop-i
invariant-loop-i l = Walking l.curves l.rows l.steps l.total l.start l.i
