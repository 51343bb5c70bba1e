-- `fields::rows::curves` meets its contract: the curves passed were read, and the next begins behind them. Assumes nothing.
use Rattle.fields.proofs.Curves.{Winding}
use Rattle.fields.proofs.rows.curves.Given as goal

abbrev pub invariant-loop-i : goal.invariant-loop-i
invariant-loop-i l = Winding l.file l.at l.n l.count l.lent l.from l.total l.i
