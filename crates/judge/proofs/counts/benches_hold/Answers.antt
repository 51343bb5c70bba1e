-- `judge::counts::benches_hold` meets its contract. Assumes nothing.
use Rattle.judge.proofs.Verdicts.{benches_are}
use Rattle.judge.proofs.counts.benches_hold.Goals as goal

pub returns : goal.returns
returns c = benches_are _ _ _ _ _ _ _ c.benches_equal-equal.ensures c.cells-lent.ensures
