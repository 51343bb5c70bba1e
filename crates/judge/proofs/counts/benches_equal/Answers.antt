-- `judge::counts::benches_equal` meets its contract. Assumes nothing.
use Rattle.std.proofs.Math.Bool.{and_assoc}
use Rattle.judge.specs.Counts.{equal_of}
use Rattle.judge.proofs.counts.benches_equal.Goals as goal

pub returns : goal.returns
unfolding equal_of
returns c = simp and_assoc c.eq.ensures
