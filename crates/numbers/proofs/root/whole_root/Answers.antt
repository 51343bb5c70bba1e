-- `numbers::root::whole_root` meets its contract. The invariant: the root lies between low and high. The measure is what is between them. Assumes nothing.
use Rattle.std.proofs.Common.{arith}
use Rattle.numbers.proofs.WholeRoot.{between_done}
use Rattle.numbers.proofs.root.whole_root.Goals as goal

pub returns : goal.returns
returns c = let between = c.loop-high.invariant in (between_done between c.loop-high-test.false, omega (arith, between.apart, between.small))
