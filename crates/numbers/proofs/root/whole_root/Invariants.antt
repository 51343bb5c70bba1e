-- `numbers::root::whole_root` meets its contract. The invariant: the root lies between low and high. The measure is what is between them. Assumes nothing.
use Rattle.std.proofs.Common.{◌-◌}
use Rattle.numbers.proofs.WholeRoot.{Between}
use Rattle.numbers.proofs.root.whole_root.Given as goal

abbrev pub invariant-loop-high : goal.invariant-loop-high
invariant-loop-high l = Between l.n l.low l.high

abbrev pub decreases-loop-high : goal.decreases-loop-high
decreases-loop-high l = l.high - l.low
