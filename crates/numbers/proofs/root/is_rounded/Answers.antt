-- `numbers::root::is_rounded` meets its contract: the two squares tell (`WholeRoot.antt`), and where it says no there is nothing to show. Assumes nothing.
use Rattle.std.proofs.Common.{arith}
use Rattle.numbers.proofs.WholeRoot.{squares_decide}
use Rattle.numbers.proofs.root.is_rounded.Goals as goal

pub returns : goal.returns
returns c = squares_decide _ _ (omega arith)
