-- `numbers::root::rounded_root` meets its contract, whatever the guess is: `is_rounded` and `whole_root` say what they return. Assumes nothing.
use Rattle.std.proofs.Common.{sym}
use Rattle.numbers.proofs.RoundedRoot.{rounded_to}
use Rattle.numbers.proofs.root.rounded_root.Goals as goal

pub returns-then-is_rounded : goal.returns-then-is_rounded
returns-then-is_rounded c = let right = c.is_rounded.ensures c.if-is_rounded.true in (sym right, rw right at (rounded_to c.requires))
