-- `roots::judge::judge` meets its contract, by how far the argument's digits are to be shifted. Assumes nothing.
use Rattle.std.proofs.Common.{sym, arith}
use Rattle.roots.specs.Exact.{upper}
use Rattle.roots.proofs.Exactly.{lies_below, lies_above, lies_beside, leading}
use Rattle.roots.proofs.judge.judge.Goals as goal

pub returns-then-up-down : goal.returns-then-up-down
returns-then-up-down c = sym (lies_below _ _ c.requires (omega arith))

pub returns-then-shift-ge64 : goal.returns-then-shift-ge64
returns-then-shift-ge64 c = sym (lies_above _ _ c.requires (omega arith) (omega arith))

pub lower-low-requires : goal.lower-low-requires
lower-low-requires c = omega (arith, leading _ c.requires.normal)

pub returns : goal.returns
unfolding upper
returns c = cc (lies_beside _ _ c.requires (omega arith))
