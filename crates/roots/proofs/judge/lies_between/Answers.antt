-- `roots::judge::lies_between` meets its contract. Assumes nothing.
use Rattle.std.proofs.Common.{sym}
use Rattle.roots.proofs.Exactly.{not_above, above}
use Rattle.roots.proofs.judge.lies_between.Goals as goal

pub returns-then-x-low : goal.returns-then-x-low
returns-then-x-low c = sym (not_above _ _ _ _ c.if-x-low.true)

pub returns : goal.returns
returns c = above _ _ _ _ c.requires.1 c.if-x-low.false
