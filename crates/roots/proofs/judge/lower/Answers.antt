-- `roots::judge::lower` meets its contract. Assumes nothing.
use Rattle.std.proofs.Common.{sym, arith}
use Rattle.roots.proofs.Exactly.{lower_at, lower_past}
use Rattle.roots.proofs.judge.lower.Goals as goal

pub returns-then-digits-eq8388608 : goal.returns-then-digits-eq8388608
returns-then-digits-eq8388608 c = (sym (lower_at _ c.if-digits-eq8388608.true), omega arith)

pub returns : goal.returns
returns c = (sym (lower_past _ c.if-digits-eq8388608.false), omega arith)
