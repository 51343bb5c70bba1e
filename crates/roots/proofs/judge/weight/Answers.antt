-- `roots::judge::weight` meets its contract. Assumes nothing.
use Rattle.std.proofs.Common.{sym, arith}
use Rattle.roots.proofs.Exactly.{weight_subnormal, weight_normal}
use Rattle.roots.proofs.judge.weight.Goals as goal

pub returns-then-pattern-lt-FIELD : goal.returns-then-pattern-lt-FIELD
returns-then-pattern-lt-FIELD c = (sym (weight_subnormal _ c.if-pattern-lt-FIELD.true), omega arith)

pub returns : goal.returns
returns c = (sym (weight_normal _ c.if-pattern-lt-FIELD.false), omega arith)
