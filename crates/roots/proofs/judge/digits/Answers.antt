-- `roots::judge::digits` meets its contract. Assumes nothing.
use Rattle.std.proofs.Common.{sym, arith}
use Rattle.roots.proofs.Exactly.{digits_subnormal, digits_normal}
use Rattle.roots.proofs.judge.digits.Goals as goal

pub returns-then-pattern-lt-FIELD : goal.returns-then-pattern-lt-FIELD
returns-then-pattern-lt-FIELD c = (sym (digits_subnormal _ c.if-pattern-lt-FIELD.true), omega arith)

pub returns : goal.returns
returns c = (sym (digits_normal _ c.if-pattern-lt-FIELD.false), omega arith)
