-- `judge::words::curves_hold` meets its contract: the curves passed have vertices. Assumes nothing.
use mathlib.Core.Path.{sym}
use Rattle.judge.proofs.Every.{every_start, every_on, every_off, every_done}
use Rattle.judge.proofs.Parts.{curve_off, curve_on}
use Rattle.judge.proofs.words.curves_hold.Goals as goal

pub loop-i-init : goal.loop-i-init
loop-i-init c = every_start _ _

pub returns-then-word-eq0 : goal.returns-then-word-eq0
returns-then-word-eq0 c = sym (every_off _ _ _ _ c.loop-i-test.true (curve_off _ _ _ c.word.ensures c.if-word-eq0.true))

pub loop-i-preserved : goal.loop-i-preserved
loop-i-preserved c = every_on _ _ _ c.loop-i.invariant (curve_on _ _ _ c.word.ensures c.if-word-eq0.false)

pub returns : goal.returns
returns c = every_done _ _ _ _ _ c.loop-i.auto.i-end c.loop-i-test.false (sym c.loop-i.invariant)
