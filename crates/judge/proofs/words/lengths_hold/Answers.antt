-- `judge::words::lengths_hold` meets its contract: what is left of the total and the lengths passed make the total. Assumes nothing.
use Rattle.judge.proofs.Parts.{counting_start, counting_on, counting_off, counting_done}
use Rattle.judge.proofs.words.lengths_hold.Goals as goal

pub loop-i-init : goal.loop-i-init
loop-i-init c = counting_start _ _ _

pub returns-then-left-count : goal.returns-then-left-count
returns-then-left-count c = counting_off _ _ _ _ _ _ c.loop-i.invariant c.loop-i-test.true c.word-count.ensures c.if-left-count.true

pub loop-i-preserved : goal.loop-i-preserved
loop-i-preserved c = counting_on _ _ _ _ _ _ c.loop-i.invariant c.loop-i-test.true c.word-count.ensures c.if-left-count.false

pub returns : goal.returns
returns c = counting_done _ _ _ _ _ c.loop-i.invariant c.loop-i-test.false
