-- `judge::words::parts_hold` meets its contract: the curves passed have their parities, and the next one starts behind them. Assumes nothing.
use native.Mathlib.Omega.{arith}
use Rattle.judge.proofs.Parts.{walking_start, walking_within, walking_on, walking_off, walking_done}
use Rattle.judge.proofs.words.parts_hold.Goals as goal

pub loop-i-init : goal.loop-i-init
loop-i-init c = walking_start _ _ _ _

pub part_holds-requires : goal.part_holds-requires
part_holds-requires c = let l = walking_within _ _ _ _ _ _ _ c.requires c.loop-i.invariant c.loop-i-test.true c.word-count.ensures in omega arith

pub returns-then-not-part_holds : goal.returns-then-not-part_holds
returns-then-not-part_holds c = walking_off _ _ _ _ _ _ _ c.requires c.loop-i.invariant c.loop-i-test.true c.word-count.ensures _ c.part_holds.ensures (c.if-not-part_holds.true)

pub overflow_add-start : goal.overflow_add-start
overflow_add-start c = omega (arith, walking_within _ _ _ _ _ _ _ c.requires c.loop-i.invariant c.loop-i-test.true c.word-count.ensures)

pub loop-i-preserved : goal.loop-i-preserved
loop-i-preserved c = walking_on _ _ _ _ _ _ _ c.requires c.loop-i.invariant c.loop-i-test.true c.word-count.ensures _ c.part_holds.ensures (c.if-not-part_holds.false)

pub returns : goal.returns
returns c = walking_done _ _ _ _ _ _ c.loop-i.invariant c.loop-i-test.false
