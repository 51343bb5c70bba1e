-- `judge::words::column_below` meets its contract: it is known whether the rows passed are below the bound. Assumes nothing.
use native.Mathlib.Omega.{arith}
use native.Mathlib.Nat.{mul-suc}
use mathlib.Core.Path.{sym, ap, ◌∙◌}
use Prim.Native.Nat.{ℕ}
use lib.ListN.{get_or}
use Rattle.judge.proofs.Every.{every_start, every_with, every_done, number_below}
use Rattle.judge.proofs.words.column_below.Goals as goal

pub loop-i-init : goal.loop-i-init
loop-i-init c = (omega arith, sym (every_start _ _))

pub word-requires : goal.word-requires
word-requires c = omega (arith, c.requires.column.stands c.loop-i.i c.loop-i-test.true, c.loop-i.invariant.0)

pub overflow_add-at : goal.overflow_add-at
overflow_add-at c =
    omega (arith, c.requires.column.stands c.loop-i.i c.loop-i-test.true, c.loop-i.invariant.0, c.requires.width_bound)

pub loop-i-preserved : goal.loop-i-preserved
loop-i-preserved c = (
  omega (arith, c.loop-i.invariant.0, mul-suc c.args.width c.loop-i.i),
  every_with _ _ _ _ _ c.loop-i.invariant.1 (number_below _ _ _ (c.word.ensures ∙ ap (λ (k : ℕ). get_or c.args.words.now k 0) c.loop-i.invariant.0)),
)

pub returns : goal.returns
returns c = every_done _ _ _ _ _ c.loop-i.auto.i-end c.loop-i-test.false c.loop-i.invariant.1
