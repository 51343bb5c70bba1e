-- `judge::words::corners_hold` meets its contract: every word is below the count, or the corners of the elements passed are. Assumes nothing.
use native.Mathlib.Omega.{arith}
use mathlib.Core.Path.{sym, ◌∙◌}
use Rattle.judge.proofs.Every.{every_start, every_on, every_off, every_done, elements_words, words_corners, row_end, row_column, row_corners}
use Rattle.judge.proofs.words.corners_hold.Goals as goal

pub overflow_mul-corners : goal.overflow_mul-corners
overflow_mul-corners c = omega (arith, elements_words _ _ _ c.requires)

pub all_below-requires : goal.all_below-requires
all_below-requires c = omega (arith, elements_words _ _ _ c.requires)

pub returns-then-all_below : goal.returns-then-all_below
returns-then-all_below c = words_corners _ _ _ _ c.requires (sym c.all_below.ensures ∙ c.if-all_below.true)

pub loop-i-init : goal.loop-i-init
loop-i-init c = every_start _ _

pub overflow_mul-corners-in-loop-i : goal.overflow_mul-corners-in-loop-i
overflow_mul-corners-in-loop-i c = omega (arith, row_end _ _ _ _ c.requires c.loop-i-test.true)

pub column_below-requires : goal.column_below-requires
column_below-requires c = let l = row_end _ _ _ _ c.requires c.loop-i-test.true in record { column = row_column _ _ _ (omega arith); width_bound = omega arith }

pub returns-then-not-column_below : goal.returns-then-not-column_below
returns-then-not-column_below c = sym (every_off _ _ _ _ c.loop-i-test.true (sym (row_corners _ _ _ _ _ c.requires c.loop-i-test.true) ∙ sym c.column_below.ensures ∙ c.if-not-column_below.true))

pub loop-i-preserved : goal.loop-i-preserved
loop-i-preserved c = every_on _ _ _ c.loop-i.invariant (sym (row_corners _ _ _ _ _ c.requires c.loop-i-test.true) ∙ sym c.column_below.ensures ∙ c.if-not-column_below.false)

pub returns : goal.returns
returns c = every_done _ _ _ _ _ c.loop-i.auto.i-end c.loop-i-test.false (sym c.loop-i.invariant)
