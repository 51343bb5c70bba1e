-- `figure::writing::put_curves` meets its contract: the curves passed were written. Assumes nothing.
use native.Mathlib.Omega.{arith}
use Rattle.figure.proofs.Strings.{begins, stringing_start, stringing_words, stringing_next, stringing_on, stringing_done}
use Rattle.figure.proofs.writing.put_curves.Goals as goal

pub overflow_add-place : goal.overflow_add-place
overflow_add-place c = omega (arith, begins _ _ _ _ _ c.requires, c.well_formed)

pub loop-i-init : goal.loop-i-init
loop-i-init c = stringing_start _ _ _ _ _

pub put_curve-count-requires : goal.put_curve-count-requires
put_curve-count-requires c = stringing_next _ _ _ _ _ _ _ _ _ _ c.loop-i.invariant c.requires c.loop-i-test.true

pub overflow_mul-place : goal.overflow_mul-place
overflow_mul-place c = let s = stringing_next _ _ _ _ _ _ _ _ _ _ c.loop-i.invariant c.requires c.loop-i-test.true in omega (arith, s.stand, c.put_curve-count.ensures.count, c.well_formed)

pub overflow_add-place-in-loop-i : goal.overflow_add-place-in-loop-i
overflow_add-place-in-loop-i c = let s = stringing_next _ _ _ _ _ _ _ _ _ _ c.loop-i.invariant c.requires c.loop-i-test.true in omega (arith, s.stand, c.put_curve-count.ensures.count, c.well_formed)

pub overflow_add-place-in-loop-i-2 : goal.overflow_add-place-in-loop-i-2
overflow_add-place-in-loop-i-2 c = let s = stringing_next _ _ _ _ _ _ _ _ _ _ c.loop-i.invariant c.requires c.loop-i-test.true in omega (arith, s.stand, c.put_curve-count.ensures.count, c.well_formed)

pub overflow_add-from : goal.overflow_add-from
overflow_add-from c = let s = stringing_next _ _ _ _ _ _ _ _ _ _ c.loop-i.invariant c.requires c.loop-i-test.true in let l = stringing_words _ _ _ _ _ _ _ _ _ _ c.loop-i.invariant in omega (arith, s.room, c.put_curve-count.ensures.count, l, c.well_formed)

pub loop-i-preserved : goal.loop-i-preserved
loop-i-preserved c = stringing_on _ _ _ _ _ _ _ _ _ _ c.loop-i.invariant c.requires _ _ _ c.put_curve-count.ensures

pub returns : goal.returns
returns c = stringing_done _ _ _ _ _ _ _ _ _ _ c.loop-i.invariant c.requires c.loop-i.auto.i-end c.loop-i-test.false
