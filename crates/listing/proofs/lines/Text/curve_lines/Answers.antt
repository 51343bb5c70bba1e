-- `listing::lines::Text::curve_lines` meets its contract. The invariant: the lines of the curves so far were added, and the next curve starts behind them. Assumes nothing.
use native.Mathlib.Omega.{arith}
use Rattle.listing.proofs.Parts.{starts, curve_next, curve_end, curve_vertices_lem, curve_parities, curve_line_lem}
use Rattle.listing.proofs.Texts.{lining_start, lining_room, lining_on}
use Rattle.listing.proofs.lines.Text.curve_lines.Goals as goal

pub loop-i-init : goal.loop-i-init
loop-i-init c = record { lines = lining_start _ _ _ c.requires.room; start = starts _ }

pub overflow_mul-from : goal.overflow_mul-from
overflow_mul-from c = omega (arith, curve_end c.args.words.now c.args.steps.now c.loop-i.i c.loop-i.start _ c.loop-i.invariant.start c.word-count.ensures c.args.rows c.loop-i-test.true c.requires.steps_in_bounds)

pub overflow_add-from : goal.overflow_add-from
overflow_add-from c = omega (arith, curve_end c.args.words.now c.args.steps.now c.loop-i.i c.loop-i.start _ c.loop-i.invariant.start c.word-count.ensures c.args.rows c.loop-i-test.true c.requires.steps_in_bounds)

pub line-requires : goal.line-requires
line-requires c =
    record {
      column = curve_vertices_lem c.args.words.now c.args.steps.now c.loop-i.i c.loop-i.start _ c.loop-i.invariant.start c.word-count.ensures c.args.rows c.loop-i-test.true c.requires.steps_in_bounds;
      column_2 = curve_parities c.args.words.now c.args.steps.now c.loop-i.i c.loop-i.start _ c.loop-i.invariant.start c.word-count.ensures c.args.rows c.loop-i-test.true c.requires.steps_in_bounds _ c.saturating_sub-parities.ensures;
      room = lining_room _ c.loop-i.invariant.lines c.loop-i-test.true (curve_line_lem c.args.words.now c.args.steps.now c.loop-i.i c.loop-i.start _ c.loop-i.invariant.start c.word-count.ensures _ c.saturating_sub-parities.ensures);
    }

pub overflow_add-start : goal.overflow_add-start
overflow_add-start c = omega (arith, curve_end c.args.words.now c.args.steps.now c.loop-i.i c.loop-i.start _ c.loop-i.invariant.start c.word-count.ensures c.args.rows c.loop-i-test.true c.requires.steps_in_bounds)

pub loop-i-preserved : goal.loop-i-preserved
loop-i-preserved c =
    record {
      lines = lining_on _ c.loop-i.invariant.lines c.loop-i-test.true (curve_line_lem c.args.words.now c.args.steps.now c.loop-i.i c.loop-i.start _ c.loop-i.invariant.start c.word-count.ensures _ c.saturating_sub-parities.ensures) c.line.ensures;
      start = curve_next c.args.words.now c.args.steps.now c.loop-i.i c.loop-i.start _ c.loop-i.invariant.start c.word-count.ensures;
    }
