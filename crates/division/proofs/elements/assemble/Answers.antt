-- `division::elements::assemble` meets its contract: a row of the table a turn (`Rowing`). Assumes nothing.
use Rattle.std.proofs.lemmas.Result.{err_from_is_err_and}
use native.Mathlib.Omega.{arith}
use Rattle.division.proofs.Assembling.{rowing_start, rowing_turn, row_below, rowing_on, rowing_full, rowing_done}
use Rattle.division.proofs.elements.assemble.Goals as goal

pub loop-row-init : goal.loop-row-init
loop-row-init c =
    let e = c.into_iter-row-iterator.ensures.into_iter_gives in
    rw e
    (rowing_start c.args.corners c.args.parity c.args.points.now c.args.table.now c.args.axes.now c.chunks_exact-row-items.ensures.rest c.chunks_exact-row-items.ensures.size c.requires.rows_le_cells c.requires.cells_in_bounds)

pub keep-requires : goal.keep-requires
keep-requires c =
    let s = c.in-Some.ensures.steps.1 in
    let r = c.loop-row.invariant in
    let t = rowing_turn c.args.corners c.args.parity c.args.points.now c.args.table.now c.args.axes.now r _ _ s.0 s.1 in
    let d = c.requires.tabled in
    record {
      tabled = record { some = d.some; few = d.few; places = row_below c.args.corners c.args.parity c.args.points.now c.args.table.now c.args.axes.now r _ _ s.0 s.1 _ d.places; along = d.along };
      corners_in_bounds = omega (arith, s.1, r.wide);
      rows_le_cells = t.within;
      cells_in_bounds = t.lent;
    }

pub returns-in_err-next : goal.returns-in_err-next
returns-in_err-next c =
    let s = c.in-Some.ensures.steps.1 in
    rw (err_from_is_err_and c.from_residual.result c.from_residual.ensures.1).1
    (rowing_full c.args.corners c.args.parity c.args.points.now c.args.table.now c.args.axes.now c.loop-row.invariant _ _ s.0 s.1 (rw c.in_err-next.was at c.keep.ensures))

pub loop-row-preserved : goal.loop-row-preserved
loop-row-preserved c =
    let s = c.in-Some.ensures.steps in
    rowing_on c.args.corners c.args.parity c.args.points.now c.args.table.now c.args.axes.now c.loop-row.invariant _ _ s.1.0 s.1.1 s.0 (rw c.in_ok-next.was at c.keep.ensures)

pub returns : goal.returns
returns c = rowing_done c.args.corners c.args.parity c.args.points.now c.args.table.now c.args.axes.now c.loop-row.invariant c.in-None.ensures.steps.1.0
