-- `division::curves::curves` meets its contract: a curve a turn (`Winding`). Assumes nothing.
use Rattle.std.proofs.lemmas.Result.{err_from_is_err_and}
use mathlib.Core.Path.{refl}
use Rattle.geom.specs.Kinds.{kind_of}
use Rattle.book.specs.Answers.{pairs_in}
use Rattle.book.proofs.Placing.{kept_still, kept_on}
use Rattle.division.proofs.Winding.{winding_start, winding_room, winding_on, winding_full, winding_done}
use native.Mathlib.Omega.{arith}
use Rattle.division.proofs.curves.curves.Goals as goal

pub loop-i-init : goal.loop-i-init
loop-i-init c = (
  winding_start (kind_of c.args.kind) c.args.book.now.base c.args.book.now.room c.args.cells c.args.count c.args.old.now c.args.old_vertices.now
      (pairs_in c.args.book.now) refl c.requires.count_in_bounds_3 c.requires.spread,
  kept_still,
)

pub curve-requires : goal.curve-requires
curve-requires c =
    let room = winding_room (kind_of c.args.kind) c.args.book.now.base c.args.book.now.room c.args.cells c.args.count c.args.old.now c.args.old_vertices.now (pairs_in c.args.book.now) c.loop-i.invariant.0 c.loop-i-test.true in
    record { row_in_bounds = omega (arith, c.loop-i-test.true, c.requires.count_in_bounds); row_in_bounds_2 = omega (arith, room, c.loop-i.invariant.0.begins, c.requires.count_in_bounds_2); row_in_bounds_3 = omega (arith, c.loop-i-test.true, c.requires.count_in_bounds_3, c.loop-i.invariant.0.long); spread = rw (c.loop-i.invariant.1.base, c.loop-i.invariant.1.room) c.loop-i.invariant.0.spread }

pub returns-in_err-more-clause-curved : goal.returns-in_err-more-clause-curved
returns-in_err-more-clause-curved c =
    rw (err_from_is_err_and c.from_residual.result c.from_residual.ensures.1).1
    (winding_full (kind_of c.args.kind) c.args.book.now.base c.args.book.now.room c.args.cells c.args.count c.args.old.now c.args.old_vertices.now
    (pairs_in c.args.book.now)
    c.loop-i.invariant.0 c.loop-i-test.true (rw (c.loop-i.invariant.1.base, c.loop-i.invariant.1.room, c.in_err-more.was) at c.curve.ensures.strung))

pub overflow_add-from-in-loop-i : goal.overflow_add-from-in-loop-i
overflow_add-from-in-loop-i c =
    let room = winding_room (kind_of c.args.kind) c.args.book.now.base c.args.book.now.room c.args.cells c.args.count c.args.old.now c.args.old_vertices.now (pairs_in c.args.book.now) c.loop-i.invariant.0 c.loop-i-test.true in
    omega (arith, room, c.loop-i.invariant.0.begins, c.requires.count_in_bounds_2, c.well_formed)

pub loop-i-preserved : goal.loop-i-preserved
loop-i-preserved c = (
  winding_on (kind_of c.args.kind) c.args.book.now.base c.args.book.now.room c.args.cells c.args.count c.args.old.now c.args.old_vertices.now
      (pairs_in c.args.book.now)
      c.loop-i.invariant.0 c.loop-i-test.true c.curve.auto.new
      c.curve.auto.new_vertices
      c.curve.ensures.kept.cells
      (rw (c.loop-i.invariant.1.base, c.loop-i.invariant.1.room, c.in_ok-more.was) at c.curve.ensures.strung),
  kept_on c.loop-i.invariant.1 c.curve.ensures.kept,
)

pub returns-clause-curved : goal.returns-clause-curved
returns-clause-curved c =
    winding_done (kind_of c.args.kind) c.args.book.now.base c.args.book.now.room c.args.cells c.args.count c.args.old.now c.args.old_vertices.now
    (pairs_in c.args.book.now) c.loop-i.invariant.0 c.loop-i-test.false
