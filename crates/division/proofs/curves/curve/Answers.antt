-- `division::curves::curve` meets its contract: no vertices, no cells, no room, or the steps, the last vertex and the row. Assumes nothing.
use Rattle.std.proofs.lemmas.Result.{err_from_is_err_and}
use mathlib.Core.Path.{refl}
use Rattle.geom.specs.Kinds.{kind_of}
use Rattle.book.specs.Answers.{pairs_in}
use Rattle.division.proofs.Strands.{curve_empty, curve_crowded, curve_full, curve_strings}
use native.Mathlib.Omega.{arith}
use Rattle.division.proofs.curves.curve.Goals as goal

pub returns-then-count-eq0-clause-strung : goal.returns-then-count-eq0-clause-strung
returns-then-count-eq0-clause-strung c =
    curve_empty (kind_of c.args.kind) c.args.book.now.base c.args.from c.args.row c.args.old.now c.args.old_vertices.now (pairs_in c.args.book.now)
    c.if-count-eq0.true c.requires.spread refl c.put.ensures

pub returns-then-cells-rows-clause-strung : goal.returns-then-cells-rows-clause-strung
returns-then-cells-rows-clause-strung c =
    curve_full (kind_of c.args.kind) c.args.book.now.base c.args.from c.args.row c.args.old.now c.args.old_vertices.now (pairs_in c.args.book.now)
    c.if-count-eq0.false c.args.book.now.room c.args.cells c.args.rows c.if-cells-rows.true

pub thread-requires : goal.thread-requires
thread-requires c =
    record { steps_in_bounds = omega (arith, c.requires.row_in_bounds_2, c.if-count-eq0.false); steps_in_bounds_2 = omega (arith, c.requires.spread.within, c.requires.spread.lent, c.if-cells-rows.false); ready = c.requires.spread.ready }

pub returns-in_err-thread-clause-strung : goal.returns-in_err-thread-clause-strung
returns-in_err-thread-clause-strung c =
    rw (err_from_is_err_and c.from_residual.result c.from_residual.ensures.1).1
    (curve_crowded (kind_of c.args.kind) c.args.book.now.base c.args.from c.args.row c.args.old.now c.args.old_vertices.now (pairs_in c.args.book.now)
    c.if-count-eq0.false c.args.book.now.room c.args.cells c.args.rows
    (rw c.in_err-thread.was at c.thread.ensures.threaded))

pub returns-clause-strung : goal.returns-clause-strung
returns-clause-strung c =
    curve_strings (kind_of c.args.kind) c.args.book.now.base c.args.from c.args.row c.args.old.now c.args.old_vertices.now (pairs_in c.args.book.now)
    c.if-count-eq0.false
    (rw c.in_ok-thread.was at c.thread.ensures.threaded)
    (omega (arith, c.if-cells-rows.false, c.requires.spread.within))
    c.requires.spread.lent c.put-2.ensures c.put-3.ensures
