-- `cubical::square` meets its contract: nothing, the midpoint of its diagonal alone, or its pieces. Assumes nothing.
use Rattle.std.proofs.lemmas.Result.{err_from_is_err_and}
use mathlib.Core.Path.{sym, ◌∙◌, ap, subst}
use Rattle.geom.specs.Book.{cubes, Made}
use Rattle.geom.specs.Elements.{Element, Shape}
use Rattle.geom.specs.Rules.{divide}
use Rattle.geom.specs.Memory.{element_row, element_of}
use Rattle.book.specs.Answers.{pairs_in}
use Rattle.division.specs.Writing.{Extended}
use Rattle.division.specs.Shapes.{shape_of}
use Rattle.division.proofs.Listing.{one_row}
use Rattle.book.proofs.Placing.{outgrows}
use Rattle.cubical.proofs.Squared.{square_shut, square_crowded, square_flat, square_divided}
use native.Mathlib.Omega.{arith}
use Rattle.cubical.proofs.square.Goals as goal

pub returns-then-a-d-clause-extended : goal.returns-then-a-d-clause-extended
returns-then-a-d-clause-extended c =
    square_shut c.args.book.now.base c.args.row c.args.book.now.made c.args.old.now c.args.book.now.cells.now c.requires.row_in_bounds c.if-a-d.true c.requires.begun.ready c.requires.begun.within c.requires.begun.lent

pub returns-in_err-middle-clause-extended : goal.returns-in_err-middle-clause-extended
returns-in_err-middle-clause-extended c =
    let f = sym c.is_flat.ensures ∙ c.if-is_flat.true in
    rw (err_from_is_err_and c.from_residual.result c.from_residual.ensures.1).1
    (square_crowded c.args.book.now.base c.args.row c.args.book.now.made c.args.old.now c.args.book.now.cells.now c.requires.row_in_bounds c.if-a-d.false c.args.book.now.room c.args.cells c.args.rows f (outgrows (rw c.in_err-middle.was at c.middle.ensures.asked)))

pub returns-then-is_flat-clause-extended : goal.returns-then-is_flat-clause-extended
returns-then-is_flat-clause-extended c =
    let f = sym c.is_flat.ensures ∙ c.if-is_flat.true in
    square_flat c.args.book.now.base c.args.row c.args.book.now.made c.args.old.now c.args.book.now.cells.now c.requires.row_in_bounds c.if-a-d.false f (rw c.in_ok-middle.was at c.middle.ensures.asked).placed c.requires.begun.within c.requires.begun.lent

pub divide_from-requires : goal.divide_from-requires
divide_from-requires c =
    record { shaped = c.requires.shaped; count_in_bounds = omega (arith, c.requires.row_in_bounds); begun = c.requires.begun }

pub returns-clause-extended : goal.returns-clause-extended
returns-clause-extended c =
    let f = sym c.is_flat.ensures ∙ c.if-is_flat.false in
    subst (λ (m : Made Element). Extended 4 c.args.cells c.args.rows m c.args.new.now c.divide_from.new.new c.args.book.now c.divide_from.new.book c.divide_from.result)
    (one_row 4 (divide cubes (shape_of 4 c.args.edges.now c.args.order.now c.args.table.now c.args.axes.now) c.args.book.now.base) (pairs_in c.args.book.now) c.args.old.now c.args.row
    ∙ ap (λ (t : Shape). divide cubes t c.args.book.now.base (pairs_in c.args.book.now) (element_of (element_row 4 c.args.old.now c.args.row))) c.requires.axes_value
    ∙ sym (square_divided c.args.book.now.base c.args.row c.args.book.now.made c.args.old.now c.args.book.now.cells.now c.requires.row_in_bounds c.if-a-d.false f))
    c.divide_from.ensures.extended
