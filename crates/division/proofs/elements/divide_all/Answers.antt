-- `division::elements::divide_all` meets its contract: the rows of the whole list, behind none. Assumes nothing.
use native.Mathlib.Nat.{zero-add}
use Rattle.geom.specs.Kinds.{kind_of}
use Rattle.geom.specs.Rules.{divide}
use Rattle.book.specs.Answers.{pairs_in}
use Rattle.division.specs.Shapes.{shape_of}
use Rattle.division.proofs.Listing.{from_first}
use Rattle.division.proofs.elements.divide_all.Goals as goal

pub divide_from-requires : goal.divide_from-requires
divide_from-requires c =
    record { shaped = c.requires.shaped; count_in_bounds = rw (zero-add c.args.count) c.requires.count_in_bounds; begun = c.requires.begun }

pub returns-clause-passed : goal.returns-clause-passed
returns-clause-passed c =
    from_first c.args.corners c.args.cells
    (divide (kind_of c.args.kind) (shape_of c.args.corners c.args.edges.now c.args.order.now c.args.table.now c.args.axes.now) c.args.book.now.base) (pairs_in c.args.book.now)
    c.args.old.now c.args.count c.args.new.now c.divide_from.new.new c.args.book.now c.divide_from.new.book c.divide_from.result c.divide_from.ensures.extended
