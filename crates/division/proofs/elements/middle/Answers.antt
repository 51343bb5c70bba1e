-- `division::elements::middle` meets its contract: one edge between two points. Assumes nothing.
use Rattle.std.proofs.lemmas.Result.{err_from_is_err_and}
use mathlib.Core.Path.{refl}
use Rattle.geom.specs.Kinds.{kind_of}
use Rattle.division.specs.Shapes.{below}
use Rattle.book.proofs.Placing.{answers, refuses}
use Rattle.division.proofs.Middles.{middle_placed, middle_crowded}
use native.Mathlib.Omega.{arith}
use Rattle.division.proofs.elements.middle.Goals as goal

pub middles-requires : goal.middles-requires
unfolding below
middles-requires c = record { ready = c.requires; edges_value = refl; edges_in_bounds = omega arith }

pub returns-in_err-middles-clause-asked : goal.returns-in_err-middles-clause-asked
returns-in_err-middles-clause-asked c =
    rw (err_from_is_err_and c.from_residual.result c.from_residual.ensures.1).1
    (refuses (middle_crowded (kind_of c.args.kind) c.args.book.now.base c.args.book.now.room c.args.book.now.made c.args.a c.args.b c.args.book.now.cells.now
    (rw c.in_err-middles.was at c.middles.ensures.made)))

pub returns-clause-asked : goal.returns-clause-asked
returns-clause-asked c =
    answers (middle_placed (kind_of c.args.kind) c.args.book.now.base c.args.book.now.room c.args.book.now.made c.args.a c.args.b
    (rw c.in_ok-middles.was at c.middles.ensures.made))
