-- `book::Book::midpoint` meets its contract. Assumes nothing.
use Rattle.geom.specs.Kinds.{kind_of}
use Rattle.book.specs.Answers.{beside}
use Rattle.book.proofs.Placing.{answers, answered_still, answered_by}
use Rattle.book.proofs.Book.midpoint.Goals as goal

pub returns-then-still-clause-answered : goal.returns-then-still-clause-answered
returns-then-still-clause-answered c =
    answers (answered_still (kind_of c.args.kind) c.still.result c.still.ensures c.if-still.true c.requires)

pub returns-clause-answered : goal.returns-clause-answered
returns-clause-answered c =
    let b = c.args.self.now in
    answered_by (kind_of c.args.kind) b.base b.room b.made c.args.a c.args.b b.cells.now c.entry.new.self.cells.now c.still.result c.still.ensures c.if-still.false
    (beside c.entry.result c.entry.new.self.made) c.entry.ensures.answered
