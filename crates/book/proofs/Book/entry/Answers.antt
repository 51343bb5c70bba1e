-- `book::Book::entry` meets its contract. Assumes nothing.
use Rattle.geom.specs.Book.{pair}
use Rattle.book.proofs.Placing.{hit_found, missed_none, missed_free, placed_found, placed_new, crowded, answers, refuses}
use Rattle.book.proofs.Book.entry.Goals as goal

pub returns-then-self-made-clause-answered : goal.returns-then-self-made-clause-answered
returns-then-self-made-clause-answered c =
    let b = c.args.self.now in
    let q = pair c.args.a c.args.b in
    refuses (crowded b.base b.room b.made b.cells.now q (missed_none b.base b.room b.made b.cells.now q c.find.result c.requires c.find.ensures c.in-Err.is) c.if-self-made.true)

pub enter-requires : goal.enter-requires
enter-requires c =
    let b = c.args.self.now in
    missed_free b.base b.room b.made b.cells.now (pair c.args.a c.args.b) c.find.result c.requires c.find.ensures c.in-Err.is c.if-self-made.false

pub returns-in-Ok-clause-answered : goal.returns-in-Ok-clause-answered
returns-in-Ok-clause-answered c =
    let b = c.args.self.now in
    let q = pair c.args.a c.args.b in
    answers (placed_found q c.requires (hit_found b.base b.room b.made b.cells.now q c.find.result c.requires c.find.ensures c.in-Ok.is))

pub returns-else-self-made-clause-answered : goal.returns-else-self-made-clause-answered
returns-else-self-made-clause-answered c =
    let b = c.args.self.now in
    let q = pair c.args.a c.args.b in
    answers (placed_new c.enter.new.words q c.requires (missed_none b.base b.room b.made b.cells.now q c.find.result c.requires c.find.ensures c.in-Err.is) c.if-self-made.false c.enter.ensures c.enter.auto.words)
