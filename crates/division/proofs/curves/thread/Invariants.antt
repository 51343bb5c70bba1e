-- `division::curves::thread` meets its contract: a step a turn (`Threading`). Assumes nothing.
use Rattle.geom.specs.Kinds.{kind_of}
use Rattle.book.specs.Answers.{pairs_in, Kept}
use Rattle.division.proofs.Threading.{Threading}
use Rattle.division.proofs.curves.thread.Given as goal

abbrev pub invariant-loop-i : goal.invariant-loop-i
invariant-loop-i l = Threading (kind_of l.kind) l.initial.book.base l.initial.book.room l.from l.rows l.steps l.old (pairs_in l.initial.book) l.initial.new l.initial.book.cells.now l.i l.book.made l.new l.book.cells.now × Kept l.initial.book l.book
