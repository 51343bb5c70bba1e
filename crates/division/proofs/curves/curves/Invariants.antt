-- `division::curves::curves` meets its contract: a curve a turn (`Winding`). Assumes nothing.
use Rattle.geom.specs.Kinds.{kind_of}
use Rattle.book.specs.Answers.{pairs_in, Kept}
use Rattle.division.proofs.Winding.{Winding}
use Rattle.division.proofs.curves.curves.Given as goal

abbrev pub invariant-loop-i : goal.invariant-loop-i
invariant-loop-i l = Winding (kind_of l.kind) l.initial.book.base l.initial.book.room l.cells l.count l.old l.old_vertices (pairs_in l.initial.book) l.initial.new l.initial.new_vertices l.initial.book.cells.now l.i l.rows l.book.made l.from l.new l.new_vertices l.book.cells.now × Kept l.initial.book l.book
