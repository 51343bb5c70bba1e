-- `division::elements::make_middles` meets its contract: an edge a turn (`Middling`). Assumes nothing.
use Rattle.geom.specs.Kinds.{kind_of}
use Rattle.book.specs.Answers.{pairs_in, Kept}
use Rattle.division.proofs.Middles.{Middling}
use Rattle.division.proofs.elements.make_middles.Given as goal

abbrev pub invariant-loop-i : goal.invariant-loop-i
invariant-loop-i l = Middling (kind_of l.kind) l.corners l.initial.book.base l.initial.book.room l.initial.points l.edges (pairs_in l.initial.book) l.i l.book.made l.points l.book.cells.now × Kept l.initial.book l.book
