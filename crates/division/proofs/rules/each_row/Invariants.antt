-- `division::rules::each_row` meets its contract: a row a turn (`Listing`). Assumes nothing.
use Rattle.book.specs.Answers.{pairs_in, Kept}
use Rattle.division.proofs.Listing.{Listing}
use Rattle.division.proofs.rules.each_row.Given as goal

abbrev pub invariant-loop-i : goal.invariant-loop-i
invariant-loop-i g l = Listing g.R.RowRule.corners l.initial.book.base l.initial.book.room l.cells (g.R.RowRule.makes l.rule l.initial.book.base) (pairs_in l.initial.book) l.old l.count l.initial.new l.initial.book.cells.now l.i l.rows l.book.made l.new l.book.cells.now × Kept l.initial.book l.book
