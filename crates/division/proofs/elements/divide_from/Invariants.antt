-- `division::elements::divide_from` meets its contract: an element a turn (`Ranging`). Assumes nothing.
use Prim.Native.Nat.{ℕ, ◌+◌}
use Rattle.geom.specs.Kinds.{kind_of}
use Rattle.geom.specs.Memory.{element_row}
use Rattle.geom.specs.Rules.{divide}
use Rattle.book.specs.Answers.{pairs_in, Kept}
use Rattle.division.specs.Shapes.{shape_of}
use Rattle.division.proofs.Listing.{Ranging}
use Rattle.division.proofs.elements.divide_from.Given as goal

abbrev pub invariant-loop-i : goal.invariant-loop-i
invariant-loop-i l = Ranging l.corners l.initial.book.base l.initial.book.room l.cells l.start (divide (kind_of l.kind) (shape_of l.corners l.edges l.order l.table l.axes) l.initial.book.base) (pairs_in l.initial.book) (λ (i' : ℕ). element_row l.corners l.old (l.first + i')) l.count l.initial.new l.initial.book.cells.now l.i l.rows l.book.made l.new l.book.cells.now × Kept l.initial.book l.book
