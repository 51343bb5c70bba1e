-- `division::lines::line` meets its contract: no room, known, no cells, or two pieces. Assumes nothing.
use Rattle.std.proofs.lemmas.Result.{err_from_is_err_and}
use mathlib.Core.Path.{◌≡◌, refl, sym, subst}
use mathlib.Core.Bool.{true}
use mathlib.Core.List.{List}
use Prim.Native.Nat.{ℕ}
use Rattle.geom.specs.Kinds.{kind_of}
use Rattle.geom.specs.Memory.{first_of, element_row}
use Rattle.division.specs.Shapes.{below, row_of, table_of, axes_of}
use Rattle.book.proofs.Placing.{outgrows}
use Rattle.division.proofs.Halving.{line_crowded, line_known, line_full, line_extends}
use native.Mathlib.Omega.{arith}
use Rattle.division.proofs.Assembling.{ends_as}
use Rattle.division.proofs.lines.line.Goals as goal

pub returns-in_err-vertex-clause-extended : goal.returns-in_err-vertex-clause-extended
returns-in_err-vertex-clause-extended c =
    rw (err_from_is_err_and c.from_residual.result c.from_residual.ensures.1).1
    (line_crowded (kind_of c.args.kind) c.args.book.now.base c.args.row c.args.book.now.made c.args.old.now c.args.book.now.cells.now c.requires.row_in_bounds c.args.book.now.room c.args.cells c.args.rows
    (outgrows (rw c.in_err-vertex.was at c.middle.ensures.asked)))

pub returns-then-book-made-clause-extended : goal.returns-then-book-made-clause-extended
returns-then-book-made-clause-extended c =
    line_known (kind_of c.args.kind) c.args.book.now.base c.args.row c.args.book.now.made c.args.old.now c.args.book.now.cells.now c.requires.row_in_bounds
    (rw c.in_ok-vertex.was at c.middle.ensures.asked).placed c.if-book-made.true c.requires.begun.within c.requires.begun.lent

pub assemble-requires : goal.assemble-requires
unfolding below
assemble-requires c =
    record { tabled = record { some = omega arith; few = omega arith; places = subst (λ (t : List ℕ). below 3 t ≡ true) (sym c.requires.table_value) refl; along = refl }; rows_le_cells = c.requires.begun.within; cells_in_bounds = c.requires.begun.lent }

pub returns-clause-extended : goal.returns-clause-extended
unfolding axes_of element_row first_of row_of table_of
returns-clause-extended c =
    let b = c.args.book.now in
    let placed = (rw c.in_ok-vertex.was at c.middle.ensures.asked).placed in
    ends_as b c.middle.new.book
    (λ r. line_extends (kind_of c.args.kind) b.base c.args.row b.made c.args.old.now b.cells.now c.requires.row_in_bounds placed c.if-book-made.false c.from-parity.ensures)
    (line_full (kind_of c.args.kind) b.base c.args.row b.made c.args.old.now b.cells.now c.requires.row_in_bounds placed c.args.cells c.args.rows c.if-book-made.false c.from-parity.ensures)
    c.assemble.result (rw c.requires.table_value at c.assemble.ensures)
