-- `division::elements::keep` meets its contract: a flat piece is left out, another has a row. Assumes nothing.
use mathlib.Core.Path.{refl, sym, ◌∙◌, ap}
use lib.ListN.{length}
use Rattle.geom.specs.Memory.{parity_word}
use Rattle.division.proofs.Assembling.{row_room, kept_flat, kept_full, kept_laid}
use native.Mathlib.Omega.{arith}
use Rattle.division.proofs.elements.keep.Goals as goal

pub returns-then-flat : goal.returns-then-flat
returns-then-flat c =
    kept_flat c.args.corners c.args.parity c.args.points.now c.args.table.now c.args.axes.now c.args.from (sym c.if-flat.true ∙ c.flat.ensures) c.requires.rows_le_cells c.requires.cells_in_bounds

pub returns-then-rows-cells : goal.returns-then-rows-cells
returns-then-rows-cells c =
    kept_full c.args.corners c.args.parity c.args.points.now c.args.table.now c.args.axes.now c.args.from (sym c.if-flat.false ∙ c.flat.ensures) c.if-rows-cells.true

pub piece-requires : goal.piece-requires
piece-requires c =
    let room = row_room c.args.corners c.args.rows c.args.cells (length c.args.new.now) (omega (arith, c.requires.rows_le_cells, c.if-rows-cells.false)) c.requires.cells_in_bounds in
    record { table_value = c.requires.tabled.places; count_in_bounds = omega (arith, c.requires.corners_in_bounds); count_in_bounds_2 = omega (arith, room) }

pub returns : goal.returns
returns c =
    kept_laid c.args.corners c.args.parity c.args.points.now c.args.table.now c.args.axes.now c.args.from (sym c.if-flat.false ∙ c.flat.ensures)
    (omega (arith, c.requires.rows_le_cells, c.if-rows-cells.false)) c.requires.cells_in_bounds c.requires.corners_in_bounds refl c.piece.ensures
    (c.from-word.ensures ∙ ap parity_word c.turned.ensures)
