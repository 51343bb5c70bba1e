-- `listing::lines::Text::element_lines` meets its contract. The invariant: the lines of the elements so far were added. Assumes nothing.
use native.Mathlib.Omega.{arith}
use Rattle.judge.proofs.Every.{row_end, row_column}
use Rattle.listing.proofs.Parts.{element_line_lem}
use Rattle.listing.proofs.Texts.{lining_start, lining_room, lining_on}
use Rattle.listing.proofs.lines.Text.element_lines.Goals as goal

pub loop-i-init : goal.loop-i-init
loop-i-init c = lining_start _ _ _ c.requires.room

pub line-requires : goal.line-requires
line-requires c =
    let l = row_end _ _ _ _ c.requires.elements c.loop-i-test.true in
    record { column = row_column _ _ _ (omega arith); column_2 = row_column _ _ _ (omega arith); room = lining_room _ c.loop-i.invariant c.loop-i-test.true (element_line_lem _ _ _ _ l) }

pub loop-i-preserved : goal.loop-i-preserved
loop-i-preserved c =
    let l = row_end _ _ _ _ c.requires.elements c.loop-i-test.true in
    lining_on _ c.loop-i.invariant c.loop-i-test.true (element_line_lem _ _ _ _ l) c.line.ensures
