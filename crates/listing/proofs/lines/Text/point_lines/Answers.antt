-- `listing::lines::Text::point_lines` meets its contract. The invariant: the lines of the points so far were added. Assumes nothing.
use native.Mathlib.Omega.{arith}
use Rattle.judge.proofs.Every.{row_column}
use Rattle.listing.proofs.Parts.{point_line_lem}
use Rattle.listing.proofs.Texts.{lining_start, lining_room, lining_on}
use Rattle.listing.proofs.lines.Text.point_lines.Goals as goal

pub loop-i-init : goal.loop-i-init
loop-i-init c = lining_start _ _ _ c.requires.room

pub line-requires : goal.line-requires
line-requires c = record { column = row_column _ _ _ (omega (arith, c.requires.rows_in_bounds)); column_2 = row_column _ _ _ (omega (arith, c.requires.rows_in_bounds)); room = lining_room _ c.loop-i.invariant c.loop-i-test.true (point_line_lem _ _) }

pub loop-i-preserved : goal.loop-i-preserved
loop-i-preserved c = lining_on _ c.loop-i.invariant c.loop-i-test.true (point_line_lem _ _) c.line.ensures
