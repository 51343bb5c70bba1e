-- `listing::lines::Text::point_lines` meets its contract. The invariant: the texts of the rows so far were added. Assumes nothing.
use Rattle.listing.specs.Text.{point_text}
use Rattle.listing.proofs.Texts.{Lining}
use Rattle.listing.proofs.lines.Text.point_lines.Given as goal

abbrev pub invariant-loop-i : goal.invariant-loop-i
invariant-loop-i l = Lining (point_text l.words) l.rows l.initial.self l.i l.self
