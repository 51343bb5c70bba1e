-- `listing::lines::Text::vertex_lines` meets its contract. The invariant: the texts of the rows so far were added. Assumes nothing.
use Rattle.listing.specs.Text.{vertex_text}
use Rattle.listing.proofs.Texts.{Lining}
use Rattle.listing.proofs.lines.Text.vertex_lines.Given as goal

abbrev pub invariant-loop-i : goal.invariant-loop-i
invariant-loop-i l = Lining (vertex_text l.positions) l.count l.initial.self l.i l.self
