-- `listing::lines::Text::position` meets its contract. The invariant: the texts of the rows so far were added. Assumes nothing.
use Rattle.listing.specs.Text.{coordinate_text}
use Rattle.listing.proofs.Texts.{Lining}
use Rattle.listing.proofs.lines.Text.position.Given as goal

abbrev pub invariant-loop-i : goal.invariant-loop-i
invariant-loop-i l = Lining (coordinate_text l.positions l.from) 4 l.initial.self l.i l.self
