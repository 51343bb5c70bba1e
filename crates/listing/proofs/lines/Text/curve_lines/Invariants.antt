-- `listing::lines::Text::curve_lines` meets its contract. The invariant: the lines of the curves so far were added, and the next curve starts behind them. Assumes nothing.
use Rattle.std.proofs.Common.{◌≡◌}
use Rattle.division.proofs.Winding.{start_of}
use Rattle.listing.specs.Text.{curve_text}
use Rattle.listing.proofs.Texts.{Lining}
use Rattle.listing.proofs.lines.Text.curve_lines.Given as goal

abbrev pub invariant-loop-i : goal.invariant-loop-i
invariant-loop-i l = record {
  lines : Lining (curve_text l.words l.steps) l.rows l.initial.self l.i l.self;
  start : l.start ≡ start_of l.words l.i;
}
