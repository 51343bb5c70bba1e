-- `division::lines::lines` meets its contract: by the table of a line's pieces. Assumes nothing.
use mathlib.Core.Path.{refl}
use Rattle.division.proofs.lines.lines.Goals as goal

pub each_row-requires : goal.each_row-requires
each_row-requires c =
    record { stands = refl; count_in_bounds = c.requires.count_in_bounds; begun = c.requires.begun }
