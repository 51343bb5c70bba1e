-- `reading::judging::figure` meets its contract. Assumes nothing.
use Rattle.reading.proofs.Picks.{picks}
use Rattle.reading.proofs.judging.figure.Goals as goal

pub returns : goal.returns
returns c = rw c.found_by.ensures (picks _ _ c.walk.result c.walk.ensures)
