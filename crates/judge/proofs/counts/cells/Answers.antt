-- `judge::counts::cells` meets its contract. Assumes nothing.
use Rattle.judge.proofs.Verdicts.{cells_are}
use Rattle.judge.proofs.counts.cells.Goals as goal

pub returns : goal.returns
returns c = cells_are _ _ _ _ _ c.min.ensures c.area_corners.ensures c.volume_corners.ensures
