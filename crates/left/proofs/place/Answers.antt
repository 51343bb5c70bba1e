-- `left::place` meets its contract: the part's bench and its length. Assumes nothing.
use Rattle.left.proofs.Picked.{placed}
use Rattle.left.proofs.place.Goals as goal

pub returns : goal.returns
returns g c = placed _ _ _ _ _ c.left.ensures
