-- `judge::counts::within` meets its contract. Assumes nothing.
use mathlib.Core.Path.{refl}
use Rattle.geom.specs.Refinement.{within}
use Rattle.judge.proofs.counts.within.Goals as goal

pub returns : goal.returns
unfolding within
returns c = refl
