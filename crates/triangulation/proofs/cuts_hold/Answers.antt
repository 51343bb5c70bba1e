-- `triangulation::cuts_hold` meets its contract. Assumes nothing.
use mathlib.Core.Path.{refl}
use Rattle.triangulation.specs.Entry.{lengths_hold}
use Rattle.triangulation.proofs.cuts_hold.Goals as goal

pub returns : goal.returns
unfolding lengths_hold
returns c = refl
