-- `told::normal::normalise_3d` meets its contract, from that of `normalise_first`. Assumes nothing.
use lib.Ieee.{of_bits}
use Rattle.numbers.specs.Normal.{cells3, normalised3}
use Rattle.told.proofs.Directions.{left_by3}
use Rattle.told.proofs.normal.normalise_3d.Goals as goal

pub returns : goal.returns
unfolding cells3 normalised3 of_bits
returns c = left_by3 c.told-v c.normalise_first.ensures.cells c.normalise_first.ensures.direction
