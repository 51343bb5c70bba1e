-- `told::normal::normalise_4d` meets its contract, from that of `normalise_first`. Assumes nothing.
use lib.Ieee.{of_bits}
use Rattle.numbers.specs.Normal.{cells4, normalised4}
use Rattle.numbers.specs.Points4.{origin}
use Rattle.told.proofs.Directions.{left_by4}
use Rattle.told.proofs.normal.normalise_4d.Goals as goal

pub returns : goal.returns
unfolding cells4 normalised4 origin of_bits
returns c = left_by4 c.told-v c.normalise_first.ensures.cells c.normalise_first.ensures.direction
