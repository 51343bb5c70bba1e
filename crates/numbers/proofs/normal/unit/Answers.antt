-- `numbers::normal::unit` meets its contract, from those of the dot product, the root and the scaling. Assumes nothing.
use lib.Ieee.{of_bits}
use Rattle.numbers.specs.Normal.{unit}
use Rattle.numbers.proofs.normal.unit.Goals as goal

pub returns : goal.returns
unfolding of_bits unit
returns g c = cc
