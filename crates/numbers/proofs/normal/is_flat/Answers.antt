-- `numbers::normal::is_flat` meets its contract, from that of the dot product. Assumes nothing.
use lib.Ieee.{of_bits}
use Rattle.numbers.specs.Normal.{flat}
use Rattle.numbers.proofs.normal.is_flat.Goals as goal

pub returns : goal.returns
unfolding flat of_bits
returns g c = cc
