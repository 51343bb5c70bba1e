-- `numbers::root::not_a_number` meets its contract. Assumes nothing.
use Rattle.std.proofs.Common.{refl}
use lib.Ieee.{of_bits, div}
use Rattle.numbers.proofs.root.not_a_number.Goals as goal

pub returns : goal.returns
unfolding div of_bits
returns c = refl
