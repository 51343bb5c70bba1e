-- `numbers::vec4::Vec4::midpoint` meets its contract, from those of the sum and the product. Assumes nothing.
use lib.Ieee.{of_bits}
use Rattle.numbers.specs.Points4.{midpoint}
use Rattle.numbers.proofs.vec4.Vec4.midpoint.Goals as goal

pub returns : goal.returns
unfolding midpoint of_bits
returns c = cc
