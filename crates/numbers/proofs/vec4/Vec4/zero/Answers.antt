-- `numbers::vec4::Vec4::zero` meets its contract. Assumes nothing.
use Rattle.std.proofs.Common.{refl}
use lib.Ieee.{of_bits}
use Rattle.numbers.specs.Points4.{origin}
use Rattle.numbers.proofs.vec4.Vec4.zero.Goals as goal

pub returns : goal.returns
unfolding of_bits origin
returns c = refl
