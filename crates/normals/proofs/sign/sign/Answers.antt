-- `normals::sign::sign` meets its contract. Assumes nothing.
use mathlib.Core.Path.{ap, ◌∙◌}
use lib.IntN.{ℤ}
use lib.Ieee.{binary32, of_bits, of_int}
use Rattle.numbers.specs.Binary32.{◌⊖◌, ◌⊗◌, one, count}
use Rattle.normals.proofs.Cast.{word_signed, word_sign}
use Rattle.normals.proofs.sign.sign.Goals as goal

pub returns : goal.returns
unfolding of_bits of_int
returns c =
    ap (λ (z : ℤ). one ⊖ count 2 ⊗ of_int binary32 z) (word_signed c.args.parity c.requires) ∙ word_sign c.args.parity c.requires
