-- `normals4::tetrahedra::signs` meets its contract. Assumes nothing.
use lib.Ieee.{of_bits}
use Rattle.normals4.proofs.Faces.{from_none}
use Rattle.normals4.proofs.tetrahedra.signs.Goals as goal

pub returns : goal.returns
unfolding of_bits
returns c = rw (c.sign-s.ensures, from_none)
