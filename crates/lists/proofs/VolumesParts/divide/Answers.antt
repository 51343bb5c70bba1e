-- `lists::VolumesParts::divide` meets its contract: a cube and a tetrahedron are divided by their shapes. Assumes nothing.
use Rattle.geom.specs.Cubes.{cube}
use Rattle.geom.specs.Simplices.{tetrahedron}
use Rattle.lists.proofs.VolumesParts.divide.Goals as goal

pub returns-in-Cubes-clause-passed : goal.returns-in-Cubes-clause-passed
unfolding cube tetrahedron
returns-in-Cubes-clause-passed c = rw c.in-Cubes.is c.cubes.ensures.passed

pub returns-in-Simplices-clause-passed : goal.returns-in-Simplices-clause-passed
unfolding cube tetrahedron
returns-in-Simplices-clause-passed c = rw c.in-Simplices.is c.tetrahedra.ensures.passed
