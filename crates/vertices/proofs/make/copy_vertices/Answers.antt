-- `vertices::make::copy_vertices` meets its contract: all words of the vertices stand on the other bench. Assumes nothing.
use Rattle.geom.specs.Floats.{binary32}
use Rattle.vertices.proofs.Making.{laid_copied}
use Rattle.vertices.proofs.make.copy_vertices.Goals as goal

pub returns : goal.returns
returns c = laid_copied binary32 _ _ _ c.requires.stand _ _ _ _ c.requires.stand_2 c.copy.ensures c.copy-2.ensures
