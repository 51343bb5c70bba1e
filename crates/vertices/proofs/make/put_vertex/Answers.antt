-- `vertices::make::put_vertex` meets its contract. Assumes nothing.
use Rattle.geom.specs.Floats.{binary32}
use Rattle.vertices.proofs.Making.{laid_one}
use Rattle.vertices.proofs.make.put_vertex.Goals as goal

pub returns : goal.returns
returns c = laid_one binary32 _ _ _ _ _ _ c.put_point.ensures c.put_marks.ensures
