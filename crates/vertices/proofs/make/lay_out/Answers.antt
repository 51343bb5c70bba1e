-- `vertices::make::lay_out` meets its contract: the old vertices, and behind them the new ones. Assumes nothing.
use Rattle.geom.specs.Floats.{binary32}
use Rattle.vertices.proofs.Making.{laid_out}
use Rattle.vertices.proofs.make.lay_out.Goals as goal

pub returns : goal.returns
returns c = laid_out binary32 _ _ _ _ _ _ _ _ _ _ _ c.requires.stand_2 c.copy_vertices.ensures c.make_vertices.ensures
