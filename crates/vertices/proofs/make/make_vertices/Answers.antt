-- `vertices::make::make_vertices` meets its contract: the vertices of the entries passed stand behind the old ones. Assumes nothing.
use native.Mathlib.Omega.{arith}
use mathlib.Core.Path.{refl}
use Rattle.geom.specs.Floats.{binary32}
use Rattle.vertices.proofs.Making.{laid_start, laid_more, new_vertices, laid_all}
use Rattle.vertices.proofs.make.make_vertices.Goals as goal

pub loop-e-init : goal.loop-e-init
loop-e-init c = laid_start binary32 _ _ _ _

pub loop-e-preserved : goal.loop-e-preserved
loop-e-preserved c = laid_more binary32 _ _ _ _ _ _ _ _ _ _ _ c.loop-e.invariant refl c.pair_vertex-v.ensures c.put_vertex.ensures

pub returns : goal.returns
returns c = laid_all binary32 _ _ _ _ _ _ _ _ _ (omega arith) c.loop-e.invariant (new_vertices binary32 _ _ _ _)
