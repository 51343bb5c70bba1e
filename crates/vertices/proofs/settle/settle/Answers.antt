-- `vertices::settle::settle` meets its contract: the vertices passed are settled, and the others still hold what they held. Assumes nothing.
use native.Mathlib.Omega.{arith}
use mathlib.Core.Path.{refl}
use Rattle.vertices.specs.Cells.{gathered_row_in}
use Rattle.geom.specs.Floats.{binary32}
use Rattle.vertices.proofs.Settling.{settling_start, settling_on, settling_done}
use Rattle.vertices.proofs.settle.settle.Goals as goal

pub loop-i-init : goal.loop-i-init
loop-i-init c = settling_start binary32 _ _ _ _ _

pub settled_point-p-requires : goal.settled_point-p-requires
unfolding gathered_row_in
settled_point-p-requires c = c.requires.by_index _ c.loop-i-test.true

pub loop-i-preserved : goal.loop-i-preserved
loop-i-preserved c = settling_on binary32 _ _ _ _ _ _ _ c.loop-i.invariant _ _ _ _ _ c.vertex_at-v.ensures c.sum-sum.ensures refl c.settled_point-p.ensures c.put_point.ensures

pub returns : goal.returns
returns c = settling_done binary32 _ _ _ _ _ _ _ c.loop-i.invariant c.args.count (omega arith) c.requires.stand.points
