-- `normals::cells::to_corners` meets its contract, corner by corner. Assumes nothing.
use native.Mathlib.Omega.{arith}
use Rattle.std.proofs.lemmas.List.{take_more}
use Rattle.normals.proofs.Adding.{spread_start, spread_on}
use Rattle.normals.proofs.cells.to_corners.Goals as goal

pub loop-corner-init : goal.loop-corner-init
loop-corner-init g c = spread_start g.met.V.Cell.reads _ _ _ _

pub loop-corner-preserved : goal.loop-corner-preserved
loop-corner-preserved g c =
    rw (take_more c.args.corners c.loop-corner.corner-index 0 (omega arith))
    (spread_on g.met.V.Cell.reads _ _ _ _ _ _ _ _ c.loop-corner.invariant (c.requires.below.below _ (omega arith)) (omega arith) c.add_to.ensures)
