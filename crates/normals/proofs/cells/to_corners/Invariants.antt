-- `normals::cells::to_corners` meets its contract, corner by corner. Assumes nothing.
use lib.ListN.{take}
use Rattle.normals.proofs.Adding.{Spread}
use Rattle.normals.proofs.cells.to_corners.Given as goal

abbrev pub invariant-loop-corner : goal.invariant-loop-corner
invariant-loop-corner g l = Spread g.met.V.Cell.reads g.V.Vector.sum l.n l.count l.initial.sums (take l.corner-index l.corner-items) l.sums
