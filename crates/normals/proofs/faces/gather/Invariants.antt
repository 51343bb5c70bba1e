-- `normals::faces::gather` meets its contract: each vertex has what the elements passed give it. Assumes nothing.
use Rattle.normals.proofs.Adding.{Gathering}
use Rattle.normals.proofs.faces.gather.Given as goal

abbrev pub invariant-loop-i : goal.invariant-loop-i
invariant-loop-i g l = Gathering g.met.F.Faces.folds g.F.Normal.Cell.in_row g.F.Normal.Cell.WIDTH g.F.Faces.corners l.positions l.words l.elements l.count l.initial.sums l.sums l.i
