-- `normals::cells::settle` meets its contract: the sums passed are normalised, and the others still what they were. Assumes nothing.
use Rattle.numbers.specs.Normal.{normalised, cells}
use Rattle.numbers.proofs.Normals.{wide}
use Rattle.normals.proofs.Settling.{Settling}
use Rattle.normals.proofs.cells.settle.Given as goal

abbrev pub invariant-loop-i : goal.invariant-loop-i
invariant-loop-i g l =
    let r = g.met.V.Cell.reads in
    Settling r (cells g.V.Cell.words g.V.Cell.origin) (wide g.V.Cell.words g.V.Cell.origin g.V.Cell.WIDTH r.wide) (normalised g.V.Vector.product g.V.Vector.scaled) l.count l.initial.cells l.cells l.i
