-- `normals::faces::shade` meets its contract: cleared, gathered, normalised. Assumes nothing.
use Prim.Native.Nat.{ℕ}
use Rattle.numbers.specs.Normal.{normalised, cells}
use Rattle.numbers.proofs.Normals.{wide}
use Rattle.vertices.specs.Cells.{vertices_of, elements_of}
use Rattle.normals.proofs.Settling.{shaded}
use Rattle.normals.proofs.faces.shade.Goals as goal

pub returns : goal.returns
returns g c = λ marks.
    shaded g.met.F.Normal.Cell.reads (cells g.F.Normal.Cell.words g.F.Normal.Cell.origin)
    (wide g.F.Normal.Cell.words g.F.Normal.Cell.origin g.F.Normal.Cell.WIDTH g.met.F.Normal.Cell.reads.wide)
    (normalised g.F.Normal.Vector.product g.F.Normal.Vector.scaled) c.args.count
    (λ (u : ℕ). g.F.Faces.gathered (vertices_of c.args.positions.now marks c.args.count) u (elements_of g.F.Faces.corners c.args.words.now c.args.elements))
    _ _ _ _ (rw c.WIDTH.ensures at c.clear.ensures) (c.gather.ensures marks) c.settle.ensures
