-- `normals::cells::put_normal` meets its contract, in each case by that of `put`. Assumes nothing.
use mathlib.Core.Path.{◌∙◌, ap}
use Prim.Native.Nat.{◌*◌}
use lib.Seq.{sets}
use Rattle.std.specs.Prelude.{Some, None}
use Rattle.numbers.specs.Normal.{cells}
use Rattle.normals.proofs.Settling.{written_as}
use Rattle.normals.proofs.cells.put_normal.Goals as goal

pub returns-in-Some : goal.returns-in-Some
unfolding cells
returns-in-Some g c =
    written_as (cells g.V.Cell.words g.V.Cell.origin) c.args.cells.now (g.V.Cell.WIDTH * c.args.i) {case = Some _} c.in-Some.is c.put.ensures

pub returns-in-None : goal.returns-in-None
unfolding cells
returns-in-None g c =
    written_as (cells g.V.Cell.words g.V.Cell.origin) c.args.cells.now (g.V.Cell.WIDTH * c.args.i) {case = None} c.in-None.is
    (c.put-in-None.ensures ∙ ap (λ (p : _). sets c.args.cells.now (g.V.Cell.WIDTH * c.args.i) (g.V.Cell.words p)) c.zero.ensures)
