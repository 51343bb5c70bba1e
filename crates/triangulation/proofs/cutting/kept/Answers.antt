-- `triangulation::cutting::kept` meets its contract: a row of the table a turn (`Counting`). Assumes nothing.
use mathlib.Core.Path.{sym, ◌∙◌, ap}
use Prim.Native.Nat.{◌+◌, ◌*◌}
use lib.ListN.{length}
use Rattle.geom.specs.declared.parity.Parity.TheVariants.{Even}
use Rattle.triangulation.proofs.Turns.{counting_start, counting_on, counting_done}
use Rattle.triangulation.proofs.Pieces.{from_few, cut_turns, counted_few}
use native.Mathlib.Omega.{arith}
use Rattle.triangulation.proofs.cutting.kept.Goals as goal

pub loop-j-init : goal.loop-j-init
loop-j-init c = λ p. counting_start

pub overflow_add-kept : goal.overflow_add-kept
overflow_add-kept c =
    omega (
      arith,
      counted_few c.args.size c.args.table.now Even c.args.points.now (c.loop-j.invariant Even),
      c.one-kept.ensures Even,
      from_few c.args.size c.args.table.now ((c.args.size + 1) * c.loop-j.j) Even c.args.points.now,
      c.loop-j-test.true,
      c.requires.few,
    )

pub loop-j-preserved : goal.loop-j-preserved
loop-j-preserved c = λ p. counting_on (c.loop-j.invariant p) c.loop-j-test.true (c.one-kept.ensures p)

pub returns : goal.returns
returns c =
    λ p. counting_done (c.loop-j.invariant p) c.loop-j-test.false ∙ ap length (sym (cut_turns c.args.size c.args.table.now p c.args.points.now c.args.pieces))
