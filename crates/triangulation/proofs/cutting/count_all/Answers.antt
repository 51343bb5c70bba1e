-- `triangulation::cutting::count_all` meets its contract: an element a turn (`Counting`). Assumes nothing.
use mathlib.Core.Path.{refl, sym, ◌∙◌, ap}
use lib.ListN.{length}
use Rattle.triangulation.proofs.Turns.{counting_start, counting_on, counting_done}
use Rattle.triangulation.proofs.Pieces.{all_turns, makes_is, one_few, all_few}
use native.Mathlib.Omega.{arith}
use Rattle.triangulation.proofs.cutting.count_all.Goals as goal

pub loop-i-init : goal.loop-i-init
loop-i-init c = counting_start

pub overflow_add-total : goal.overflow_add-total
overflow_add-total c =
    let few = all_few c.args.corners c.args.size c.args.table.now c.args.pieces c.args.old.now c.requires.table.few c.loop-i.invariant in
    let more = one_few c.args.corners c.args.size c.args.table.now c.args.pieces c.args.old.now c.requires.table.few c.loop-i.i in
    let is = ap length (makes_is c.args.corners c.args.size c.args.table.now c.args.pieces c.args.old.now c.loop-i.i refl) in
    omega (arith, few, more, c.kept-total.ensures _ ∙ is, c.loop-i-test.true, c.requires.rows_bound)

pub loop-i-preserved : goal.loop-i-preserved
loop-i-preserved c =
    let is = ap length (makes_is c.args.corners c.args.size c.args.table.now c.args.pieces c.args.old.now c.loop-i.i refl) in
    counting_on c.loop-i.invariant c.loop-i-test.true (c.kept-total.ensures _ ∙ is)

pub returns : goal.returns
returns c =
    counting_done c.loop-i.invariant c.loop-i-test.false ∙ ap length (sym (all_turns c.args.corners c.args.size c.args.table.now c.args.pieces c.args.old.now c.args.rows))
