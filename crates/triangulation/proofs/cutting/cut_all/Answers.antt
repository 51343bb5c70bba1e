-- `triangulation::cutting::cut_all` meets its contract: an element a turn (`Writing`). Assumes nothing.
use Rattle.triangulation.proofs.Turns.{writing_room, writing_on}
use Rattle.triangulation.proofs.Pieces.{element_makes, all_start, all_done, makes_is}
use Rattle.triangulation.proofs.cutting.cut_all.Goals as goal

pub loop-i-init : goal.loop-i-init
loop-i-init c =
    all_start c.args.corners c.args.size c.args.table.now c.args.pieces c.args.old.now c.args.rows c.args.new.now c.requires.rows_in_bounds_2

pub write_one-filled-requires-clause-points_in_bounds : goal.write_one-filled-requires-clause-points_in_bounds
write_one-filled-requires-clause-points_in_bounds c =
    let is = makes_is c.args.corners c.args.size c.args.table.now c.args.pieces c.args.old.now c.loop-i.i c.from-parity.ensures in
    rw is (writing_room c.args.size 0 (element_makes c.args.corners c.args.size c.args.table.now c.args.pieces c.args.old.now) c.args.rows c.args.new.now c.loop-i.invariant c.loop-i-test.true)

pub loop-i-preserved : goal.loop-i-preserved
loop-i-preserved c =
    let is = makes_is c.args.corners c.args.size c.args.table.now c.args.pieces c.args.old.now c.loop-i.i c.from-parity.ensures in
    writing_on c.args.size 0 (element_makes c.args.corners c.args.size c.args.table.now c.args.pieces c.args.old.now) c.args.rows c.args.new.now c.loop-i.invariant c.loop-i-test.true
    (rw is at c.write_one-filled.ensures)

pub returns : goal.returns
returns c =
    all_done c.args.corners c.args.size c.args.table.now c.args.pieces c.args.old.now c.args.rows c.args.new.now c.loop-i.invariant c.loop-i-test.false
