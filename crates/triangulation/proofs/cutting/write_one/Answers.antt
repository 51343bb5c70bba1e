-- `triangulation::cutting::write_one` meets its contract: a row of the table a turn (`Writing`). Assumes nothing.
use Rattle.triangulation.proofs.Turns.{writing_start, writing_room, writing_on, writing_done}
use Rattle.triangulation.proofs.Pieces.{row_makes, cut_turns}
use Rattle.triangulation.proofs.cutting.write_one.Goals as goal

pub loop-j-init : goal.loop-j-init
loop-j-init c =
    writing_start c.args.size c.args.rows (row_makes c.args.size c.args.table.now c.args.parity c.args.points.now) c.args.pieces c.args.new.now
    (rw (cut_turns c.args.size c.args.table.now c.args.parity c.args.points.now c.args.pieces) at c.requires.points_in_bounds)

pub place-filled-requires-clause-points_in_bounds : goal.place-filled-requires-clause-points_in_bounds
place-filled-requires-clause-points_in_bounds c =
    writing_room c.args.size c.args.rows (row_makes c.args.size c.args.table.now c.args.parity c.args.points.now) c.args.pieces c.args.new.now c.loop-j.invariant c.loop-j-test.true

pub loop-j-preserved : goal.loop-j-preserved
loop-j-preserved c =
    writing_on c.args.size c.args.rows (row_makes c.args.size c.args.table.now c.args.parity c.args.points.now) c.args.pieces c.args.new.now c.loop-j.invariant c.loop-j-test.true
    c.place-filled.ensures

pub returns : goal.returns
returns c =
    rw (cut_turns c.args.size c.args.table.now c.args.parity c.args.points.now c.args.pieces)
    (writing_done c.args.size c.args.rows (row_makes c.args.size c.args.table.now c.args.parity c.args.points.now) c.args.pieces c.args.new.now c.loop-j.invariant c.loop-j-test.false)
