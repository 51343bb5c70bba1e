-- `triangulation::cutting::meets` meets its contract: a pair of neighbours a turn (`Meeting`). Assumes nothing.
use mathlib.Core.Path.{◌∙◌}
use lib.ListN.{length}
use Rattle.division.proofs.Tables.{below_at}
use Rattle.division.proofs.Flats.{corner_at}
use Rattle.triangulation.proofs.Meeting.{corner_first, meeting_start, meeting_found, meeting_on, meeting_done}
use native.Mathlib.Omega.{arith}
use Rattle.triangulation.proofs.cutting.meets.Goals as goal

pub point_at-last-requires-clause-at_in_bounds_2 : goal.point_at-last-requires-clause-at_in_bounds_2
point_at-last-requires-clause-at_in_bounds_2 c =
    below_at (length c.args.points.now) c.args.table.now c.requires.speaks.places _ (omega (arith, c.requires.size_in_bounds))

pub loop-i-init : goal.loop-i-init
loop-i-init c =
    meeting_start (c.point_at-last.ensures ∙ corner_first c.args.points.now c.args.table.now c.args.from c.args.size c.requires.size_in_bounds c.requires.speaks.some)

pub point_at-next-requires-clause-at_in_bounds_2 : goal.point_at-next-requires-clause-at_in_bounds_2
point_at-next-requires-clause-at_in_bounds_2 c =
    below_at (length c.args.points.now) c.args.table.now c.requires.speaks.places _ (omega (arith, c.requires.size_in_bounds))

pub returns-then-last-next : goal.returns-then-last-next
returns-then-last-next c =
    let e = c.point_at-next.ensures ∙ corner_at c.args.points.now c.args.table.now c.args.from c.args.size _ c.requires.size_in_bounds (omega arith) in
    meeting_found c.loop-i.invariant c.loop-i-test.true e c.if-last-next.true

pub loop-i-preserved : goal.loop-i-preserved
loop-i-preserved c =
    let e = c.point_at-next.ensures ∙ corner_at c.args.points.now c.args.table.now c.args.from c.args.size _ c.requires.size_in_bounds (omega arith) in
    meeting_on c.loop-i.invariant c.loop-i-test.true e c.if-last-next.false

pub returns : goal.returns
returns c = meeting_done c.loop-i.invariant c.loop-i-test.false
