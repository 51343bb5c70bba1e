-- `division::elements::make_middles` meets its contract: an edge a turn (`Middling`). Assumes nothing.
use mathlib.Core.Path.{sym}
use Rattle.std.proofs.Common.{rules}
use Rattle.std.proofs.lemmas.Result.{err_from_is_err_and}
use Rattle.book.proofs.Placing.{kept_still, kept_on, outgrows}
use Rattle.division.proofs.Middles.{middling_start, middling_turn, middling_asks, middling_on, middling_full, middling_done, middled_held}
use native.Mathlib.Omega.{arith}
use Rattle.division.proofs.elements.make_middles.Goals as goal

pub loop-i-init : goal.loop-i-init
loop-i-init c = (middling_start c.requires.edges_value c.requires.edges_in_bounds c.requires.ready, kept_still)

pub point_at-a-requires : goal.point_at-a-requires
point_at-a-requires c =
    let t = middling_turn c.loop-i.invariant.0 c.loop-i-test.true in
    record { at_in_bounds = omega (arith, t.turn); at_in_bounds_2 = t.first }

pub point_at-b-requires : goal.point_at-b-requires
point_at-b-requires c =
    let t = middling_turn c.loop-i.invariant.0 c.loop-i-test.true in
    record { at_in_bounds = omega (arith, t.turn); at_in_bounds_2 = t.second }

pub midpoint-requires : goal.midpoint-requires
midpoint-requires c = rw (c.loop-i.invariant.1.base, c.loop-i.invariant.1.room) c.loop-i.invariant.0.ready

pub returns-in_err-vertex : goal.returns-in_err-vertex
returns-in_err-vertex c =
    let a = middling_asks c.loop-i.invariant.0 c.loop-i-test.true c.point_at-a.ensures c.point_at-b.ensures in
    rw (err_from_is_err_and c.from_residual.result c.from_residual.ensures.1).1
    (middling_full c.loop-i.invariant.0 c.loop-i-test.true a (outgrows (rw (c.loop-i.invariant.1.base, c.loop-i.invariant.1.room, c.in_err-vertex.was) at c.midpoint.ensures.answered)))

pub loop-i-preserved : goal.loop-i-preserved
loop-i-preserved c =
    let a = middling_asks c.loop-i.invariant.0 c.loop-i-test.true c.point_at-a.ensures c.point_at-b.ensures in
    (middling_on c.loop-i.invariant.0 c.loop-i-test.true a (rw (c.loop-i.invariant.1.base, c.loop-i.invariant.1.room, c.in_ok-vertex.was) at c.midpoint.ensures.answered).placed, kept_on c.loop-i.invariant.1 c.midpoint.ensures.kept)

pub returns : goal.returns
returns c =
    let same = sym c.loop-i.invariant.1.same in
    middled_held (middling_done c.loop-i.invariant.0 c.loop-i-test.false) (search (rules, same))
