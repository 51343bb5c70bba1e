-- `division::elements::shut` meets its contract: an edge a turn (`Shutting`). Assumes nothing.
use mathlib.Core.Path.{◌∙◌}
use Prim.Native.Nat.{◌/◌}
use lib.ListN.{length}
use Rattle.division.proofs.Tables.{below_at}
use Rattle.division.proofs.Flats.{corner_at, shut_turn, shutting_start, shutting_on, shutting_open, shutting_done}
use native.Mathlib.Omega.{arith}
use borrow.Author.Tests.{eq-eqb, ne_eqb}
use Rattle.division.proofs.elements.shut.Goals as goal
use Rattle.division.proofs.elements.shut.Goals.{else-loop-i-test, then-loop-i-test+then-a-b}

pub loop-i-init : goal.loop-i-init
loop-i-init c = shutting_start

pub point_at-a-requires : goal.point_at-a-requires
point_at-a-requires c =
    let t = (shut_turn _ _ _ _ _ _ c.requires.tabled.along c.requires.corners_in_bounds c.requires.corners_in_bounds_2 c.loop-i-test.true) in
    record { at_in_bounds = t.near; at_in_bounds_2 = below_at (length c.args.points.now) c.args.table.now c.requires.tabled.places _ t.near }

pub point_at-b-requires : goal.point_at-b-requires
point_at-b-requires c =
    let t = (shut_turn _ _ _ _ _ _ c.requires.tabled.along c.requires.corners_in_bounds c.requires.corners_in_bounds_2 c.loop-i-test.true) in
    record { at_in_bounds = t.far; at_in_bounds_2 = below_at (length c.args.points.now) c.args.table.now c.requires.tabled.places _ t.far }

pub overflow_add-from : goal.overflow_add-from
overflow_add-from c = omega (arith, (shut_turn _ _ _ _ _ _ c.requires.tabled.along c.requires.corners_in_bounds c.requires.corners_in_bounds_2 c.loop-i-test.true), c.well_formed)

pub overflow_add-from-in-loop-i : goal.overflow_add-from-in-loop-i
overflow_add-from-in-loop-i c = omega (arith, (shut_turn _ _ _ _ _ _ c.requires.tabled.along c.requires.corners_in_bounds c.requires.corners_in_bounds_2 c.loop-i-test.true), c.well_formed)

pub loop-i-preserved : goal.loop-i-preserved
loop-i-preserved c =
    let t = (shut_turn _ _ _ _ _ _ c.requires.tabled.along c.requires.corners_in_bounds c.requires.corners_in_bounds_2 c.loop-i-test.true) in
    let a = c.point_at-a.ensures ∙ corner_at c.args.points.now c.args.table.now c.args.from c.args.corners _ t.row t.first in
    let b = c.point_at-b.ensures ∙ corner_at c.args.points.now c.args.table.now c.args.from c.args.corners _ t.row t.second in
    shutting_on c.loop-i.invariant t.turn a b c.if-a-b.false

-- the test after the loop: all edges were closed, or the loop was left at one that was not
pub returns : goal.returns
returns c =
    let s = c.args in
    let g = c.loop-i.invariant in
    elim c.loop-i-test.branch [
      | else-loop-i-test w ↦
          eq-eqb c.loop-i.i (s.corners / 2) (omega (arith, g.within, w.loop-i-test.false)) ∙ shutting_done g w.loop-i-test.false
      | then-loop-i-test+then-a-b w ↦
          let t = shut_turn _ _ _ _ _ _ c.requires.tabled.along c.requires.corners_in_bounds c.requires.corners_in_bounds_2 w.loop-i-test.true in
          let a = w.point_at-a.ensures ∙ corner_at s.points.now s.table.now s.from s.corners _ t.row t.first in
          let b = w.point_at-b.ensures ∙ corner_at s.points.now s.table.now s.from s.corners _ t.row t.second in
          ne_eqb c.loop-i.i (s.corners / 2) (λ e. omega (arith, t.turn)) ∙ shutting_open g t.turn a b w.if-a-b.true
    ]
