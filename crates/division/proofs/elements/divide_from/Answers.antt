-- `division::elements::divide_from` meets its contract: an element a turn (`Ranging`). Assumes nothing.
use Rattle.std.proofs.lemmas.Result.{err_from_is_err_and}
use mathlib.Core.Path.{refl}
use Prim.Native.Nat.{ℕ, suc, ◌+◌, ◌≤◌}
use native.Mathlib.Omega.{arith}
use native.Mathlib.Nat.{mul-le-mul_left, le_trans}
use Rattle.geom.specs.Kinds.{kind_of}
use Rattle.geom.specs.Memory.{element_row}
use Rattle.geom.specs.Rules.{divide}
use Rattle.book.specs.Answers.{pairs_in}
use Rattle.division.specs.Shapes.{shape_of}
use Rattle.book.proofs.Placing.{kept_still, kept_on}
use Rattle.division.proofs.Divided.{divide_grows}
use Rattle.division.proofs.Listing.{ranging_start, ranging_on, ranging_full, ranging_done}
use Rattle.division.proofs.elements.divide_from.Goals as goal

pub loop-i-init : goal.loop-i-init
loop-i-init c = (
  ranging_start c.args.corners c.args.book.now.base c.args.book.now.room c.args.cells c.args.start
      (divide (kind_of c.args.kind) (shape_of c.args.corners c.args.edges.now c.args.order.now c.args.table.now c.args.axes.now) c.args.book.now.base) (pairs_in c.args.book.now)
      (λ (i : ℕ). element_row c.args.corners c.args.old.now (c.args.first + i)) c.args.count refl c.requires.begun,
  kept_still,
)

pub divide-requires : goal.divide-requires
divide-requires c =
    let next : suc (c.args.first + c.loop-i.i) ≤ c.args.first + c.args.count = omega (arith, c.loop-i-test.true) in
    record { shaped = c.requires.shaped; row_in_bounds = le_trans (mul-le-mul_left (suc c.args.corners) next) c.requires.count_in_bounds; begun = rw (c.loop-i.invariant.1.base, c.loop-i.invariant.1.room) c.loop-i.invariant.0.begun }

pub returns-in_err-rows-clause-extended : goal.returns-in_err-rows-clause-extended
returns-in_err-rows-clause-extended c =
    rw (err_from_is_err_and c.from_residual.result c.from_residual.ensures.1).1
    (ranging_full c.args.corners c.args.book.now.base c.args.book.now.room c.args.cells c.args.start
    (divide (kind_of c.args.kind) (shape_of c.args.corners c.args.edges.now c.args.order.now c.args.table.now c.args.axes.now) c.args.book.now.base) (pairs_in c.args.book.now)
    (λ (i : ℕ). element_row c.args.corners c.args.old.now (c.args.first + i)) c.loop-i.invariant.0 (divide_grows (kind_of c.args.kind) c.args.corners c.args.book.now.base c.args.edges.now c.args.order.now c.args.table.now c.args.axes.now)
    c.loop-i-test.true
    (rw (c.loop-i.invariant.1.base, c.loop-i.invariant.1.room, c.in_err-rows.was) at c.divide.ensures.extended))

pub loop-i-preserved : goal.loop-i-preserved
loop-i-preserved c = (
  ranging_on c.args.corners c.args.book.now.base c.args.book.now.room c.args.cells c.args.start
      (divide (kind_of c.args.kind) (shape_of c.args.corners c.args.edges.now c.args.order.now c.args.table.now c.args.axes.now) c.args.book.now.base) (pairs_in c.args.book.now)
      (λ (i : ℕ). element_row c.args.corners c.args.old.now (c.args.first + i)) c.loop-i.invariant.0 c.loop-i-test.true
      c.divide.auto.new
      c.divide.ensures.kept.cells
      (rw (c.loop-i.invariant.1.base, c.loop-i.invariant.1.room, c.in_ok-rows.was) at c.divide.ensures.extended),
  kept_on c.loop-i.invariant.1 c.divide.ensures.kept,
)

pub returns-clause-extended : goal.returns-clause-extended
returns-clause-extended c =
    ranging_done c.args.corners c.args.book.now.base c.args.book.now.room c.args.cells c.args.start
    (divide (kind_of c.args.kind) (shape_of c.args.corners c.args.edges.now c.args.order.now c.args.table.now c.args.axes.now) c.args.book.now.base) (pairs_in c.args.book.now)
    (λ (i : ℕ). element_row c.args.corners c.args.old.now (c.args.first + i)) c.loop-i.invariant.0 c.loop-i-test.false
