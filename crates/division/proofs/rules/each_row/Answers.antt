-- `division::rules::each_row` meets its contract: a row a turn (`Listing`). Assumes nothing.
use Rattle.std.proofs.lemmas.Result.{err_from_is_err_and}
use mathlib.Core.Path.{refl}
use Rattle.book.specs.Answers.{pairs_in}
use Rattle.book.proofs.Placing.{kept_still, kept_on}
use Rattle.division.proofs.Listing.{listing_start, listing_on, listing_full, listing_done}
use native.Mathlib.Omega.{arith}
use native.Mathlib.Nat.{mul-le-mul_left, le_trans}
use Prim.Native.Nat.{suc, ◌≤◌}
use Rattle.division.proofs.rules.each_row.Goals as goal

pub loop-i-init : goal.loop-i-init
loop-i-init g c = (
  listing_start g.R.RowRule.corners c.args.book.now.base c.args.book.now.room c.args.cells (g.R.RowRule.makes c.args.rule.now c.args.book.now.base) (pairs_in c.args.book.now) c.args.old.now
      c.args.count refl c.requires.begun,
  kept_still,
)

pub divide-requires : goal.divide-requires
divide-requires g c =
    let next : suc c.loop-i.i ≤ c.args.count = omega (arith, c.loop-i-test.true) in
    record { stands = c.requires.stands; row_in_bounds = le_trans (mul-le-mul_left (suc g.R.RowRule.corners) next) c.requires.count_in_bounds; begun = rw (c.loop-i.invariant.1.base, c.loop-i.invariant.1.room) c.loop-i.invariant.0.begun }

pub returns-in_err-rows-clause-passed : goal.returns-in_err-rows-clause-passed
returns-in_err-rows-clause-passed g c =
    rw (err_from_is_err_and c.from_residual.result c.from_residual.ensures.1).1
    (listing_full g.R.RowRule.corners c.args.book.now.base c.args.book.now.room c.args.cells (g.R.RowRule.makes c.args.rule.now c.args.book.now.base) (pairs_in c.args.book.now) c.args.old.now
    c.loop-i.invariant.0 (g.met.R.RowRule.grows c.args.rule.now c.args.book.now.base) c.loop-i-test.true
    (rw (c.loop-i.invariant.1.base, c.loop-i.invariant.1.room, c.in_err-rows.was) at c.divide.ensures.extended))

pub loop-i-preserved : goal.loop-i-preserved
loop-i-preserved g c = (
  listing_on g.R.RowRule.corners c.args.book.now.base c.args.book.now.room c.args.cells (g.R.RowRule.makes c.args.rule.now c.args.book.now.base) (pairs_in c.args.book.now) c.args.old.now
      c.loop-i.invariant.0 c.loop-i-test.true
      c.divide.auto.new
      c.divide.ensures.kept.cells
      (rw (c.loop-i.invariant.1.base, c.loop-i.invariant.1.room, c.in_ok-rows.was) at c.divide.ensures.extended),
  kept_on c.loop-i.invariant.1 c.divide.ensures.kept,
)

pub returns-clause-passed : goal.returns-clause-passed
returns-clause-passed g c =
    listing_done g.R.RowRule.corners c.args.book.now.base c.args.book.now.room c.args.cells (g.R.RowRule.makes c.args.rule.now c.args.book.now.base) (pairs_in c.args.book.now) c.args.old.now
    c.loop-i.invariant.0 c.loop-i-test.false
