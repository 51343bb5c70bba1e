-- `division::curves::thread` meets its contract: a step a turn (`Threading`). Assumes nothing.
use Rattle.std.proofs.lemmas.Result.{err_from_is_err_and}
use mathlib.Core.Path.{refl, ◌∙◌}
use Rattle.geom.specs.Kinds.{kind_of}
use Rattle.book.specs.Answers.{pairs_in}
use Rattle.book.proofs.Placing.{outgrows}
use Rattle.book.proofs.Placing.{kept_still, kept_on}
use Rattle.division.proofs.Threading.{threading_start, threading_on, threading_full, threading_done}
use native.Mathlib.Omega.{arith}
use Rattle.division.proofs.curves.thread.Goals as goal

pub loop-i-init : goal.loop-i-init
loop-i-init c = (
  threading_start (kind_of c.args.kind) c.args.book.now.base c.args.book.now.room c.args.from c.args.rows c.args.steps c.args.old.now (pairs_in c.args.book.now)
      refl c.requires.steps_in_bounds_2 c.requires.ready,
  kept_still,
)

pub between-requires : goal.between-requires
between-requires c = rw (c.loop-i.invariant.1.base, c.loop-i.invariant.1.room) c.loop-i.invariant.0.ready

pub returns-in_err-vertex-clause-threaded : goal.returns-in_err-vertex-clause-threaded
returns-in_err-vertex-clause-threaded c =
    rw (err_from_is_err_and c.from_residual.result c.from_residual.ensures.1).1
    (threading_full (kind_of c.args.kind) c.args.book.now.base c.args.book.now.room c.args.from c.args.rows c.args.steps c.args.old.now (pairs_in c.args.book.now)
    c.loop-i.invariant.0 c.from-parity.result
    c.from-parity.ensures
    c.loop-i-test.true (outgrows (rw (c.loop-i.invariant.1.base, c.loop-i.invariant.1.room, c.in_err-vertex.was) at c.between.ensures.asked)))

pub put-requires : goal.put-requires
put-requires c =
    omega (arith, c.loop-i-test.true, c.requires.steps_in_bounds_2, c.loop-i.invariant.0.long, c.well_formed)

pub put-requires-in-loop-i : goal.put-requires-in-loop-i
put-requires-in-loop-i c =
    omega (arith, c.loop-i-test.true, c.requires.steps_in_bounds_2, c.loop-i.invariant.0.long, c.put.auto.new)

pub loop-i-preserved : goal.loop-i-preserved
loop-i-preserved c = (
  threading_on (kind_of c.args.kind) c.args.book.now.base c.args.book.now.room c.args.from c.args.rows c.args.steps c.args.old.now (pairs_in c.args.book.now)
      c.loop-i.invariant.0 c.from-parity.ensures
      c.loop-i-test.true c.from-word.ensures
      (rw (c.loop-i.invariant.1.base, c.loop-i.invariant.1.room, c.in_ok-vertex.was) at c.between.ensures.asked).placed
      c.put.ensures c.put-in-loop-i.ensures
      (c.put-in-loop-i.auto.new ∙ c.put.auto.new)
      c.between.ensures.kept.cells,
  kept_on c.loop-i.invariant.1 c.between.ensures.kept,
)

pub returns-clause-threaded : goal.returns-clause-threaded
returns-clause-threaded c =
    threading_done (kind_of c.args.kind) c.args.book.now.base c.args.book.now.room c.args.from c.args.rows c.args.steps c.args.old.now (pairs_in c.args.book.now) c.loop-i.invariant.0 c.loop-i-test.false
