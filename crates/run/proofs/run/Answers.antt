-- `run::run` meets its contract: a pass a turn (`Lending`). Assumes nothing.
use mathlib.Core.Path.{◌≡◌, sym, ◌∙◌, ap}
use Prim.Native.Nat.{ℕ, ◌<◌}
use native.Mathlib.Omega.{arith}
use Rattle.geom.specs.Answers.{accepted}
use Rattle.geom.specs.Kinds.{kind_of}
use Rattle.run.proofs.Going.{lending_start, lending_goes, done, full}
use Rattle.run.proofs.run.Goals as goal

pub loop-passes-init : goal.loop-passes-init
loop-passes-init c =
    lending_start (kind_of c.args.terms.kind) c.args.terms.time c.args.terms.base c.args.terms.room c.args.terms.cells c.args.depth c.args.s c.args.first.now c.args.second.now c.args.work.now c.requires.held c.requires.lends

pub turn-requires : goal.turn-requires
turn-requires c = record { held = c.loop-passes.invariant.going.at.held; lends = c.loop-passes.invariant.going.at.lends }

-- the count of a pass that is made is below the depth
pub returns-in_default-clause-ran : goal.returns-in_default-clause-ran
returns-in_default-clause-ran c =
    let k : c.loop-passes.passes < c.args.depth = omega arith in
    full _ _ _ _ _ _ _ _ _ _ _ _ _ c.loop-passes.invariant.going k c.turn.ensures.stays _ (rw c.in_default.is at c.turn.ensures.passed) c.stopped.ensures

pub loop-passes-preserved : goal.loop-passes-preserved
loop-passes-preserved c =
    let k : c.loop-passes.passes < c.args.depth = omega arith in
    lending_goes _ _ _ _ _ _ _ _ _ _ c.loop-passes.invariant k c.turn.ensures.same c.turn.ensures.same_2 c.turn.ensures.same_3 c.turn.ensures.stays (rw c.in-Ok.is at c.turn.ensures.passed)

-- and at the end as many are made as the depth says
pub returns-clause-ran : goal.returns-clause-ran
returns-clause-ran c =
    let e : c.loop-passes.passes ≡ c.args.depth = omega arith in
    done _ _ _ _ _ _ _ _ _ _ _ _ _ c.loop-passes.invariant.going (omega arith) _ (c.finished.ensures ∙ ap (λ (n : ℕ). record { passes = n; sizes = c.loop-passes.sizes; verdict = accepted }) (sym e))
