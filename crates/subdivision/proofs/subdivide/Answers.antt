-- `subdivision::subdivide` meets its contract: judged at the door, then run (`Door`). Assumes nothing.
use mathlib.Core.Path.{refl, sym, ◌∙◌, ap}
use Rattle.geom.specs.Answers.{told}
use Rattle.geom.specs.Kinds.{kind_of}
use Rattle.geom.specs.Lent.{desk_of}
use Rattle.geom.proofs.Accepted.{accepted_by}
use Rattle.geom.proofs.Stays.{steady_binary32}
use Rattle.judge.specs.Counts.{cells_of, lengths_of}
use Rattle.subdivision.proofs.Door.{held, lends, runs, refuses}
use Rattle.subdivision.proofs.subdivide.Goals as goal

pub returns-in_default-clause-refines : goal.returns-in_default-clause-refines
unfolding told
returns-in_default-clause-refines c =
    let d = desk_of c.args.first.now c.args.second.now c.args.work.now in
    let j = c.judge-ended.ensures d (sym c.read-bench.ensures) (record { bench = sym (c.of-others.ensures ∙ ap lengths_of c.read.ensures); sum = refl; tally = refl }) in
    refuses steady_binary32 (kind_of c.args.kind) c.args.sizes d c.args.smooth_time c.args.depth _ j c.in_default.is refl

pub run-requires : goal.run-requires
run-requires c =
    let d = desk_of c.args.first.now c.args.second.now c.args.work.now in
    let j = c.judge-ended.ensures d (sym c.read-bench.ensures) (record { bench = sym (c.of-others.ensures ∙ ap lengths_of c.read.ensures); sum = refl; tally = refl }) in
    let e = accepted_by j c.in-Ok.is in
    let lent = c.cells-lent.ensures ∙ ap (cells_of (kind_of c.args.kind)) (c.of-lengths.ensures ∙ ap lengths_of c.read-bench.ensures) in
    record {
      held = held (kind_of c.args.kind) c.args.sizes d c.args.smooth_time e;
      lends = lends (kind_of c.args.kind) c.args.sizes d c.args.smooth_time e lent c.caps.ensures c.room_for.ensures;
    }

pub returns-clause-refines : goal.returns-clause-refines
returns-clause-refines c =
    let d = desk_of c.args.first.now c.args.second.now c.args.work.now in
    let j = c.judge-ended.ensures d (sym c.read-bench.ensures) (record { bench = sym (c.of-others.ensures ∙ ap lengths_of c.read.ensures); sum = refl; tally = refl }) in
    let e = accepted_by j c.in-Ok.is in
    runs (kind_of c.args.kind) c.args.sizes d c.args.smooth_time e steady_binary32 c.args.depth _ _ c.run.ensures.ran
