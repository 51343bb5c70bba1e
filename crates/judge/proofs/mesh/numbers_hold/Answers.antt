-- `judge::mesh::numbers_hold` meets its contract, list by list. Assumes nothing.
use Rattle.geom.specs.Forms.{form}
use mathlib.Core.Path.{refl, sym, ◌∙◌}
use Rattle.geom.specs.Memory.{rows_of}
use Rattle.geom.specs.Kinds.{kind_of}
use Rattle.judge.specs.Judged.{bench_in}
use Rattle.judge.proofs.Verdicts.{corners_at, elements_at_lem, numbers_are}
use Rattle.judge.proofs.mesh.numbers_hold.Goals as goal

pub returns-then-not-points_hold : goal.returns-then-not-points_hold
unfolding rows_of
returns-then-not-points_hold c = λ n positions marks curves. numbers_are (rows_of (kind_of c.args.kind) c.args.sizes (bench_in (form n) positions marks c.args.bench.now.points.now c.args.bench.now.lines.now c.args.bench.now.areas.now c.args.bench.now.volumes.now curves c.args.bench.now.steps.now)) c.args.sizes.vertices _ _ _ _ _ (sym (c.if-not-points_hold.true) ∙ c.points_hold.ensures) refl refl refl refl

pub returns-then-not-corners_hold : goal.returns-then-not-corners_hold
unfolding rows_of
returns-then-not-corners_hold c = λ n positions marks curves. numbers_are (rows_of (kind_of c.args.kind) c.args.sizes (bench_in (form n) positions marks c.args.bench.now.points.now c.args.bench.now.lines.now c.args.bench.now.areas.now c.args.bench.now.volumes.now curves c.args.bench.now.steps.now)) c.args.sizes.vertices _ _ _ _ _ (sym (c.if-not-points_hold.false) ∙ c.points_hold.ensures) (sym (c.if-not-corners_hold.true) ∙ c.corners_hold.ensures) refl refl refl

pub corners_hold-requires-2 : goal.corners_hold-requires-2
corners_hold-requires-2 c = elements_at_lem _ _ _ _ c.area_corners.ensures c.requires.listed.area

pub returns-then-not-corners_hold-2 : goal.returns-then-not-corners_hold-2
unfolding rows_of
returns-then-not-corners_hold-2 c = λ n positions marks curves. numbers_are (rows_of (kind_of c.args.kind) c.args.sizes (bench_in (form n) positions marks c.args.bench.now.points.now c.args.bench.now.lines.now c.args.bench.now.areas.now c.args.bench.now.volumes.now curves c.args.bench.now.steps.now)) c.args.sizes.vertices _ _ _ _ _ (sym (c.if-not-points_hold.false) ∙ c.points_hold.ensures) (sym (c.if-not-corners_hold.false) ∙ c.corners_hold.ensures) (sym (c.if-not-corners_hold-2.true) ∙ corners_at _ _ _ _ _ c.area_corners.ensures _ c.corners_hold-2.ensures) refl refl

pub corners_hold-requires-3 : goal.corners_hold-requires-3
corners_hold-requires-3 c = elements_at_lem _ _ _ _ c.volume_corners.ensures c.requires.listed.volume

pub returns-then-not-corners_hold-3 : goal.returns-then-not-corners_hold-3
unfolding rows_of
returns-then-not-corners_hold-3 c = λ n positions marks curves. numbers_are (rows_of (kind_of c.args.kind) c.args.sizes (bench_in (form n) positions marks c.args.bench.now.points.now c.args.bench.now.lines.now c.args.bench.now.areas.now c.args.bench.now.volumes.now curves c.args.bench.now.steps.now)) c.args.sizes.vertices _ _ _ _ _ (sym (c.if-not-points_hold.false) ∙ c.points_hold.ensures) (sym (c.if-not-corners_hold.false) ∙ c.corners_hold.ensures) (sym (c.if-not-corners_hold-2.false) ∙ corners_at _ _ _ _ _ c.area_corners.ensures _ c.corners_hold-2.ensures) (sym (c.if-not-corners_hold-3.true) ∙ corners_at _ _ _ _ _ c.volume_corners.ensures _ c.corners_hold-3.ensures) refl

pub returns : goal.returns
unfolding rows_of
returns c = λ n positions marks curves. numbers_are (rows_of (kind_of c.args.kind) c.args.sizes (bench_in (form n) positions marks c.args.bench.now.points.now c.args.bench.now.lines.now c.args.bench.now.areas.now c.args.bench.now.volumes.now curves c.args.bench.now.steps.now)) c.args.sizes.vertices _ _ _ _ _ (sym (c.if-not-points_hold.false) ∙ c.points_hold.ensures) (sym (c.if-not-corners_hold.false) ∙ c.corners_hold.ensures) (sym (c.if-not-corners_hold-2.false) ∙ corners_at _ _ _ _ _ c.area_corners.ensures _ c.corners_hold-2.ensures) (sym (c.if-not-corners_hold-3.false) ∙ corners_at _ _ _ _ _ c.volume_corners.ensures _ c.corners_hold-3.ensures) c.steps_hold.ensures
