-- `judge::mesh::marks_hold` meets its contract, list by list. Assumes nothing.
use Rattle.geom.specs.Forms.{form}
use mathlib.Core.Path.{refl, sym, ◌∙◌}
use Rattle.geom.specs.Memory.{rows_of}
use Rattle.geom.specs.Kinds.{kind_of}
use Rattle.judge.specs.Judged.{bench_in}
use Rattle.judge.proofs.Verdicts.{parities_at_lem, elements_at_lem, marks_are}
use Rattle.judge.proofs.mesh.marks_hold.Goals as goal

pub returns-then-not-flags_hold : goal.returns-then-not-flags_hold
unfolding rows_of
returns-then-not-flags_hold c = λ n positions points. marks_are (rows_of (kind_of c.args.kind) c.args.sizes (bench_in (form n) positions c.args.bench.now.marks.now points c.args.bench.now.lines.now c.args.bench.now.areas.now c.args.bench.now.volumes.now c.args.bench.now.curves.now c.args.bench.now.steps.now)) _ _ _ _ _ (sym (c.if-not-flags_hold.true) ∙ c.flags_hold.ensures n positions) refl refl refl refl

pub returns-then-not-parities_hold : goal.returns-then-not-parities_hold
unfolding rows_of
returns-then-not-parities_hold c = λ n positions points. marks_are (rows_of (kind_of c.args.kind) c.args.sizes (bench_in (form n) positions c.args.bench.now.marks.now points c.args.bench.now.lines.now c.args.bench.now.areas.now c.args.bench.now.volumes.now c.args.bench.now.curves.now c.args.bench.now.steps.now)) _ _ _ _ _ (sym (c.if-not-flags_hold.false) ∙ c.flags_hold.ensures n positions) (sym (c.if-not-parities_hold.true) ∙ c.parities_hold.ensures) refl refl refl

pub parities_hold-requires-2 : goal.parities_hold-requires-2
parities_hold-requires-2 c = elements_at_lem _ _ _ _ c.area_corners.ensures c.requires.listed.area

pub returns-then-not-parities_hold-2 : goal.returns-then-not-parities_hold-2
unfolding rows_of
returns-then-not-parities_hold-2 c = λ n positions points. marks_are (rows_of (kind_of c.args.kind) c.args.sizes (bench_in (form n) positions c.args.bench.now.marks.now points c.args.bench.now.lines.now c.args.bench.now.areas.now c.args.bench.now.volumes.now c.args.bench.now.curves.now c.args.bench.now.steps.now)) _ _ _ _ _ (sym (c.if-not-flags_hold.false) ∙ c.flags_hold.ensures n positions) (sym (c.if-not-parities_hold.false) ∙ c.parities_hold.ensures) (sym (c.if-not-parities_hold-2.true) ∙ parities_at_lem _ _ _ _ c.area_corners.ensures _ c.parities_hold-2.ensures) refl refl

pub parities_hold-requires-3 : goal.parities_hold-requires-3
parities_hold-requires-3 c = elements_at_lem _ _ _ _ c.volume_corners.ensures c.requires.listed.volume

pub returns-then-not-parities_hold-3 : goal.returns-then-not-parities_hold-3
unfolding rows_of
returns-then-not-parities_hold-3 c = λ n positions points. marks_are (rows_of (kind_of c.args.kind) c.args.sizes (bench_in (form n) positions c.args.bench.now.marks.now points c.args.bench.now.lines.now c.args.bench.now.areas.now c.args.bench.now.volumes.now c.args.bench.now.curves.now c.args.bench.now.steps.now)) _ _ _ _ _ (sym (c.if-not-flags_hold.false) ∙ c.flags_hold.ensures n positions) (sym (c.if-not-parities_hold.false) ∙ c.parities_hold.ensures) (sym (c.if-not-parities_hold-2.false) ∙ parities_at_lem _ _ _ _ c.area_corners.ensures _ c.parities_hold-2.ensures) (sym (c.if-not-parities_hold-3.true) ∙ parities_at_lem _ _ _ _ c.volume_corners.ensures _ c.parities_hold-3.ensures) refl

pub returns : goal.returns
unfolding rows_of
returns c = λ n positions points. marks_are (rows_of (kind_of c.args.kind) c.args.sizes (bench_in (form n) positions c.args.bench.now.marks.now points c.args.bench.now.lines.now c.args.bench.now.areas.now c.args.bench.now.volumes.now c.args.bench.now.curves.now c.args.bench.now.steps.now)) _ _ _ _ _ (sym (c.if-not-flags_hold.false) ∙ c.flags_hold.ensures n positions) (sym (c.if-not-parities_hold.false) ∙ c.parities_hold.ensures) (sym (c.if-not-parities_hold-2.false) ∙ parities_at_lem _ _ _ _ c.area_corners.ensures _ c.parities_hold-2.ensures) (sym (c.if-not-parities_hold-3.false) ∙ parities_at_lem _ _ _ _ c.volume_corners.ensures _ c.parities_hold-3.ensures) c.parts_hold.ensures
