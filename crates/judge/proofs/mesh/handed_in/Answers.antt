-- `judge::mesh::handed_in` meets its contract: the tests are made in the order of the refusals, and what passed leaves room for what comes next.
-- Assumes nothing.
use Rattle.geom.specs.Forms.{floats}
use mathlib.Core.Path.{refl, sym, ◌∙◌}
use Rattle.geom.specs.Answers.{verdict_of}
use Rattle.geom.specs.Memory.{rows_of}
use Rattle.geom.specs.Refusals.{positions_hold}
use Rattle.geom.specs.Kinds.{kind_of}
use Rattle.geom.specs.Lent.{words_of}
use Rattle.judge.proofs.Verdicts.{counts_positions, counts_curves, counts_marked, counts_numbered, due_counts, due_benches, due_marks, due_time, due_positions, due_numbers, due_curves, due_limits, due_none}
use Rattle.judge.proofs.mesh.handed_in.Goals as goal

pub returns-then-not-counts_hold : goal.returns-then-not-counts_hold
unfolding verdict_of
returns-then-not-counts_hold c =
    let s = c.args in
    let words = words_of s.bench.now in
    due_counts (kind_of s.kind) s.sizes words s.nine s.five (sym (c.counts_hold.ensures floats words refl refl) ∙ c.if-not-counts_hold.true)

pub returns-then-not-nine : goal.returns-then-not-nine
unfolding verdict_of
returns-then-not-nine c =
    let s = c.args in
    let words = words_of s.bench.now in
    let counted = sym (c.counts_hold.ensures floats words refl refl) ∙ c.if-not-counts_hold.false in
    due_benches (kind_of s.kind) s.sizes words s.nine s.five counted c.if-not-nine.true

pub marks_hold-requires : goal.marks_hold-requires
marks_hold-requires c =
    let s = c.args in
    let words = words_of s.bench.now in
    let counted = sym (c.counts_hold.ensures floats words refl refl) ∙ c.if-not-counts_hold.false in
    counts_marked (kind_of s.kind) s.sizes words counted

pub returns-then-not-marks_hold : goal.returns-then-not-marks_hold
unfolding verdict_of
returns-then-not-marks_hold c =
    let s = c.args in
    let words = words_of s.bench.now in
    let counted = sym (c.counts_hold.ensures floats words refl refl) ∙ c.if-not-counts_hold.false in
    due_marks (kind_of s.kind) s.sizes words s.nine s.five counted c.if-not-nine.false (sym (c.marks_hold.ensures floats s.bench.now.positions.now s.bench.now.points.now) ∙ c.if-not-marks_hold.true)

pub returns-then-not-five : goal.returns-then-not-five
unfolding verdict_of
returns-then-not-five c =
    let s = c.args in
    let words = words_of s.bench.now in
    let counted = sym (c.counts_hold.ensures floats words refl refl) ∙ c.if-not-counts_hold.false in
    let marked = sym (c.marks_hold.ensures floats s.bench.now.positions.now s.bench.now.points.now) ∙ c.if-not-marks_hold.false in
    due_time (kind_of s.kind) s.sizes words s.nine s.five counted c.if-not-nine.false marked c.if-not-five.true

pub positions_hold-requires : goal.positions_hold-requires
positions_hold-requires c =
    let s = c.args in
    let words = words_of s.bench.now in
    let counted = sym (c.counts_hold.ensures floats words refl refl) ∙ c.if-not-counts_hold.false in
    counts_positions (kind_of s.kind) s.sizes words counted

pub returns-then-not-positions_hold : goal.returns-then-not-positions_hold
unfolding positions_hold rows_of verdict_of
returns-then-not-positions_hold c =
    let s = c.args in
    let words = words_of s.bench.now in
    let counted = sym (c.counts_hold.ensures floats words refl refl) ∙ c.if-not-counts_hold.false in
    let marked = sym (c.marks_hold.ensures floats s.bench.now.positions.now s.bench.now.points.now) ∙ c.if-not-marks_hold.false in
    due_positions (kind_of s.kind) s.sizes words s.nine s.five counted c.if-not-nine.false marked c.if-not-five.false (sym (c.positions_hold.ensures s.bench.now.marks.now) ∙ c.if-not-positions_hold.true)

pub numbers_hold-requires : goal.numbers_hold-requires
numbers_hold-requires c =
    let s = c.args in
    let words = words_of s.bench.now in
    let counted = sym (c.counts_hold.ensures floats words refl refl) ∙ c.if-not-counts_hold.false in
    counts_numbered (kind_of s.kind) s.sizes words counted

pub returns-then-not-numbers_hold : goal.returns-then-not-numbers_hold
unfolding positions_hold rows_of verdict_of
returns-then-not-numbers_hold c =
    let s = c.args in
    let words = words_of s.bench.now in
    let counted = sym (c.counts_hold.ensures floats words refl refl) ∙ c.if-not-counts_hold.false in
    let marked = sym (c.marks_hold.ensures floats s.bench.now.positions.now s.bench.now.points.now) ∙ c.if-not-marks_hold.false in
    let placed = sym (c.positions_hold.ensures s.bench.now.marks.now) ∙ c.if-not-positions_hold.false in
    due_numbers (kind_of s.kind) s.sizes words s.nine s.five counted c.if-not-nine.false marked c.if-not-five.false placed (sym (c.numbers_hold.ensures floats s.bench.now.positions.now s.bench.now.marks.now s.bench.now.curves.now) ∙ c.if-not-numbers_hold.true)

pub curves_hold-requires : goal.curves_hold-requires
curves_hold-requires c =
    let s = c.args in
    let words = words_of s.bench.now in
    let counted = sym (c.counts_hold.ensures floats words refl refl) ∙ c.if-not-counts_hold.false in
    counts_curves (kind_of s.kind) s.sizes words counted

pub returns-then-not-curves_hold : goal.returns-then-not-curves_hold
unfolding positions_hold rows_of verdict_of
returns-then-not-curves_hold c =
    let s = c.args in
    let words = words_of s.bench.now in
    let counted = sym (c.counts_hold.ensures floats words refl refl) ∙ c.if-not-counts_hold.false in
    let marked = sym (c.marks_hold.ensures floats s.bench.now.positions.now s.bench.now.points.now) ∙ c.if-not-marks_hold.false in
    let placed = sym (c.positions_hold.ensures s.bench.now.marks.now) ∙ c.if-not-positions_hold.false in
    let numbered = sym (c.numbers_hold.ensures floats s.bench.now.positions.now s.bench.now.marks.now s.bench.now.curves.now) ∙ c.if-not-numbers_hold.false in
    due_curves (kind_of s.kind) s.sizes words s.nine s.five counted c.if-not-nine.false marked c.if-not-five.false placed numbered (sym c.curves_hold.ensures ∙ c.if-not-curves_hold.true)

pub returns-then-not-limits_hold : goal.returns-then-not-limits_hold
unfolding positions_hold rows_of verdict_of
returns-then-not-limits_hold c =
    let s = c.args in
    let words = words_of s.bench.now in
    let counted = sym (c.counts_hold.ensures floats words refl refl) ∙ c.if-not-counts_hold.false in
    let marked = sym (c.marks_hold.ensures floats s.bench.now.positions.now s.bench.now.points.now) ∙ c.if-not-marks_hold.false in
    let placed = sym (c.positions_hold.ensures s.bench.now.marks.now) ∙ c.if-not-positions_hold.false in
    let numbered = sym (c.numbers_hold.ensures floats s.bench.now.positions.now s.bench.now.marks.now s.bench.now.curves.now) ∙ c.if-not-numbers_hold.false in
    let curved = sym c.curves_hold.ensures ∙ c.if-not-curves_hold.false in
    due_limits (kind_of s.kind) s.sizes words s.nine s.five counted c.if-not-nine.false marked c.if-not-five.false placed numbered curved (sym c.limits_hold.ensures ∙ c.if-not-limits_hold.true)

pub returns : goal.returns
unfolding positions_hold rows_of verdict_of
returns c =
    let s = c.args in
    let words = words_of s.bench.now in
    let counted = sym (c.counts_hold.ensures floats words refl refl) ∙ c.if-not-counts_hold.false in
    let marked = sym (c.marks_hold.ensures floats s.bench.now.positions.now s.bench.now.points.now) ∙ c.if-not-marks_hold.false in
    let placed = sym (c.positions_hold.ensures s.bench.now.marks.now) ∙ c.if-not-positions_hold.false in
    let numbered = sym (c.numbers_hold.ensures floats s.bench.now.positions.now s.bench.now.marks.now s.bench.now.curves.now) ∙ c.if-not-numbers_hold.false in
    let curved = sym c.curves_hold.ensures ∙ c.if-not-curves_hold.false in
    due_none (kind_of s.kind) s.sizes words s.nine s.five counted c.if-not-nine.false marked c.if-not-five.false placed numbered curved (sym c.limits_hold.ensures ∙ c.if-not-limits_hold.false)
