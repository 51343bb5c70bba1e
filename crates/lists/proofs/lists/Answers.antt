-- `lists::lists` meets its contract: four lists, one after the other (`Passing`). Assumes nothing.
use Rattle.std.proofs.lemmas.Result.{err_from_is_err_and}
use mathlib.Core.Path.{sym}
use native.Mathlib.Omega.{arith}
use Rattle.geom.specs.Kinds.{kind_of}
use Rattle.book.specs.Cells.{pairs_of}
use Rattle.std.proofs.Common.{rules}
use Rattle.book.proofs.Placing.{kept_on}
use Rattle.lists.specs.Lists.{slices_of}
use Rattle.lists.proofs.Passing.{full_lines, full_areas, full_volumes, full_curves, whole, lengths_stand, curves_stand}
use Rattle.lists.proofs.lists.Goals as goal

pub returns-in_err-line-clause-told : goal.returns-in_err-line-clause-told
returns-in_err-line-clause-told c = let b = slices_of c.args.old.now in let k = pairs_of c.args.book.now c.args.made in rw (err_from_is_err_and c.from_residual.result c.from_residual.ensures.1).1 (full_lines (kind_of c.args.kind) c.args.base c.args.room c.args.s c.args.c b k (rw c.in_err-line.was at c.lines.ensures.passed))

pub divide_parts-requires : goal.divide_parts-requires
divide_parts-requires c = let k₁ = c.lines.ensures.kept in record { count_in_bounds = c.requires.reads.areas; begun = rw (k₁.base, k₁.room) (record { ready = (rw c.in_ok-line.was at c.lines.ensures.passed).ready; within = omega arith; lent = c.requires.writes.areas }) }

pub returns-in_err-area-clause-told : goal.returns-in_err-area-clause-told
returns-in_err-area-clause-told c = let k₁ = c.lines.ensures.kept in let b = slices_of c.args.old.now in let k = pairs_of c.args.book.now c.args.made in rw (err_from_is_err_and c.from_residual-in_err-area.result c.from_residual-in_err-area.ensures.1).1 (full_areas (kind_of c.args.kind) c.args.base c.args.room c.args.s c.args.c b k (rw c.in_ok-line.was at c.lines.ensures.passed).entries (rw (k₁.base, k₁.room, c.in_err-area.was) at c.divide_parts.ensures.passed))

pub divide_parts-requires-2 : goal.divide_parts-requires-2
divide_parts-requires-2 c = let k₁ = c.lines.ensures.kept in let k₂ = kept_on c.lines.ensures.kept c.divide_parts.ensures.kept in record { count_in_bounds = c.requires.reads.volumes; begun = rw (k₂.base, k₂.room) (record { ready = (rw (k₁.base, k₁.room, c.in_ok-area.was) at c.divide_parts.ensures.passed).ready; within = omega arith; lent = c.requires.writes.volumes }) }

pub returns-in_err-volume-clause-told : goal.returns-in_err-volume-clause-told
returns-in_err-volume-clause-told c = let k₁ = c.lines.ensures.kept in let k₂ = kept_on c.lines.ensures.kept c.divide_parts.ensures.kept in let b = slices_of c.args.old.now in let k = pairs_of c.args.book.now c.args.made in rw (err_from_is_err_and c.from_residual-in_err-volume.result c.from_residual-in_err-volume.ensures.1).1 (full_volumes (kind_of c.args.kind) c.args.base c.args.room c.args.s c.args.c b k (rw c.in_ok-line.was at c.lines.ensures.passed).entries (rw (k₁.base, k₁.room, c.in_ok-area.was) at c.divide_parts.ensures.passed).entries (rw (k₂.base, k₂.room, c.in_err-volume.was) at c.divide_parts-2.ensures.passed))

pub curves-requires : goal.curves-requires
curves-requires c = let k₂ = kept_on c.lines.ensures.kept c.divide_parts.ensures.kept in let k₃ = kept_on (kept_on c.lines.ensures.kept c.divide_parts.ensures.kept) c.divide_parts-2.ensures.kept in record { count_in_bounds = c.requires.reads.curves; count_in_bounds_2 = lengths_stand c.args.s c.requires.sum c.requires.reads.steps; count_in_bounds_3 = curves_stand c.args.s c.args.c c.requires.curves c.requires.writes.curves; spread = rw (k₃.base, k₃.room) (record { ready = (rw (k₂.base, k₂.room, c.in_ok-volume.was) at c.divide_parts-2.ensures.passed).ready; within = omega arith; lent = c.requires.writes.steps; small = c.requires.small }) }

pub returns-in_err-step-clause-told : goal.returns-in_err-step-clause-told
returns-in_err-step-clause-told c = let k₁ = c.lines.ensures.kept in let k₂ = kept_on c.lines.ensures.kept c.divide_parts.ensures.kept in let k₃ = kept_on (kept_on c.lines.ensures.kept c.divide_parts.ensures.kept) c.divide_parts-2.ensures.kept in let b = slices_of c.args.old.now in let k = pairs_of c.args.book.now c.args.made in rw (err_from_is_err_and c.from_residual-in_err-step.result c.from_residual-in_err-step.ensures.1).1 (full_curves (kind_of c.args.kind) c.args.base c.args.room c.args.s c.args.c b k (rw c.in_ok-line.was at c.lines.ensures.passed).entries (rw (k₁.base, k₁.room, c.in_ok-area.was) at c.divide_parts.ensures.passed).entries (rw (k₂.base, k₂.room, c.in_ok-volume.was) at c.divide_parts-2.ensures.passed).entries c.requires.sum (rw (k₃.base, k₃.room, c.in_err-step.was) at c.curves.ensures.curved))

pub returns-clause-told : goal.returns-clause-told
returns-clause-told c =
    let k₁ = c.lines.ensures.kept in
    let k₂ = kept_on k₁ c.divide_parts.ensures.kept in
    let k₃ = kept_on k₂ c.divide_parts-2.ensures.kept in
    let same = sym (kept_on k₃ c.curves.ensures.kept).same in
    let b = slices_of c.args.old.now in
    whole (kind_of c.args.kind) c.args.base c.args.room c.args.s c.args.c b (pairs_of c.args.book.now c.args.made) c.requires.sum
    (rw c.in_ok-line.was at c.lines.ensures.passed)
    (rw (k₁.base, k₁.room, c.in_ok-area.was) at c.divide_parts.ensures.passed)
    (rw (k₂.base, k₂.room, c.in_ok-volume.was) at c.divide_parts-2.ensures.passed)
    (rw (k₃.base, k₃.room, c.in_ok-step.was) at c.curves.ensures.curved)
    (search (rules, same))
