-- `vertices::pass::pass_vertices` meets its contract: laid out, then smoothed, or left so where there is nothing to smooth over. Assumes nothing.
use mathlib.Core.Path.{sym, ◌∙◌}
use Rattle.geom.specs.Kinds.{kind_of}
use Rattle.geom.specs.Memory.{area_corners, volume_corners, vertex_row}
use Rattle.vertices.specs.Cells.{lists_of}
use Rattle.geom.specs.Floats.{binary32}
use Rattle.vertices.proofs.Making.{length_laid}
use Rattle.vertices.proofs.Passed.{over_smoothed, over_unsmoothed}
use Rattle.vertices.proofs.pass.pass_vertices.Goals as goal

pub returns-then-are_empty : goal.returns-then-are_empty
returns-then-are_empty c =
    let kind = kind_of c.args.kind in
    λ curves.
    over_unsmoothed kind c.args.time c.args.lists.lines.words.now c.args.lists.lines.count (area_corners kind) c.args.lists.areas.words.now c.args.lists.areas.count (volume_corners kind) c.args.lists.volumes.words.now c.args.lists.volumes.count curves _ _ _ _ _ (sym c.are_empty.ensures ∙ c.if-are_empty.true) c.lay_out.ensures

pub returns : goal.returns
returns c =
    let kind = kind_of c.args.kind in
    λ curves.
    over_smoothed kind c.args.time (lists_of c.args.lists.lines.words.now c.args.lists.lines.count (area_corners kind) c.args.lists.areas.words.now c.args.lists.areas.count (volume_corners kind) c.args.lists.volumes.words.now c.args.lists.volumes.count curves) _ _ _ _ _ _ _ (length_laid binary32 (vertex_row c.args.old.positions.now c.args.old.marks.now) c.args.pairs.book.now c.args.old.count c.args.pairs.start c.args.pairs.new) c.lay_out.ensures (c.smooth.ensures.smoothed curves)
