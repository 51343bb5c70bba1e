-- `vertices::smooth::smooth` meets its contract: cleared, gathered from the three lists in the kind's order, and settled after the last. Assumes nothing.
use native.Mathlib.Omega.{arith}
use mathlib.Core.Path.{◌≡◌, ◌∙◌}
use Rattle.geom.specs.Book.{cubes, simplices}
use Rattle.geom.specs.Floats.{binary32}
use Rattle.vertices.specs.Cells.{vertices_of, lists_of}
use Rattle.vertices.proofs.Smoothed.{none_counted, cubes_gathered, simplices_gathered, moved_at_last}
use Rattle.vertices.proofs.smooth.smooth.Goals as goal

pub smooth_over-requires-clause-by_index : goal.smooth_over-requires-clause-by_index
smooth_over-requires-clause-by_index c u h =
    let k = rw c.in-Cubes.is at c.requires.gathers in
    omega (arith, none_counted binary32 _ (c.clear.ensures.cleared u h), k.light)

pub smooth_over-requires-in-Cubes-clause-by_index : goal.smooth_over-requires-in-Cubes-clause-by_index
smooth_over-requires-in-Cubes-clause-by_index c u h =
    let k = rw c.in-Cubes.is at c.requires.gathers in
    omega (arith, none_counted binary32 _ (c.clear.ensures.cleared u h), c.smooth_over.ensures.by_index_3 u, k.light)

pub smooth_over-requires-in-Cubes-2-clause-by_index : goal.smooth_over-requires-in-Cubes-2-clause-by_index
smooth_over-requires-in-Cubes-2-clause-by_index c u h =
    let k = rw c.in-Cubes.is at c.requires.gathers in
    omega (arith, none_counted binary32 _ (c.clear.ensures.cleared u h), c.smooth_over.ensures.by_index_3 u, c.smooth_over-in-Cubes.ensures.by_index_3 u, k.light)

pub smooth_over-requires-in-Simplices-clause-by_index : goal.smooth_over-requires-in-Simplices-clause-by_index
smooth_over-requires-in-Simplices-clause-by_index c u h =
    let k = rw c.in-Simplices.is at c.requires.gathers in
    omega (arith, none_counted binary32 _ (c.clear.ensures.cleared u h), k.light)

pub smooth_over-requires-in-Simplices-2-clause-by_index : goal.smooth_over-requires-in-Simplices-2-clause-by_index
smooth_over-requires-in-Simplices-2-clause-by_index c u h =
    let k = rw c.in-Simplices.is at c.requires.gathers in
    omega (arith, none_counted binary32 _ (c.clear.ensures.cleared u h), c.smooth_over-in-Simplices.ensures.by_index_3 u, k.light)

pub smooth_over-requires-in-Simplices-3-clause-by_index : goal.smooth_over-requires-in-Simplices-3-clause-by_index
smooth_over-requires-in-Simplices-3-clause-by_index c u h =
    let k = rw c.in-Simplices.is at c.requires.gathers in
    omega (arith, none_counted binary32 _ (c.clear.ensures.cleared u h), c.smooth_over-in-Simplices.ensures.by_index_3 u, c.smooth_over-in-Simplices-2.ensures.by_index_3 u, k.light)

-- until the last list is gathered from, the vertices stay as they were
pub returns-in-Cubes-clause-smoothed : goal.returns-in-Cubes-clause-smoothed
returns-in-Cubes-clause-smoothed c =
    λ curves.
    let l = lists_of c.args.lists.lines.words.now c.args.lists.lines.count 4 c.args.lists.areas.words.now c.args.lists.areas.count 8 c.args.lists.volumes.words.now c.args.lists.volumes.count curves in
    let points = c.args.points.now in
    let marks = c.args.marks.now in
    let vertices = vertices_of points marks c.args.count in
    let first : c.smooth_over.new.points ≡ points = c.smooth_over.ensures.points_after in
    let stay : c.smooth_over-in-Cubes.new.points ≡ points = c.smooth_over-in-Cubes.ensures.points_after ∙ first in
    rw c.in-Cubes.is
    (moved_at_last binary32 cubes c.args.time l marks c.args.count points _ _ _ _ stay c.smooth_over-in-Cubes-2.ensures.points_after
    (cubes_gathered binary32 l vertices _ _ _ _ _ _ _ _ _ c.clear.ensures.cleared c.smooth_over.ensures.by_index_2 (rw first at c.smooth_over-in-Cubes.ensures.by_index_2) (rw stay at c.smooth_over-in-Cubes-2.ensures.by_index_2)))

pub returns-in-Simplices-clause-smoothed : goal.returns-in-Simplices-clause-smoothed
returns-in-Simplices-clause-smoothed c =
    λ curves.
    let l = lists_of c.args.lists.lines.words.now c.args.lists.lines.count 3 c.args.lists.areas.words.now c.args.lists.areas.count 4 c.args.lists.volumes.words.now c.args.lists.volumes.count curves in
    let points = c.args.points.now in
    let marks = c.args.marks.now in
    let vertices = vertices_of points marks c.args.count in
    let first : c.smooth_over-in-Simplices.new.points ≡ points = c.smooth_over-in-Simplices.ensures.points_after in
    let stay : c.smooth_over-in-Simplices-2.new.points ≡ points = c.smooth_over-in-Simplices-2.ensures.points_after ∙ first in
    rw c.in-Simplices.is
    (moved_at_last binary32 simplices c.args.time l marks c.args.count points _ _ _ _ stay c.smooth_over-in-Simplices-3.ensures.points_after
    (simplices_gathered binary32 l vertices _ _ _ _ _ _ _ _ _ c.clear.ensures.cleared c.smooth_over-in-Simplices.ensures.by_index_2 (rw first at c.smooth_over-in-Simplices-2.ensures.by_index_2) (rw stay at c.smooth_over-in-Simplices-3.ensures.by_index_2)))
