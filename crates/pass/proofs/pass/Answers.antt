-- `pass::pass` meets its contract: points, lists, vertices (`Ready` before the calls, `Whole` after them). Assumes nothing.
use Rattle.std.proofs.lemmas.Result.{err_from_is_err_and}
use mathlib.Core.Path.{◌∙◌}
use Rattle.geom.specs.Kinds.{kind_of}
use Rattle.geom.specs.Lent.{words_of}
use Rattle.pass.proofs.Next.{passed_full}
use Rattle.pass.proofs.Ready.{points_stand, points_room, given, entries_grow, vertices_ready, vertices_gather}
use Rattle.pass.proofs.Whole.{passed_whole, cells_same}
use Rattle.pass.proofs.pass.Goals as goal

pub copy_points-requires : goal.copy_points-requires
copy_points-requires c =
    record { count_in_bounds = points_stand c.requires.held c.requires.lends; count_in_bounds_2 = points_room c.requires.held c.requires.lends }

pub lists-requires : goal.lists-requires
lists-requires c = given c.requires.held c.requires.lends

pub returns-in_err-stage-clause-passed : goal.returns-in_err-stage-clause-passed
returns-in_err-stage-clause-passed c =
    rw (err_from_is_err_and c.from_residual.result c.from_residual.ensures.1).1
    (passed_full (kind_of c.args.terms.kind) c.args.terms.base c.args.s (words_of c.args.old.now) c.args.work.now.book.now c.args.made c.requires.held c.args.terms.time c.requires.lends c.in_err-stage.ensures.told)

pub overflow_sub-pairs : goal.overflow_sub-pairs
overflow_sub-pairs c = entries_grow c.requires.held c.requires.lends c.in_ok-stage.ensures.told

pub pass_vertices-requires : goal.pass_vertices-requires
pass_vertices-requires c =
    let still = c.lists.ensures.still in
    record { ready = rw (still.positions, still.marks) (vertices_ready c.requires.held c.requires.lends c.in_ok-stage.ensures.told); gathers = vertices_gather c.requires.held c.requires.lends c.in_ok-stage.ensures.told }

pub returns-clause-passed : goal.returns-clause-passed
returns-clause-passed c =
    let still = c.lists.ensures.still in
    let long = c.lists.ensures.same.long in
    passed_whole c.requires.held c.requires.lends c.in_ok-stage.ensures.told c.args.terms.time (rw (still.positions, still.marks) at c.pass_vertices.ensures) (still.points ∙ c.copy_points.ensures)
    (
    cells_same (kind_of c.args.terms.kind) (
    record {
      positions = c.pass_vertices.auto.out ∙ long.positions;
      marks = c.pass_vertices.auto.notes ∙ long.marks;
      points = long.points ∙ c.copy_points.auto.new;
      lines = long.lines;
      areas = long.areas;
      volumes = long.volumes;
      curves = long.curves;
      curve_vertices = long.curve_vertices;
    }
    )
    )
