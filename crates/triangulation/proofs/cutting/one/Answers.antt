-- `triangulation::cutting::one` meets its contract: nothing, or one piece. Assumes nothing.
use mathlib.Core.Path.{◌∙◌}
use Rattle.triangulation.proofs.Pieces.{from_counts}
use Rattle.triangulation.proofs.cutting.one.Goals as goal

pub returns : goal.returns
returns c = λ p. c.from.ensures ∙ from_counts c.args.size c.args.table.now c.args.from p c.args.points.now c.meets.result c.meets.ensures
