-- The column rule of a cube: the constant's weights are the definition's. Assumes nothing.
use Rattle.std.proofs.Common.{◌∙◌, ap, ap₂, arith}
use Rattle.std.proofs.Math.ListN.{drop, length-drop}
use Rattle.std.proofs.lemmas.List.{take_all}
use lib.Ieee.{of_bits}
use Rattle.numbers.specs.Points4.{sum}
use Rattle.geom.specs.Smoothing.{column_rule, cube_rule, CUBE_WEIGHTS}
use Rattle.vertices.proofs.rules.ColumnsRule8.result.Goals as goal

pub returns : goal.returns
unfolding of_bits cube_rule
returns c = c.add.ensures ∙ ap₂ sum c.column_rule-low.ensures (c.column_rule-high.ensures ∙ ap (column_rule CUBE_WEIGHTS) (take_all 4 (drop 4 c.args.corners) (simp length-drop (omega arith))))
