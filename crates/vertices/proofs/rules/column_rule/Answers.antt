-- `vertices::rules::column_rule` meets its contract. Assumes nothing.
use Rattle.geom.specs.Smoothing.{column_rule}
use Rattle.vertices.proofs.rules.column_rule.Goals as goal

pub returns : goal.returns
unfolding column_rule
returns c = cc
