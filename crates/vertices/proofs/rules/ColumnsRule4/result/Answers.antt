-- The column rule of a square: the constant's weights are the definition's. Assumes nothing.
use lib.Ieee.{of_bits}
use Rattle.vertices.proofs.rules.ColumnsRule4.result.Goals as goal

pub returns : goal.returns
unfolding of_bits
returns c = c.column_rule.ensures
