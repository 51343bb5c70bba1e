-- `judge::words::flags_hold` meets its contract. Assumes nothing.
use native.Mathlib.Omega.{arith}
use Rattle.geom.specs.Forms.{form}
use mathlib.Core.Path.{◌∙◌}
use Rattle.judge.proofs.Every.{rows_column, flags_column}
use Rattle.judge.proofs.words.flags_hold.Goals as goal

pub column_below-requires : goal.column_below-requires
column_below-requires c = record { column = rows_column _ _ _ _ (omega arith) c.requires; width_bound = omega arith }

pub returns : goal.returns
returns c = λ n positions. c.column_below.ensures ∙ flags_column (form n) positions _ _
