-- `judge::words::steps_hold` meets its contract. Assumes nothing.
use native.Mathlib.Omega.{arith}
use mathlib.Core.Path.{◌∙◌}
use Rattle.judge.proofs.Every.{rows_column, steps_column}
use Rattle.judge.proofs.words.steps_hold.Goals as goal

pub column_below-requires : goal.column_below-requires
column_below-requires c = record { column = rows_column _ _ _ _ (omega arith) c.requires; width_bound = omega arith }

pub returns : goal.returns
returns c = c.column_below.ensures ∙ steps_column _ _ _
