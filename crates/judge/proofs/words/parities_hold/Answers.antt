-- `judge::words::parities_hold` meets its contract. Assumes nothing.
use native.Mathlib.Omega.{arith}
use mathlib.Core.Path.{◌∙◌}
use Rattle.judge.proofs.Every.{elements_column, parities_column}
use Rattle.judge.proofs.words.parities_hold.Goals as goal

pub column_below-requires : goal.column_below-requires
column_below-requires c = record { column = elements_column _ _ _ c.requires; width_bound = omega (arith, c.requires.few) }

pub returns : goal.returns
returns c = c.column_below.ensures ∙ parities_column _ _ _
