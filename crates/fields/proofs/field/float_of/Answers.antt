-- `fields::field::float_of` meets its contract: zero over zero is the NaN. Assumes nothing.
use native.Mathlib.Omega.{arith}
use lib.Ieee.{div, of_bits}
use Rattle.fields.proofs.Reading.{no_nan_pattern, nan_pattern}
use Rattle.fields.proofs.field.float_of.Goals as goal

pub returns-then-pattern-gt-INFINITY : goal.returns-then-pattern-gt-INFINITY
unfolding div of_bits
returns-then-pattern-gt-INFINITY c = nan_pattern _ c.if-pattern-gt-INFINITY.true

pub float_from_bits-result : goal.float_from_bits-result
float_from_bits-result c = no_nan_pattern _ (omega arith)
