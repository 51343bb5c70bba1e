-- `numbers::root::near_pattern` is safe: the pattern that it begins with is no NaN's, and neither is the one that it reads (`Patterns.antt`). Of the number that it
-- guesses nothing is said. Assumes nothing.
use Rattle.std.proofs.Common.{arith}
use lib.Ieee.{binary64}
use lib.Ieee.Fits.{mul-fits}
use Rattle.numbers.proofs.Patterns.{below_infinity, one_more_fits}
use Rattle.numbers.proofs.root.near_pattern.Goals as goal

pub float_from_bits-y : goal.float_from_bits-y
float_from_bits-y c = below_infinity binary64 _ (omega arith)

pub overflow_add-result : goal.overflow_add-result
overflow_add-result c = record { fits = one_more_fits _ (mul-fits binary64 _ _) }
