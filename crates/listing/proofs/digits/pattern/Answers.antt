-- `listing::digits::pattern` meets its contract: a NaN is told by its not being equal to itself, and every other float has its bits. Assumes nothing.
use mathlib.Core.Path.{sym, subst}
use lib.Dec.{T}
use lib.Ieee.{binary32}
use lib.Ieee.Bits.{to_bits-lt}
use Rattle.numbers.proofs.Patterns.{equal_to_itself}
use Rattle.listing.proofs.Numerals.{nan_pattern}
use native.Mathlib.Omega.{arith}
use Rattle.listing.proofs.digits.pattern.Goals as goal

pub returns-then-c : goal.returns-then-c
returns-then-c c = nan_pattern _ c.if-c.true

pub float_to_bits-result : goal.float_to_bits-result
float_to_bits-result c = equal_to_itself _ c.if-c.false

pub overflow_cast-result : goal.overflow_cast-result
overflow_cast-result c = omega (arith, to_bits-lt binary32 _ (subst T (sym c.well_formed.0.1) tt))
