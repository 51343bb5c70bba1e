-- `roots::judge::root_at` meets its contract: it takes the pattern of no NaN, neither to make a number of nor from one. Assumes nothing.
use Rattle.roots.proofs.Patterns.{no_nan_pattern, no_nan}
use Rattle.roots.proofs.judge.root_at.Goals as goal

pub float_from_bits-pattern : goal.float_from_bits-pattern
float_from_bits-pattern c = no_nan_pattern _ c.requires

pub float_to_bits-result : goal.float_to_bits-result
float_to_bits-result c = no_nan _ c.if-r.false
