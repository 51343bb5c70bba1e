-- `judge::words::curves_hold` meets its contract: the curves passed have vertices. Assumes nothing.
use mathlib.Core.Path.{◌≡◌}
use mathlib.Core.Bool.{true}
use Rattle.geom.specs.Memory.{first_of, curve_row}
use Rattle.geom.specs.Refusals.{every, good_curve}
use Rattle.judge.proofs.words.curves_hold.Given as goal

abbrev pub invariant-loop-i : goal.invariant-loop-i
invariant-loop-i l = (every good_curve (first_of (curve_row l.curves) l.i) ≡ true)
