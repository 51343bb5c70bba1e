-- `judge::words::corners_hold` meets its contract: every word is below the count, or the corners of the elements passed are. Assumes nothing.
use mathlib.Core.Path.{◌≡◌}
use mathlib.Core.Bool.{true}
use Rattle.geom.specs.Memory.{ElementRow, first_of, element_row}
use Rattle.geom.specs.Refusals.{every, good_number}
use Rattle.judge.proofs.words.corners_hold.Given as goal

abbrev pub invariant-loop-i : goal.invariant-loop-i
invariant-loop-i l = (every (λ (e : ElementRow). every (good_number l.count) e.corners) (first_of (element_row l.corners l.words) l.i) ≡ true)
