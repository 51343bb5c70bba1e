-- `roots::replay::replay` is safe and ends. The invariant: no more rows were counted than bytes passed. The measure is what is left of the text, and one. Assumes nothing.
use Rattle.std.proofs.Common.{◌+◌, ◌-◌, ◌≤◌, length}
use Rattle.roots.proofs.replay.replay.Given as goal

abbrev pub invariant-loop-at : goal.invariant-loop-at
invariant-loop-at l = (l.at ≤ length l.text + 1) × (l.done.rows ≤ l.at) × (l.done.agree ≤ l.at)

abbrev pub decreases-loop-at : goal.decreases-loop-at
decreases-loop-at l = length l.text + 1 - l.at
