-- `numbers::vec4::mean` meets its contract: the corners passed are added, in their order. Assumes nothing.
use Rattle.std.proofs.Common.{◌≡◌, drop}
use Rattle.numbers.specs.Points4.{origin, added}
use Rattle.numbers.proofs.vec4.mean.Given as goal

abbrev pub invariant-loop-i : goal.invariant-loop-i
invariant-loop-i g l = added l.sum (drop l.i l.corners) ≡ added origin l.corners
