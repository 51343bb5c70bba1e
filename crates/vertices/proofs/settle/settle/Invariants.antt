-- `vertices::settle::settle` meets its contract: the vertices passed are settled, and the others still hold what they held. Assumes nothing.
use Rattle.geom.specs.Floats.{binary32}
use Rattle.vertices.proofs.Settling.{Settling}
use Rattle.vertices.proofs.settle.settle.Given as goal

abbrev pub invariant-loop-i : goal.invariant-loop-i
invariant-loop-i l = Settling binary32 l.time l.initial.positions l.marks l.gathered.sums.now l.gathered.tallies.now l.positions l.i
