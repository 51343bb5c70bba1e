-- `roots::walk::spread` meets its contract. The invariant: each turn has visited one pattern. Assumes nothing.
use Rattle.roots.specs.Counts.{Visited}
use Rattle.roots.proofs.walk.spread.Given as goal

abbrev pub invariant-loop-i : goal.invariant-loop-i
invariant-loop-i l = Visited l.initial.done l.done l.i
