-- `figure::writing::put_curves` meets its contract: the curves passed were written. Assumes nothing.
use Prim.Native.Nat.{◌+◌}
use Rattle.figure.proofs.Strings.{Stringing}
use Rattle.figure.proofs.writing.put_curves.Given as goal

abbrev pub invariant-loop-i : goal.invariant-loop-i
invariant-loop-i l = Stringing l.file (l.at + 4) l.initial.curves l.initial.steps l.curves l.steps l.n l.i l.place l.from
