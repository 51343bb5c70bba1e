-- `figure::writing::put_elements` meets its contract: the elements passed were written. Assumes nothing.
use Prim.Native.Nat.{◌+◌}
use Rattle.figure.proofs.Elements.{Elements}
use Rattle.figure.proofs.writing.put_elements.Given as goal

abbrev pub invariant-loop-i : goal.invariant-loop-i
invariant-loop-i l = Elements l.file (l.at + 4) l.corners l.initial.out l.out l.n l.i
