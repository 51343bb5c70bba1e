-- `figure::writing::put_numbers` meets its contract: the numbers passed were written. Assumes nothing.
use Rattle.figure.proofs.Elements.{Numbers}
use Rattle.figure.proofs.writing.put_numbers.Given as goal

abbrev pub invariant-loop-i : goal.invariant-loop-i
invariant-loop-i l = Numbers l.file l.at l.initial.out l.out l.from l.n l.i
