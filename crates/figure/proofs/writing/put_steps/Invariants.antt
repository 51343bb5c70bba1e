-- `figure::writing::put_steps` meets its contract: the vertices passed were written. Assumes nothing.
use Rattle.figure.proofs.Strings.{Stepping}
use Rattle.figure.proofs.writing.put_steps.Given as goal

abbrev pub invariant-loop-j : goal.invariant-loop-j
invariant-loop-j l = Stepping l.file l.at l.count l.initial.steps l.steps l.from l.j
