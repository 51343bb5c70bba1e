-- `figure::writing::put_vertices` meets its contract: the vertices passed stand on the bench. Assumes nothing.
use Prim.Native.Nat.{◌+◌}
use Rattle.vertices.specs.Cells.{Laid}
use Rattle.fields.specs.Fields.{vertices_at}
use Rattle.figure.proofs.writing.put_vertices.Given as goal

abbrev pub invariant-loop-i : goal.invariant-loop-i
invariant-loop-i l = Laid l.initial.positions l.initial.marks 0 (vertices_at l.file (l.at + 4) l.i) l.positions l.marks
