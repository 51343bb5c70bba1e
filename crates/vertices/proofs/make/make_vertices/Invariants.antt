-- `vertices::make::make_vertices` meets its contract: the vertices of the entries passed stand behind the old ones. Assumes nothing.
use Rattle.geom.specs.Memory.{first_of, vertex_row}
use Rattle.vertices.specs.Cells.{Laid}
use Rattle.geom.specs.Floats.{binary32}
use Rattle.vertices.proofs.Making.{new_vertex}
use Rattle.vertices.proofs.make.make_vertices.Given as goal

abbrev pub invariant-loop-e : goal.invariant-loop-e
invariant-loop-e l = Laid l.initial.out l.initial.notes l.old.count (first_of (new_vertex binary32 (first_of (vertex_row l.old.positions.now l.old.marks.now) l.old.count) l.pairs.book.now l.pairs.start) l.e) l.out l.notes
