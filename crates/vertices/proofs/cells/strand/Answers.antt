-- `vertices::cells::strand` meets its contract. Assumes nothing.
use mathlib.Core.Path.{sym}
use Rattle.geom.specs.Floats.{binary32}
use Rattle.geom.proofs.Joins.{strand_first, strand_second}
use Rattle.vertices.proofs.cells.strand.Goals as goal

pub returns-then-b-a : goal.returns-then-b-a
returns-then-b-a c = sym (strand_second binary32 _ _ c.if-b-a.true)

pub returns : goal.returns
returns c = sym (strand_first binary32 _ _ c.if-b-a.false)
