-- The parts of a file in their order, as one reader takes them: each where the one before left it, whatever that came to.
-- Says nothing of which refusal is the first.
-- Assumes nothing.
use Rattle.std.specs.Prelude.{List, ℕ, zero, suc, Result, Ok, Err}
use Rattle.geom.specs.declared.kind.Kind.{Kind}
use Rattle.geom.specs.declared.kind.Kind.TheVariants.{Cubes, Simplices}
use Rattle.geom.specs.Kinds.{kind_of}
use Rattle.judge.specs.declared.counts.Lengths.{Lengths}
use Rattle.judge.specs.Counts.{cells_of}
use Rattle.geom.specs.declared.refusal.Refusal.{Refusal}
use Rattle.reading.specs.declared.part.Taken.{Taken}
use Rattle.reading.specs.declared.reader.Reader.{Reader}
use Rattle.reading.specs.declared.walk.Lent.{Lent}
use Rattle.reading.specs.declared.walk.Walked.{Walked}
use Rattle.reading.specs.Parts as Part
use Rattle.reading.specs.Parts.{Takes}

-- the same file, behind what was taken
abbrev pub moved : Reader → Taken → Reader
moved r t = record { src = r.src; at = t.at }

-- the kind that a byte says; cubes where it says none, or wasn't read
abbrev pub kind_for : Result ℕ Refusal → Kind
kind_for (Ok zero) = Cubes
kind_for (Ok (suc zero)) = Simplices
kind_for (Ok (suc (suc _))) = Cubes
kind_for (Err _) = Cubes

abbrev pub lent_of : Result ℕ Refusal → Lengths → Lent
lent_of f first = record { kind = kind_for f; cells = cells_of (kind_of (kind_for f)) first }

-- version, kind, the six lists, the end
pub record Walks (lent : Lent) (bytes : List ℕ) (w : Walked) : Type 0 where
  pub version : Takes Part.Byte bytes 0 w.version
  pub kind : Takes Part.Byte bytes w.version.at w.kind
  pub vertices : Takes (Part.Vertices lent.cells.vertices) bytes w.kind.at w.vertices
  pub points : Takes (Part.Points lent.cells.points w.vertices.n) bytes w.vertices.at w.points
  pub lines : Takes (Part.Lines lent.cells.lines w.vertices.n) bytes w.points.at w.lines
  pub areas : Takes (Part.Areas lent.kind lent.cells.areas w.vertices.n) bytes w.lines.at w.areas
  pub volumes : Takes (Part.Volumes lent.kind lent.cells.volumes w.vertices.n) bytes w.areas.at w.volumes
  pub curves : Takes (Part.Curves lent.cells.curves w.vertices.n lent.cells.curve_vertices) bytes w.volumes.at w.curves
  pub left : Takes Part.End bytes w.curves.at w.left
