-- The listing of a mesh in memory: what is asked of the words and of the buffer, and what stands in the buffer afterwards.
-- Says nothing of which words are accepted.
-- Assumes nothing.
use Rattle.std.specs.Prelude.{◌≡◌, List, [], ◌∷◌, ◌++◌, ℕ, ◌*◌, ◌≤◌, length}
use Rattle.geom.specs.declared.answer.Sizes.{Sizes}
use Rattle.geom.specs.Book.{Kind}
use Rattle.geom.specs.Listing.{PASSES, NEWLINE, spaced, decimal, listing}
use Rattle.geom.specs.Memory.{Bench, rows_of, mesh_of, over}
use Rattle.judge.specs.Words.{Parts}
use Rattle.judge.specs.Judged.{bench, Listed}

-- a whole text stands at the start of the buffer, whose other bytes stay; r is its length
pub record Printed (text old new : List ℕ) (r : ℕ) : Type 0 where
  pub length : r ≡ length text
  pub bytes : new ≡ over old text

-- the first line
abbrev pub heading_of : ℕ → List ℕ
heading_of passes = PASSES ++ spaced (decimal passes) ++ NEWLINE ∷ []

-- the listing of the mesh that the words on a bench stand for, as many entries as are stated
abbrev pub listed : ℕ → Kind → Sizes → Bench → List ℕ
listed passes kind s b = listing passes (mesh_of (rows_of kind s b))

-- a bench with other marks
abbrev pub with_marks : List ℕ → Bench → Bench
with_marks marks b = bench b.positions marks b.points b.lines b.areas b.volumes b.curves b.curve_vertices

-- The rows that are stated stand in their slices, the curves' lengths add up, and the text has room. No mark is printed, so any marks will do.
pub record Stated (passes : ℕ) (kind : Kind) (s : Sizes) (b : Bench) (out : List ℕ) : Type 0 where
  pub vertices : 4 * s.vertices ≤ length b.positions
  pub point : s.points ≤ length b.points
  pub elements : Listed kind s b.lines b.areas b.volumes
  pub parts : Parts b.curves s.curves b.curve_vertices s.curve_vertices
  pub room : length (listed passes kind s (with_marks [] b)) ≤ length out
