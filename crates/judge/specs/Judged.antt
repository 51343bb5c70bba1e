-- What the judge of a whole mesh is told: the words of one bench, and of all else that is lent the lengths.
-- Says nothing of the verdict itself, which is the one of `geom`.
-- Assumes nothing.
use Rattle.std.specs.Prelude.{◌≡◌, List, ℕ, ◌*◌, ◌≤◌, Float, length}
use Rattle.geom.specs.declared.answer.Sizes.{Sizes}
use Rattle.geom.specs.Book.{Kind}
use Rattle.geom.specs.Form.{Form}
use Rattle.geom.specs.Floats.{binary32}
use Rattle.geom.specs.Memory.{BenchIn, Bench, area_corners, volume_corners}
use Rattle.geom.specs.Refusals.{DeskIn}
use Rattle.judge.specs.declared.counts.Lengths.{Lengths}
use Rattle.judge.specs.Words.{Elements, Parts}
use Rattle.judge.specs.Counts.{lengths_of}

-- the slices of a bench
abbrev pub bench_in : (F : Form) → List F.Coordinate → List ℕ → List ℕ → List ℕ → List ℕ → List ℕ → List ℕ → List ℕ → BenchIn F
bench_in F positions marks points lines areas volumes curves steps =
    record {
      positions = positions;
      marks = marks;
      points = points;
      lines = lines;
      areas = areas;
      volumes = volumes;
      curves = curves;
      curve_vertices = steps;
    }

abbrev pub bench : List Float → List ℕ → List ℕ → List ℕ → List ℕ → List ℕ → List ℕ → List ℕ → Bench
bench = bench_in binary32

-- a desk's second bench and smoothing's cells have the lengths that are told
pub record Measured {F : Form} (d : DeskIn F) (second : Lengths) (sums tallies : ℕ) : Type 0 where
  pub bench : lengths_of d.second ≡ second
  pub sum : length d.sums ≡ sums
  pub tally : length d.tallies ≡ tallies

-- the elements that are stated stand in their slices
pub record Listed (kind : Kind) (s : Sizes) (lines areas volumes : List ℕ) : Type 0 where
  pub line : Elements lines 2 s.lines
  pub area : Elements areas (area_corners kind) s.areas
  pub volume : Elements volumes (volume_corners kind) s.volumes

-- all rows that have flags or parities do
pub record Marked {F : Form} (kind : Kind) (s : Sizes) (b : BenchIn F) : Type 0 where
  pub flags : 3 * s.vertices ≤ length b.marks
  pub listed : Listed kind s b.lines b.areas b.volumes
  pub parts : Parts b.curves s.curves b.curve_vertices s.curve_vertices

-- all rows that have vertex numbers do
pub record Numbered {F : Form} (kind : Kind) (s : Sizes) (b : BenchIn F) : Type 0 where
  pub point : s.points ≤ length b.points
  pub listed : Listed kind s b.lines b.areas b.volumes
  pub step : 2 * s.curve_vertices ≤ length b.curve_vertices
