-- What is lent: the words behind the slices of a bench, and of a whole desk; and that a bench holds the slices that it held.
-- Says nothing of what the words stand for (Memory).
-- Assumes nothing.
use Rattle.std.specs.Prelude.{◌≡◌, length}
use Rattle.geom.specs.declared.bench.Bench as Read
use Rattle.geom.specs.declared.bench.BenchMut as Written
use Rattle.geom.specs.declared.bench.Work as With
use Rattle.geom.specs.Memory.{Bench, AsLong}
use Rattle.geom.specs.Refusals.{Desk}

-- the words of the eight slices of a bench that is read
abbrev pub words_of : Read.Bench → Bench
words_of b =
    record {
      positions = b.positions.now;
      marks = b.marks.now;
      points = b.points.now;
      lines = b.lines.now;
      areas = b.areas.now;
      volumes = b.volumes.now;
      curves = b.curves.now;
      curve_vertices = b.steps.now;
    }

-- and of one that is written
abbrev pub words_on : Written.BenchMut → Bench
words_on b =
    record {
      positions = b.positions.now;
      marks = b.marks.now;
      points = b.points.now;
      lines = b.lines.now;
      areas = b.areas.now;
      volumes = b.volumes.now;
      curves = b.curves.now;
      curve_vertices = b.steps.now;
    }

-- the words of a desk: two benches, and what is worked with beside them
abbrev pub desk_of : Written.BenchMut → Written.BenchMut → With.Work → Desk
desk_of first second work =
    record {
      first = words_on first;
      second = words_on second;
      book = work.book.now;
      sums = work.sums.now;
      tallies = work.tallies.now;
    }

-- a bench holds the slices that it held, each as long as it was
pub record Same (a b : Written.BenchMut) : Type 0 where
  pub positions : a.positions.ghost_name ≡ b.positions.ghost_name
  pub marks : a.marks.ghost_name ≡ b.marks.ghost_name
  pub points : a.points.ghost_name ≡ b.points.ghost_name
  pub lines : a.lines.ghost_name ≡ b.lines.ghost_name
  pub areas : a.areas.ghost_name ≡ b.areas.ghost_name
  pub volumes : a.volumes.ghost_name ≡ b.volumes.ghost_name
  pub curves : a.curves.ghost_name ≡ b.curves.ghost_name
  pub steps : a.steps.ghost_name ≡ b.steps.ghost_name
  pub long : AsLong (words_on a) (words_on b)

-- and so does what is worked with
pub record SameWork (a b : With.Work) : Type 0 where
  pub book : a.book.ghost_name ≡ b.book.ghost_name
  pub sums : a.sums.ghost_name ≡ b.sums.ghost_name
  pub tallies : a.tallies.ghost_name ≡ b.tallies.ghost_name
  pub book_long : length a.book.now ≡ length b.book.now
  pub sums_long : length a.sums.now ≡ length b.sums.now
  pub tallies_long : length a.tallies.now ≡ length b.tallies.now
