-- Lent cells and equal benches, from the lengths of the slices alone.
-- Says nothing of the words in the slices.
-- Assumes nothing.
use Rattle.std.specs.Prelude.{Bool, ◌&&◌, ℕ, suc, ◌/◌, min, eqb, length}
use Rattle.geom.specs.declared.answer.Sizes.{Sizes}
use Rattle.geom.specs.Book as Book
use Rattle.geom.specs.Form.{Form}
use Rattle.geom.specs.Memory.{BenchIn, area_corners, volume_corners}
use Rattle.judge.specs.declared.counts.Lengths.{Lengths}

-- the lengths of a bench's slices
abbrev pub lengths_of : {F : Form} → BenchIn F → Lengths
lengths_of b =
    record {
      positions = length b.positions;
      marks = length b.marks;
      points = length b.points;
      lines = length b.lines;
      areas = length b.areas;
      volumes = length b.volumes;
      curves = length b.curves;
      curve_vertices = length b.curve_vertices;
    }

-- lent cells: whole rows; of a list in two slices, the smaller number
unfoldable pub cells_of : Book.Kind → Lengths → Sizes
cells_of kind l =
    record {
      vertices = min (l.positions / 4) (l.marks / 3);
      points = l.points;
      lines = l.lines / 3;
      areas = l.areas / suc (area_corners kind);
      volumes = l.volumes / suc (volume_corners kind);
      curves = l.curves / 2;
      curve_vertices = l.curve_vertices / 2;
    }

-- a list's two benches are equal: its slices are as long on both
unfoldable pub equal_of : Lengths → Lengths → Bool
equal_of first second =
    eqb first.positions second.positions
    && eqb first.marks second.marks
    && eqb first.points second.points
    && eqb first.lines second.lines
    && eqb first.areas second.areas
    && eqb first.volumes second.volumes
    && eqb first.curves second.curves
    && eqb first.curve_vertices second.curve_vertices

-- and smoothing's cells, of the sums as of the tallies, are as many as the vertices'
unfoldable pub benches_of : Book.Kind → Lengths → Lengths → ℕ → ℕ → Bool
benches_of kind first second sums tallies =
    let vertices = (cells_of kind first).vertices in
    equal_of first second && eqb (sums / 4) vertices && eqb (tallies / 2) vertices
