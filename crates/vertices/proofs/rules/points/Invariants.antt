-- `vertices::rules::points` meets its contract: the corners passed have their points. Assumes nothing.
use Rattle.std.proofs.Common.{◌≡◌, ℕ, ◌<◌, length, get_or}
use Rattle.numbers.specs.Points4.{origin}
use Rattle.vertices.specs.Cells.{point_row}
use Rattle.vertices.proofs.rules.points.Given as goal

abbrev pub invariant-loop-k : goal.invariant-loop-k
invariant-loop-k g l = record {
  long : length l.points ≡ g.row.N;
  read : (j : ℕ) → j < l.k → get_or l.points j origin ≡ point_row l.positions (get_or l.corners j 0);
}
