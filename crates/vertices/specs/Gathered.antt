-- What each vertex has gathered, read off the cells that the struct lends.
-- Says nothing of what smoothing makes of it (geom's Smoothing).
-- Assumes nothing.
use Rattle.std.specs.Prelude.{◌≡◌, ℕ, length}
use Rattle.geom.specs.Smoothing as Smoothing
use Rattle.vertices.specs.Cells.{gathered_row, Lent}
use Rattle.vertices.specs.declared.gather.Gathered.{Gathered}

-- what vertex u has gathered
abbrev pub row : Gathered → ℕ → Smoothing.Gathered
row g u = gathered_row g.sums.now g.tallies.now u

-- cells for n vertices
abbrev pub Holds : Gathered → ℕ → Type 0
Holds g n = Lent g.sums.now g.tallies.now n

-- the cells are still those that were lent, and as many
pub record Kept (old new : Gathered) : Type 0 where
  pub sums : new.sums.ghost_name ≡ old.sums.ghost_name
  pub tallies : new.tallies.ghost_name ≡ old.tallies.ghost_name
  pub long : length new.sums.now ≡ length old.sums.now
  pub wide : length new.tallies.now ≡ length old.tallies.now
