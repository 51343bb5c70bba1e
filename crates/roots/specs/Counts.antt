-- What the program's counts keep to. Definitions only.
use Rattle.std.specs.Prelude.{◌≡◌, ℕ, ◌+◌, ◌^◌, ◌<◌, ◌≤◌, Bool, cond}
use Rattle.roots.specs.declared.row.Row.{Row}
use Rattle.roots.specs.declared.row.Row.TheVariants.{Remark, Pair, Broken}
use Rattle.roots.specs.declared.walk.Walk.{Walk}
use Rattle.roots.specs.declared.replay.Tally.{Tally}

-- how many patterns were visited
abbrev pub visits : Walk → ℕ
visits w = w.above + w.below + w.own + w.nans

-- from w to r so many patterns more were visited, each counted once, and no more of them than that are wrong
pub record Visited (w r : Walk) (more : ℕ) : Type 0 where
  pub each : visits r ≡ visits w + more
  pub wrong : r.wrong ≤ w.wrong + more

-- so many visits more leave each count below its limit
pub record Room (w : Walk) (more : ℕ) : Type 0 where
  pub visited : visits w + more < 2 ^ 64
  pub wrong : w.wrong + more < 2 ^ 64

-- one line more leaves each count below its limit
pub record Few (p : Tally) : Type 0 where
  pub rows : p.rows < 2 ^ 63
  pub agree : p.agree < 2 ^ 63

-- how many rows a line is, and how many of those can agree: one that can't be read counts, and never agrees
abbrev pub rows_in : Row → ℕ
rows_in Remark = 0
rows_in (Pair argument root) = 1
rows_in Broken = 1

abbrev pub pairs_in : Row → ℕ
pairs_in Remark = 0
pairs_in (Pair argument root) = 1
pairs_in Broken = 0

-- from p to r a line more was read
pub record Read (p r : Tally) (row : Row) : Type 0 where
  pub rows : r.rows ≡ p.rows + rows_in row
  pub agree : r.agree ≤ p.agree + pairs_in row

-- from p to r a row more was counted
pub record Counted (p r : Tally) (agrees : Bool) : Type 0 where
  pub rows : r.rows ≡ p.rows + 1
  pub agree : r.agree ≡ p.agree + cond agrees 1 0
