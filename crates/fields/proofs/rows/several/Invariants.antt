-- `fields::rows::several` meets its contract: the rows passed were judged. Assumes nothing.
use Prim.Native.Nat.{ℕ, ◌+◌, ◌*◌, ◌≤◌, ◌<◌}
use Rattle.std.specs.Prelude.{Ok}
use lib.ListN.{length}
use Rattle.fields.proofs.rows.several.Given as goal

abbrev pub invariant-loop-i : goal.invariant-loop-i
invariant-loop-i g l = (l.at + l.wide * l.i ≤ length l.file) × ((j : ℕ) → j < l.i → goal.F-post g l.row (l.at + l.wide * j) (Ok tt))
