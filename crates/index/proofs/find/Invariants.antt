-- `index::find` meets its contract. The invariant: the way of [a,b] has come to `link` at level `depth`, and its entry is no higher. The measure is what is
-- left of the 64 levels that an entry of another key can have. Assumes nothing.
use mathlib.Core.List.{[], ◌∷◌}
use Prim.Native.Nat.{◌-◌}
use Rattle.index.specs.Cells.{pairs}
use Rattle.index.proofs.Ways.{Going}
use Rattle.index.proofs.find.Given as goal

abbrev pub invariant-loop-first : goal.invariant-loop-first
invariant-loop-first l = Going pairs l.words l.made (l.a ∷ l.b ∷ []) l.depth l.link l.rest

abbrev pub decreases-loop-first : goal.decreases-loop-first
decreases-loop-first l = 64 - l.depth
