-- `judge::words::column_below` meets its contract: it is known whether the rows passed are below the bound. Assumes nothing.
use mathlib.Core.Path.{◌≡◌}
use Prim.Native.Nat.{◌+◌, ◌*◌}
use Rattle.judge.specs.Words.{column_below}
use Rattle.judge.proofs.words.column_below.Given as goal

abbrev pub invariant-loop-i : goal.invariant-loop-i
invariant-loop-i l = (l.at ≡ l.width * l.i + l.column) × (l.all ≡ column_below l.words l.width l.column l.i l.bound)
