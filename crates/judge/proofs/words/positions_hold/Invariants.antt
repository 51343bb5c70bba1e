-- `judge::words::positions_hold` meets its contract: it is known whether the coordinates passed are within. Assumes nothing.
use mathlib.Core.Path.{◌≡◌}
use Prim.Native.Nat.{ℕ}
use lib.ListN.{get_or}
use Rattle.numbers.specs.Binary32 as Binary32
use Rattle.geom.specs.Memory.{first_of}
use Rattle.geom.specs.Refusals.{every, good_coordinate}
use Rattle.judge.proofs.words.positions_hold.Given as goal

abbrev pub invariant-loop-coordinate : goal.invariant-loop-coordinate
invariant-loop-coordinate l = l.all ≡ every good_coordinate (first_of (λ (k : ℕ). get_or l.positions k Binary32.zero) l.coordinate-index)
