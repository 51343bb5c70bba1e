-- One text for another, where both are the same. Assumes nothing.
use mathlib.Core.Path.{◌≡◌}
use mathlib.Core.List.{List}
use Prim.Native.Nat.{ℕ}
use Rattle.listing.specs.Printed.{Printed}

pub printed_as : {text other old new : List ℕ} {r : ℕ} → text ≡ other → Printed text old new r → Printed other old new r
printed_as e p = rw e at p
