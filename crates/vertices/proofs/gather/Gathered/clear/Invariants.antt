-- `vertices::gather::Gathered::clear` meets its contract: the cells passed are clear. Assumes nothing.
use Rattle.std.proofs.Common.{◌≡◌, ℕ, ◌<◌}
use Rattle.geom.specs.Smoothing.{nothing}
use Rattle.vertices.specs.Gathered.{row, Kept}
use Rattle.vertices.proofs.gather.Gathered.clear.Given as goal

abbrev pub invariant-loop-i : goal.invariant-loop-i
invariant-loop-i l = record { kept : Kept l.initial.self l.self; cleared : (u : ℕ) → u < l.i → row l.self u ≡ nothing }
