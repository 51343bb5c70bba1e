-- Smoothing's cells, from one call to the next.
-- Assumes nothing.
use mathlib.Core.Path.{refl, ◌∙◌}
use Prim.Native.Nat.{ℕ}
use native.Mathlib.Omega.{arith}
use Rattle.vertices.specs.declared.gather.Gathered.{Gathered}
use Rattle.vertices.specs.Gathered.{Holds, Kept}

pub kept_same : (g : Gathered) → Kept g g
kept_same g = record { sums = refl; tallies = refl; long = refl; wide = refl }

pub kept_on : {f g h : Gathered} → Kept f g → Kept g h → Kept f h
kept_on k l = record { sums = l.sums ∙ k.sums; tallies = l.tallies ∙ k.tallies; long = l.long ∙ k.long; wide = l.wide ∙ k.wide }

pub kept_holds : {f g : Gathered} → Kept f g → (n : ℕ) → Holds f n → Holds g n
kept_holds k n l = record { sum = omega (arith, k.long, l.sum); tally = omega (arith, k.wide, l.tally) }
