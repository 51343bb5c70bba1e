-- How a part of a pass ends says whether all of it fits.
-- Assumes nothing.
use mathlib.Core.Path.{◌≡◌, refl, sym}
use mathlib.Core.Bool.{Bool, true, false}
use Prim.Native.Nat.{ℕ}
use native.Mathlib.Omega.{arith}
use Rattle.geom.specs.Answers.{whole, stopped, fitted}

whole_stopped : {A : Type 0} {values : A} {n : ℕ} → whole values ≡ stopped n → ⊥
whole_stopped e = let z : ◌≡◌ {A = ℕ} 0 1 = cc in omega arith

pub whole_fits : {A : Type 0} (b : Bool) {values : A} (x : A) → whole values ≡ fitted b x → b ≡ true
whole_fits true x e = refl
whole_fits false x e = absurd (whole_stopped e)

pub stopped_bursts : {A : Type 0} (b : Bool) (x : A) → stopped 10 ≡ fitted b x → b ≡ false
stopped_bursts true x e = absurd (whole_stopped (sym e))
stopped_bursts false x e = refl
