-- Which patterns and which numbers are no NaN. Assumes nothing.
use Rattle.std.proofs.Common.{◌≡◌, ℕ, ◌%◌, ◌^◌, ◌≤◌, false, not, T, arith, le-ltb}
use lib.Ieee.{Float, nan, inf, fin, binary32, ne, is_nan, nan_bits}
use lib.Ieee.Bits.{nan_bits_above}
use lib.Ieee.Compare.{nan_differs}

pub no_nan_pattern : (p : ℕ) → p % 2 ^ 31 ≤ 0x7F80_0000 → T (not (nan_bits binary32 p))
no_nan_pattern p h = rw (nan_bits_above binary32 p, le-ltb 0x7F80_0000 (p % 2 ^ 31) h) tt

pub no_nan : (x : Float) → ne x x ≡ false → T (not (is_nan x))
unfolding is_nan
no_nan nan h = let z : ◌≡◌ {A = ℕ} 0 1 = cc nan_differs in absurd (omega arith)
no_nan (inf s) h = tt
no_nan (fin s m e) h = tt
