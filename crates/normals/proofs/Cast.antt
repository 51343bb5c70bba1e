-- A word of at most 1 as a number: an i32 has it, and 1 minus twice it is the sign of its parity. Assumes nothing.
use mathlib.Core.Path.{◌≡◌, refl}
use Prim.Native.Nat.{ℕ, zero, suc, ◌≤◌}
use native.Mathlib.Omega.{arith}
use lib.IntN.{pos}
use mir.Syntax.{w32}
use mir.Val.{to_z}
use Rattle.numbers.specs.Binary32.{◌⊖◌, ◌⊗◌, one, count}
use Rattle.geom.specs.Memory.{parity_of}
use Rattle.geom.specs.Normals.{sign}

pub word_signed : (n : ℕ) → n ≤ 1 → to_z w32 n ≡ pos n
word_signed zero h = refl
word_signed (suc zero) h = refl
word_signed (suc (suc n)) h = absurd (omega arith)

pub word_sign : (n : ℕ) → n ≤ 1 → one ⊖ count 2 ⊗ count n ≡ sign (parity_of n)
unfolding sign
word_sign zero h = refl
word_sign (suc zero) h = refl
word_sign (suc (suc n)) h = absurd (omega arith)
