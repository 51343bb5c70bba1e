-- One field: what reading it gives, and where the file ends early.
-- Assumes nothing.
use mathlib.Core.Path.{◌≡◌, refl, sym, ◌∙◌, ap}
use mathlib.Core.Bool.{true, not}
use mathlib.Core.List.{List, [], ◌∷◌}
use Prim.Native.Nat.{ℕ, ◌+◌, ◌%◌, ◌^◌, ◌≤◌, ◌<◌}
use native.Mathlib.Numerals.{add-one}
use native.Mathlib.Omega.{arith}
use lib.Dec.{T}
use lib.Ieee.{Float, nan, inf, fin, binary32, of_bits, is_nan, nan_bits}
use lib.Ieee.Bits.{nan_bits_above, nan_bits_is}
use lib.ListN.{length, get_or, drop, length-drop, drop_of_length-le}
use lib.Seq.{drop-cons}
use borrow.Author.Tests.{lt-ltb, le-ltb}
use Rattle.geom.specs.File.{Reader, stop, ◌>>=◌, byte, word}
use Rattle.fields.specs.Fields.{word_at, Reads}

module _ (bytes : List ℕ) (at : ℕ) where
  next : at < length bytes → drop at bytes ≡ get_or bytes at 0 ∷ drop (at + 1) bytes
  next h = rw (add-one at) (drop-cons bytes at 0 h)

  pub byte_reads : at < length bytes → Reads bytes at (at + 1) (get_or bytes at 0) byte
  unfolding byte
  byte_reads h = record { reads = ap byte (next h); stands = omega arith }

  pub byte_ends : length bytes ≤ at → byte (drop at bytes) ≡ stop 3
  unfolding byte
  byte_ends h = ap byte (drop_of_length-le bytes h)

few : (bytes : List ℕ) → length bytes < 4 → word bytes ≡ stop 3
unfolding word
few [] h = refl
few (a ∷ []) h = refl
few (a ∷ b ∷ []) h = refl
few (a ∷ b ∷ c ∷ []) h = refl
few (a ∷ b ∷ c ∷ d ∷ bytes) h = absurd (omega arith)

pub word_ends : (bytes : List ℕ) (at : ℕ) → length bytes < at + 4 → word (drop at bytes) ≡ stop 3
word_ends bytes at h = few (drop at bytes) (simp length-drop (omega arith))

pub word_reads : (bytes : List ℕ) (at : ℕ) → at + 4 ≤ length bytes → Reads bytes at (at + 4) (word_at bytes at) word
unfolding word word_at
word_reads bytes at h =
    let two : at + 1 + 1 ≡ at + 2 = omega arith in
    let three : at + 2 + 1 ≡ at + 3 = omega arith in
    let four : at + 3 + 1 ≡ at + 4 = omega arith in
    let second = rw two at (next bytes (at + 1) (omega arith)) in
    let third = rw three at (next bytes (at + 2) (omega arith)) in
    let fourth = rw four at (next bytes (at + 3) (omega arith)) in
    record { reads = ap word (next bytes at (omega arith)) ∙ rw (second, third, fourth) refl; stands = h }

-- a reader that stops
pub stopped : {A B : Type 0} (field : Reader A) (onward : A → Reader B) (bytes : List ℕ) (n : ℕ) → field bytes ≡ stop n → ◌>>=◌ field onward bytes ≡ stop n
stopped field onward bytes n e = rw e refl

-- ---- patterns

pub no_nan_pattern : (p : ℕ) → p % 2 ^ 31 ≤ 0x7F80_0000 → T (not (nan_bits binary32 p))
no_nan_pattern p h = rw (nan_bits_above binary32 p, le-ltb 0x7F80_0000 (p % 2 ^ 31) h) tt

is_nan_lem : (x : Float) → is_nan x ≡ true → nan ≡ x
unfolding is_nan
is_nan_lem nan e = refl
is_nan_lem (inf s) e = let z : ◌≡◌ {A = ℕ} 0 1 = cc in absurd (omega arith)
is_nan_lem (fin s m x) e = let z : ◌≡◌ {A = ℕ} 0 1 = cc in absurd (omega arith)

pub nan_pattern : (p : ℕ) → 0x7F80_0000 < p % 2 ^ 31 → nan ≡ of_bits binary32 p
nan_pattern p h = is_nan_lem (of_bits binary32 p) (sym (nan_bits_is binary32 p) ∙ nan_bits_above binary32 p ∙ lt-ltb 0x7F80_0000 (p % 2 ^ 31) h)
