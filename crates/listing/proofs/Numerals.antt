-- Numbers as digits: a decimal number by its last digit, and the digits of a pattern.
-- Assumes nothing.
use mathlib.Core.Path.{◌≡◌, refl, sym, ◌∙◌, ap, subst}
use mathlib.Core.Bool.{Bool, true, false}
use mathlib.Core.List.{List, [], ◌∷◌, ◌++◌, append_assoc}
use Prim.Native.Nat.{ℕ, zero, suc, ◌+◌, ◌-◌, ◌*◌, ◌/◌, ◌%◌, ◌^◌, ◌≤◌, ◌<◌}
use native.Mathlib.Omega.{arith}
use lib.Dec.{T, ltb}
use lib.Ieee.{Float, binary32, to_bits, ne}
use lib.Ieee.Compare.{differs_from_itself}
use borrow.Author.Tests.{ltb-true, ltb-false, eq-eqb, ne_eqb, lt-ltb, le-ltb}
use Rattle.geom.specs.Listing.{digit, decimal, decimal_before, hexadecimal}
use Rattle.geom.specs.Memory.{first_of}

-- ---- digits

pub digit_low : (d : ℕ) → d < 10 → 48 + d ≡ digit d
unfolding digit
digit_low d l = sym (rw (lt-ltb d 10 l) refl)

pub digit_high : (d : ℕ) → 10 ≤ d → 55 + d ≡ digit d
unfolding digit
digit_high d l = sym (rw (le-ltb d 10 l) refl)

-- ---- a decimal number

before_small : (k n : ℕ) (after : List ℕ) → n < 10 → decimal_before (suc k) n after ≡ digit n ∷ after
unfolding decimal_before
before_small k n after l =
    let e : n / 10 ≡ 0 = omega arith in
    let m : n % 10 ≡ n = omega arith in
    rw (eq-eqb (n / 10) 0 e, m) refl

before_large : (k n : ℕ) (after : List ℕ) → 10 ≤ n → decimal_before (suc k) n after ≡ decimal_before k (n / 10) (digit (n % 10) ∷ after)
unfolding decimal_before
before_large k n after l = rw (ne_eqb (n / 10) 0 (λ e. omega arith)) refl

-- the digits of n stand in front of what is behind them, whatever the fuel is
before_is : (b k n : ℕ) (after : List ℕ) → n ≤ b → n ≤ k → decimal_before (suc k) n after ≡ decimal_before (suc n) n [] ++ after
before_is zero k n after l f =
    before_small k n after (omega arith) ∙ ap (λ (r : List ℕ). r ++ after) (sym (before_small n n [] (omega arith)))
before_is (suc b) k n after l f = go (ltb n 10) refl (before_is b)
  where
    -- one step, with at least n of fuel
    step : (j : ℕ) (more : List ℕ) → 10 ≤ n → n ≤ j
        → ((k n : ℕ) (after : List ℕ) → n ≤ b → n ≤ k → decimal_before (suc k) n after ≡ decimal_before (suc n) n [] ++ after)
        → decimal_before (suc j) n more ≡ decimal_before (suc (n / 10)) (n / 10) [] ++ digit (n % 10) ∷ more
    step j more s f ih =
        let e : j ≡ suc (j - 1) = omega arith in
        let d = digit (n % 10) in
        before_large j n more s
        ∙ ap (λ (i : ℕ). decimal_before i (n / 10) (d ∷ more)) e
        ∙ ih (j - 1) (n / 10) (d ∷ more) (omega arith) (omega arith)

    go : (t : Bool) → ltb n 10 ≡ t
        → ((k n : ℕ) (after : List ℕ) → n ≤ b → n ≤ k → decimal_before (suc k) n after ≡ decimal_before (suc n) n [] ++ after)
        → decimal_before (suc k) n after ≡ decimal_before (suc n) n [] ++ after
    go true e ih =
        let s = ltb-true n 10 e in
        before_small k n after s ∙ ap (λ (r : List ℕ). r ++ after) (sym (before_small n n [] s))
    go false e ih =
        let s = ltb-false n 10 e in
        let d = digit (n % 10) in
        step k after s f ih
        ∙ sym (append_assoc (decimal_before (suc (n / 10)) (n / 10) []) (d ∷ []) after)
        ∙ ap (λ (r : List ℕ). r ++ after) (sym (step n [] s (omega arith) ih))

pub decimal_small : (n : ℕ) → n < 10 → decimal n ≡ digit n ∷ []
unfolding decimal
decimal_small n l = before_small n n [] l

pub decimal_large : (n : ℕ) → 10 ≤ n → decimal n ≡ decimal (n / 10) ++ digit (n % 10) ∷ []
unfolding decimal
decimal_large n l =
    let e : n ≡ suc (n - 1) = omega arith in
    before_large n n [] l
    ∙ ap (λ (k : ℕ). decimal_before k (n / 10) (digit (n % 10) ∷ [])) e
    ∙ before_is n (n - 1) (n / 10) (digit (n % 10) ∷ []) (omega arith) (omega arith)

-- ---- bits

-- the digits of a pattern by their places, from the first on
abbrev pub nibble : ℕ → ℕ → ℕ
nibble bits i = digit (bits / 2 ^ (28 - 4 * i) % 16)

pub nibbles : (bits : ℕ) → first_of (nibble bits) 8 ≡ hexadecimal bits
unfolding first_of hexadecimal
nibbles bits = refl

-- the pattern of a NaN
pub nan_pattern : (c : Float) → ne c c ≡ true → 0x7FC0_0000 ≡ to_bits binary32 c
unfolding to_bits
nan_pattern c e = rw (differs_from_itself c (subst T (sym e) tt)) refl
