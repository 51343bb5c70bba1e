-- Sums and signs of whole numbers, over variables.
-- Assumes nothing.
use mathlib.Core.Path.{◌≡◌, refl, sym, ◌∙◌, ap}
use lib.IntN.{ℤ, pos, ◌+ℤ◌, neg_ℤ, +ℤ_idl, +ℤ_idr, +ℤ_assoc, +ℤ_comm, +ℤ_invl, neg_ℤ-neg_ℤ, neg_ℤ-+ℤ}
use Rattle.geom.specs.declared.parity.Parity.{Parity}
use Rattle.geom.specs.declared.parity.Parity.TheVariants.{Even, Odd}
use Rattle.geom.specs.Parity.{times, flipped}
use Rattle.geom.specs.Ledger.{signed}

-- sums of sums regroup
pub regroup : (a b c d : ℤ) → (a +ℤ b) +ℤ (c +ℤ d) ≡ (a +ℤ c) +ℤ (b +ℤ d)
regroup a b c d =
    +ℤ_assoc a b (c +ℤ d)
    ∙ ap (λ (x : ℤ). a +ℤ x) (sym (+ℤ_assoc b c d) ∙ ap (λ (x : ℤ). x +ℤ d) (+ℤ_comm b c) ∙ +ℤ_assoc c b d)
    ∙ sym (+ℤ_assoc a c (b +ℤ d))

-- two numbers are equal where their difference is 0
pub equal_of_difference : (a b : ℤ) → a +ℤ neg_ℤ b ≡ pos 0 → a ≡ b
equal_of_difference a b e =
    sym (+ℤ_idr a)
    ∙ ap (λ (x : ℤ). a +ℤ x) (sym (+ℤ_invl b))
    ∙ sym (+ℤ_assoc a (neg_ℤ b) b)
    ∙ ap (λ (x : ℤ). x +ℤ b) e
    ∙ +ℤ_idl b

-- a summand that stands in front of one of two others goes to either
pub front : (a b c : ℤ) → a +ℤ (b +ℤ c) ≡ b +ℤ (a +ℤ c)
front a b c = sym (+ℤ_assoc a b c) ∙ ap (λ (x : ℤ). x +ℤ c) (+ℤ_comm a b) ∙ +ℤ_assoc b a c

pub signed_zero : (p : Parity) → signed p (pos 0) ≡ pos 0
signed_zero Even = refl
signed_zero Odd = refl

pub signed_add : (p : Parity) (a b : ℤ) → signed p (a +ℤ b) ≡ signed p a +ℤ signed p b
signed_add Even a b = refl
signed_add Odd a b = neg_ℤ-+ℤ a b

pub signed_times : (p q : Parity) (a : ℤ) → signed (times p q) a ≡ signed p (signed q a)
signed_times Even q a = refl
signed_times Odd Even a = refl
signed_times Odd Odd a = sym (neg_ℤ-neg_ℤ a)

pub signed_flipped : (p : Parity) (a : ℤ) → signed (flipped p) a ≡ neg_ℤ (signed p a)
signed_flipped Even a = refl
signed_flipped Odd a = sym (neg_ℤ-neg_ℤ a)

pub signed_swap : (p q : Parity) (a : ℤ) → signed p (signed q a) ≡ signed q (signed p a)
signed_swap Even q a = refl
signed_swap Odd Even a = refl
signed_swap Odd Odd a = refl
