-- How negation goes through products and rounding, and that it changes the sign bit alone. Assumes nothing.
use Rattle.std.proofs.Common.{◌≡◌, ℕ, zero, suc, ◌+◌, ◌*◌, ◌^◌, Bool, true, false, cond, not, T, eqb, ltb, ◌⊎◌, sym, refl, ap, ◌∙◌, inl, inr, arith}
use lib.Ieee.{Float, nan, inf, fin, Format, binary32, prec, emax, low, unlike, up, down, odd, units, round, mul, neg, is_nan, to_bits}
use lib.Ieee.Fits.{round_is}
use lib.Ieee.Order.{drop, kept}
use Rattle.numbers.proofs.Products.{sign_moves}

pub neg_neg : (x : Float) → neg (neg x) ≡ x
unfolding neg
neg_neg nan = refl
neg_neg (inf true) = refl
neg_neg (inf false) = refl
neg_neg (fin true m e) = refl
neg_neg (fin false m e) = refl

-- ---- rounding to nearest is symmetric

odd_neg : (d : ℕ) (s : Bool) (q k l : ℕ) → odd d (not s) q k l ≡ neg (odd d s q k l)
unfolding odd neg
odd_neg d s zero k l = refl
odd_neg d s (suc q) k l = refl

units_neg : (f : Format) (s : Bool) (q k : ℕ) → units f (not s) q k ≡ neg (units f s q k)
unfolding units
units_neg f s q k = go (ltb (q * 2 ^ k) (2 ^ (low f + suc (emax f))))
  where
    go : (b : Bool) → cond b (odd (suc (prec f)) (not s) q k (low f)) (inf (not s)) ≡ neg (cond b (odd (suc (prec f)) s q k (low f)) (inf s))
    go true = odd_neg (suc (prec f)) s q k (low f)
    go false = unfold neg in refl

pub round_neg : (f : Format) (s : Bool) (a c : ℕ) → round f (not s) a c ≡ neg (round f s a c)
round_neg f s a c =
    round_is f (not s) a c
    ∙ units_neg f s (kept (prec f) (a * 2 ^ low f) c) (drop (prec f) (a * 2 ^ low f) c)
    ∙ ap neg (sym (round_is f s a c))

-- ---- products

unlike_turns : (s t : Bool) → unlike s (not t) ≡ not (unlike s t)
unlike_turns true true = refl
unlike_turns true false = refl
unlike_turns false true = refl
unlike_turns false false = refl

unless : (b s : Bool) → cond b nan (inf (not s)) ≡ neg (cond b nan (inf s))
unfolding neg
unless true s = refl
unless false s = refl

-- with one factor negated
pub mul_neg : (f : Format) (x y : Float) → mul f x (neg y) ≡ neg (mul f x y)
unfolding mul neg
mul_neg f nan y = refl
mul_neg f (inf s) nan = refl
mul_neg f (inf s) (inf t) = ap inf (unlike_turns s t)
mul_neg f (inf s) (fin t n d) = ap (λ (u : Bool). cond (eqb n 0) nan (inf u)) (unlike_turns s t) ∙ unless (eqb n 0) (unlike s t)
mul_neg f (fin s m e) nan = refl
mul_neg f (fin s m e) (inf t) = ap (λ (u : Bool). cond (eqb m 0) nan (inf u)) (unlike_turns s t) ∙ unless (eqb m 0) (unlike s t)
mul_neg f (fin s m e) (fin t n d) =
    ap (λ (u : Bool). round f u (m * up e * (n * up d)) (down e * down d)) (unlike_turns s t) ∙ round_neg f (unlike s t) (m * up e * (n * up d)) (down e * down d)

-- with both
pub square_neg : (f : Format) (x : Float) → mul f (neg x) (neg x) ≡ mul f x x
square_neg f x = sign_moves f x (neg x) ∙ ap (mul f x) (neg_neg x)

-- ---- patterns

parts : (a b : ℕ) → 2147483648 + a + b ≡ 0 + a + b + 2147483648
parts a b = omega arith

-- one pattern is the other and 2 ^ 31
pub sign_bit :
    (x : Float) → T (not (is_nan x)) → (to_bits binary32 (neg x) ≡ to_bits binary32 x + 2 ^ 31) ⊎ (to_bits binary32 x ≡ to_bits binary32 (neg x) + 2 ^ 31)
unfolding to_bits neg is_nan
sign_bit nan h = absurd h
sign_bit (inf true) h = inr refl
sign_bit (inf false) h = inl refl
sign_bit (fin true m e) h = inr (parts _ _)
sign_bit (fin false m e) h = inl (parts _ _)
