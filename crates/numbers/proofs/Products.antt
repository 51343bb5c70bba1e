-- IEEE 754's product does not depend on the order of its factors, nor on which of them has the minus sign, not by a bit, since there is one NaN: so where
-- a definition writes a factor or a sign makes no difference. Assumes nothing.
use Rattle.std.proofs.Common.{◌≡◌, ◌*◌, Bool, true, false, cond, not, eqb, refl, ap, ◌∙◌, ap₂, mul_comm}
use lib.Ieee.{Float, Format, nan, inf, fin, unlike, up, down, round, mul, neg}

unlike_comm : (s t : Bool) → unlike s t ≡ unlike t s
unlike_comm true true = refl
unlike_comm true false = refl
unlike_comm false true = refl
unlike_comm false false = refl

pub product_commutes : (f : Format) (x y : Float) → mul f x y ≡ mul f y x
unfolding mul
product_commutes f nan nan = refl
product_commutes f nan (inf t) = refl
product_commutes f nan (fin t n d) = refl
product_commutes f (inf s) nan = refl
product_commutes f (inf s) (inf t) = ap inf (unlike_comm s t)
product_commutes f (inf s) (fin t n d) = ap (λ (u : Bool). cond (eqb n 0) nan (inf u)) (unlike_comm s t)
product_commutes f (fin s m e) nan = refl
product_commutes f (fin s m e) (inf t) = ap (λ (u : Bool). cond (eqb m 0) nan (inf u)) (unlike_comm s t)
product_commutes f (fin s m e) (fin t n d) =
    ap (λ (u : Bool). round f u (m * up e * (n * up d)) (down e * down d)) (unlike_comm s t)
    ∙ ap₂ (round f (unlike t s)) (mul_comm (m * up e) (n * up d)) (mul_comm (down e) (down d))

unlike_not : (s t : Bool) → unlike (not s) t ≡ unlike s (not t)
unlike_not true true = refl
unlike_not true false = refl
unlike_not false true = refl
unlike_not false false = refl

pub sign_moves : (f : Format) (x y : Float) → mul f (neg x) y ≡ mul f x (neg y)
unfolding mul neg
sign_moves f nan y = refl
sign_moves f (inf s) nan = refl
sign_moves f (inf s) (inf t) = ap inf (unlike_not s t)
sign_moves f (inf s) (fin t n d) = ap (λ (u : Bool). cond (eqb n 0) nan (inf u)) (unlike_not s t)
sign_moves f (fin s m e) nan = refl
sign_moves f (fin s m e) (inf t) = ap (λ (u : Bool). cond (eqb m 0) nan (inf u)) (unlike_not s t)
sign_moves f (fin s m e) (fin t n d) = ap (λ (u : Bool). round f u (m * up e * (n * up d)) (down e * down d)) (unlike_not s t)
