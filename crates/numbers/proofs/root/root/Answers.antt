-- `numbers::root::root` meets its contract, case by case of the pattern (`RootOf.antt`): x is what its pattern stands for, and what is made of the pattern
-- of the root is the root. Assumes nothing.
use Rattle.std.proofs.Common.{true, ◌≡◌, ◌^◌, ◌<◌, T, sym, ap, ◌∙◌, subst, arith}
use lib.Ieee.{Float, binary32, fits, of_bits, to_bits}
use lib.Ieee.Bits.{of_bits-fits, of_bits-to_bits, to_bits-lt}
use Rattle.numbers.specs.Root.{root}
use Rattle.numbers.proofs.Patterns.{below_infinity}
use Rattle.numbers.proofs.RootOf.{root_of_nan, root_of_own, root_of_negative, root_fits}
use Rattle.numbers.proofs.root.root.Goals as goal

-- what owning an f32 tells: the format holds it
held : (x : Float) → fits binary32 x ≡ true → T (fits binary32 x)
held x e = subst T (sym e) tt

own : (x : Float) → fits binary32 x ≡ true → of_bits binary32 (to_bits binary32 x) ≡ x
own x e = of_bits-to_bits binary32 x (held x e)

small : (x : Float) → fits binary32 x ≡ true → to_bits binary32 x < 2 ^ 32
small x e = to_bits-lt binary32 x (held x e)

pub returns-then-is_nan : goal.returns-then-is_nan
returns-then-is_nan c = sym (root_of_nan _ (sym c.is_nan.ensures.value ∙ c.if-is_nan.true))

pub float_from_bits-result : goal.float_from_bits-result
float_from_bits-result c = below_infinity binary32 _ c.root_bits.ensures.1

pub returns-then-bits : goal.returns-then-bits
returns-then-bits c =
    ap (of_bits binary32) c.root_bits.ensures.0
    ∙ of_bits-to_bits binary32 _ (root_fits _ (of_bits-fits binary32 _))
    ∙ ap root (own c.args.x c.well_formed.0.1)

pub returns-then-bits-gt-SIGN : goal.returns-then-bits-gt-SIGN
returns-then-bits-gt-SIGN c =
    c.not_a_number.ensures ∙ sym (ap root (sym (own c.args.x c.well_formed.0.1)) ∙ root_of_negative _ c.if-bits-gt-SIGN.true (small c.args.x c.well_formed.0.1))

pub returns : goal.returns
returns c =
    sym (subst (λ (v : Float). root v ≡ v) (own c.args.x c.well_formed.0.1) (root_of_own _ c.if-bits.false (omega (arith, c.if-bits-gt-SIGN.false))))
