-- `division::elements::arrange` meets its contract: the points stay, or are put in order elsewhere and copied back. Assumes nothing.
use mathlib.Core.Path.{◌≡◌, refl, sym, subst}
use mathlib.Core.Bool.{true}
use Prim.Native.Nat.{ℕ}
use lib.Seq.{length-take-le}
use Rattle.division.specs.Shapes.{below}
use Rattle.division.proofs.Divided.{order_length, arranged_none, arranged}
use native.Mathlib.Omega.{arith}
use Rattle.division.proofs.elements.arrange.Goals as goal

pub returns-then-order-eq0 : goal.returns-then-order-eq0
returns-then-order-eq0 c =
    arranged_none c.args.count c.args.order.now c.args.points.now c.if-order-eq0.true c.requires.count_in_bounds

pub piece-requires : goal.piece-requires
piece-requires c =
    let t = length-take-le c.args.count c.args.points.now c.requires.count_in_bounds in
    let long = order_length c.args.count c.args.order.now c.if-order-eq0.false c.requires.order_len in
    record { table_value = subst (λ (x : ℕ). below x c.args.order.now ≡ true) (sym t) c.requires.order_value; count_in_bounds = omega arith; count_in_bounds_2 = omega (arith, c.requires.count_bound) }

pub returns : goal.returns
returns c =
    arranged c.args.count c.args.order.now c.args.points.now _ c.if-order-eq0.false c.requires.order_len refl c.piece.ensures c.load.ensures
