-- `numbers::vec4::mean` meets its contract: the corners passed are added, in their order. Assumes nothing.
use Rattle.std.proofs.Common.{◌≡◌, sym, ◌∙◌, ap, ℕ, ◌+◌, ◌<◌, ◌≤◌, List, length, get_or, drop, arith, add-one}
use Rattle.std.proofs.Math.Seq.{drop-cons}
use Rattle.std.proofs.Math.ListN.{drop_of_length-le}
use Rattle.numbers.specs.declared.vec4.Vec4.{Vec4}
use Rattle.numbers.specs.Binary32.{count}
use Rattle.numbers.specs.Points4.{sum, quotient, origin, added, mean}
use Rattle.numbers.proofs.vec4.mean.Goals as goal

-- the corner read is that of place i: k is how the code writes the place, asked for as a number
one_more : (s t r d : Vec4) (cs : List Vec4) (i k : ℕ) → t ≡ sum s (get_or cs k d) → k ≡ i → i < length cs → added s (drop i cs) ≡ r → added t (drop (i + 1) cs) ≡ r
unfolding added
one_more s t r d cs i k e at h q = rw (add-one, e, at) (ap (added s) (sym (drop-cons cs i d h)) ∙ q)

all : (s r : Vec4) (cs : List Vec4) (i : ℕ) → length cs ≤ i → added s (drop i cs) ≡ added origin cs → r ≡ quotient s (count (length cs)) → r ≡ mean cs
unfolding added mean
all s r cs i h e q = q ∙ ap (λ (p : Vec4). quotient p (count (length cs))) (ap (added s) (sym (drop_of_length-le cs h)) ∙ e)

pub loop-i-preserved : goal.loop-i-preserved
loop-i-preserved g c = one_more _ _ _ _ c.args.corners c.loop-i.i _ c.add-sum.ensures (omega arith) (omega arith) c.loop-i.invariant

pub returns : goal.returns
returns g c =
    let n : length c.args.corners ≡ g.row.N = omega arith in
    all _ _ c.args.corners c.loop-i.i (omega arith) c.loop-i.invariant (c.over.ensures ∙ ap (quotient c.loop-i.sum) (rw n c.count.ensures))
