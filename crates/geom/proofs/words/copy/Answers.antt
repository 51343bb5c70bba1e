-- `geom::words::copy` meets its contract: the items passed are copied. Assumes nothing.
use mathlib.Core.Path.{◌≡◌, sym, ◌∙◌, ap, ap₂}
use mathlib.Core.List.{List, ◌++◌}
use Prim.Native.Nat.{ℕ, ◌+◌, ◌<◌}
use native.Mathlib.Nat.{zero-add}
use native.Mathlib.Numerals.{add-one}
use native.Mathlib.Omega.{arith}
use lib.ListN.{length, get_or, take, drop, set}
use lib.Seq.{length-take-le, paste, paste-suc}
use Rattle.geom.specs.Memory.{over}
use Rattle.geom.proofs.words.copy.Goals as goal

-- an item more
copied_on : {A : Type 0} (from to now : List A) (i : ℕ) (d : A) → now ≡ paste to 0 from i → i < length from → i < length to → set now i (get_or from i d) ≡ paste to 0 from (i + 1)
copied_on from to now i d e h k =
    ap₂ (λ (w : List _) (j : ℕ). set w j (get_or from i d)) e (sym (zero-add i))
    ∙ paste-suc to 0 from i d (omega arith) (omega arith)
    ∙ ap (paste to 0 from) (sym (add-one i))

pub loop-i-preserved : goal.loop-i-preserved
loop-i-preserved g c =
    rw (c.index-from-i.is) (copied_on c.args.from.now c.args.to.now c.loop-i.to c.loop-i.i _ c.loop-i.invariant (omega arith) (omega arith))

pub returns : goal.returns
unfolding over
returns g c =
    let e : c.loop-i.i ≡ c.args.count = omega arith in
    c.loop-i.invariant
    ∙ ap (paste c.args.to.now 0 c.args.from.now) e
    ∙ ap (λ (k : ℕ). take c.args.count c.args.from.now ++ drop k c.args.to.now) (zero-add c.args.count ∙ sym (length-take-le c.args.count c.args.from.now c.requires.count_in_bounds))
