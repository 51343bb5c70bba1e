-- The side that was picked is that of the pass count, and where the part that is handed out stands.
-- Assumes nothing.
use mathlib.Core.Path.{◌≡◌, refl, sym, ◌∙◌, ap}
use mathlib.Core.Bool.{Bool, cond}
use mathlib.Core.List.{List, [], ◌∷◌}
use Prim.Native.Nat.{ℕ, ◌%◌, ◌≤◌}
use native.Mathlib.Omega.{arith}
use lib.Dec.{eqb}
use lib.ListN.{length, take, length-take}
use lib.Seq.{take-take, take-length}
use Rattle.geom.specs.Refusals.{side}
use Rattle.left.specs.Place.{Placed}

-- by a test r of the pass count, which ended as t
pub picked :
    {A : Type 0} (passes : ℕ) (first second : A) {x : A} {r t : Bool} → r ≡ eqb (passes % 2) 0 → r ≡ t → x ≡ cond t first second
    → x ≡ side passes first second
unfolding side
picked passes first second is e s = s ∙ ap (λ (b : Bool). cond b first second) (sym e ∙ is)

-- as many words as a list's part has are that part
pub part_again : {A : Type 0} (n : ℕ) (l : List A) → take (length (take n l)) l ≡ take n l
part_again n l =
    let h : length (take n l) ≤ n = rw length-take (omega arith) in
    sym (take-take (length (take n l)) n l h) ∙ take-length (take n l)

-- the part that was handed out, as its bench and its length
pub placed : {A : Type 0} (passes words : ℕ) (first second part : List A) → part ≡ take words (side passes first second)
    → Placed passes words first second (passes % 2 ∷ length part ∷ [])
unfolding side
placed passes words first second part e =
    record {
      bench = refl;
      count = ap length e;
      part = ap (λ (l : List _). take (length l) (side passes first second)) e ∙ part_again words (side passes first second);
    }
