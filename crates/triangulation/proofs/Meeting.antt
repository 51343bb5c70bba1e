-- Whether a piece has equal neighbours in its list, pair by pair.
-- Assumes nothing.
use mathlib.Core.Path.{◌≡◌, refl, sym, ◌∙◌, ap}
use mathlib.Core.Bool.{Bool, true, false, ◌||◌}
use mathlib.Core.List.{List, [], ◌∷◌}
use Prim.Native.Nat.{ℕ, suc, ◌+◌, ◌-◌, ◌<◌, ◌≤◌}
use native.Mathlib.Omega.{arith}
use native.Mathlib.Nat.{add-zero}
use native.Mathlib.Numerals.{add-one}
use lib.Dec.{eqb}
use lib.ListN.{length, get_or, take, drop}
use borrow.Author.Tests.{eq-eqb, ne_eqb}
use Rattle.geom.specs.Book.{Pair, pair}
use Rattle.geom.specs.Elements.{point_at, pick, shut, flat}
use Rattle.geom.specs.Memory.{first_of}
use Rattle.geom.proofs.Lists.{and_true}
use Rattle.division.proofs.Flats.{corner_at, flat_snoc, flat_along}
use Rattle.triangulation.specs.Cutting.{neighbours}

-- the first corner of a piece, by its row of the table
pub corner_first :
    (points table : List ℕ) (from k : ℕ) → from + suc k ≤ length table → 0 < k
    → get_or points (get_or table from 0) 0 ≡ point_at (pick points (take k (drop from table))) 0
corner_first points table from k row l =
    ap (λ (j : ℕ). get_or points (get_or table j 0) 0) (sym (add-zero from)) ∙ corner_at points table from k 0 row l

-- a pair of neighbours
abbrev next : ℕ → List Pair
next i = pair i (suc i) ∷ []

-- whether they are equal
shut_next : (cs : List ℕ) (i : ℕ) → shut cs (next i) ≡ eqb (point_at cs i) (point_at cs (suc i))
unfolding shut
shut_next cs i = and_true (eqb (point_at cs i) (point_at cs (suc i)))

-- the first i pairs of neighbours are unequal, and `last` is the corner reached
pub record Meeting (cs : List ℕ) (size i last : ℕ) : Type 0 where
  pub within : i ≤ size - 1
  pub reached : last ≡ point_at cs i
  pub none : flat (first_of next i) cs ≡ false

module _ {cs : List ℕ} {size : ℕ} where
  pub meeting_start : {last : ℕ} → last ≡ point_at cs 0 → Meeting cs size 0 last
  unfolding first_of flat
  meeting_start e = record { within = omega arith; reached = e; none = refl }

  module _ {i last after : ℕ} (m : Meeting cs size i last) (l : i < size - 1) (e : after ≡ point_at cs (i + 1)) where
    there : after ≡ point_at cs (suc i)
    there = e ∙ ap (point_at cs) (add-one i)

    pub meeting_found : last ≡ after → true ≡ flat (neighbours size) cs
    unfolding neighbours
    meeting_found q =
        sym (flat_along cs next i (size - 1) l (shut_next cs i ∙ eq-eqb _ _ (sym m.reached ∙ q ∙ there)))

    pub meeting_on : (last ≡ after → ⊥) → Meeting cs size (i + 1) after
    unfolding first_of
    meeting_on ne =
        let apart : eqb (point_at cs i) (point_at cs (suc i)) ≡ false = ne_eqb _ _ (λ q. ne (m.reached ∙ q ∙ sym there)) in
        record {
          within = omega arith;
          reached = e;
          none =
              ap (λ (j : ℕ). flat (first_of next j) cs) (add-one i)
              ∙ flat_snoc cs (first_of next i) (next i)
              ∙ ap (λ (b : Bool). b || shut cs (next i)) m.none
              ∙ shut_next cs i
              ∙ apart;
        }

  pub meeting_done : {i last : ℕ} → Meeting cs size i last → size - 1 ≤ i → false ≡ flat (neighbours size) cs
  unfolding neighbours
  meeting_done {i} m l =
      let e : i ≡ size - 1 = omega (arith, m.within) in
      sym m.none ∙ ap (λ (j : ℕ). flat (first_of next j) cs) e
