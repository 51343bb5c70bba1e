-- Sums over all lists of k numbers below n: they add, a sum of nothing is 0, and a sum with one summand is that summand.
-- Assumes nothing.
use mathlib.Core.Path.{◌≡◌, refl, ◌∙◌, ap, ap₂}
use mathlib.Core.List.{List, [], ◌∷◌}
use Prim.Native.Nat.{ℕ, zero, suc, ◌<◌}
use native.Mathlib.Omega.{arith}
use native.Mathlib.Decide.{ℕ_discrete}
use lib.IntN.{ℤ, pos, ◌+ℤ◌, +ℤ_idl, +ℤ_idr}
use Rattle.geom.specs.Ledger.{sum_below, sum_lists}
use Rattle.geom.specs.Between.{Fits}
use Rattle.geom.proofs.Integers.{regroup}

below_add : (n : ℕ) (f g : ℕ → ℤ) → sum_below n (λ (i : ℕ). f i +ℤ g i) ≡ sum_below n f +ℤ sum_below n g
unfolding sum_below
below_add zero f g = refl
below_add (suc n) f g =
    ap (λ (x : ℤ). x +ℤ (f n +ℤ g n)) (below_add n f g) ∙ regroup (sum_below n f) (sum_below n g) (f n) (g n)

below_ext : (n : ℕ) (f g : ℕ → ℤ) → ((i : ℕ) → i < n → f i ≡ g i) → sum_below n f ≡ sum_below n g
unfolding sum_below
below_ext zero f g h = refl
below_ext (suc n) f g h =
    ap₂ (λ (x y : ℤ). x +ℤ y) (below_ext n f g (λ i l. h i (omega arith))) (h n (omega arith))

below_zero : (n : ℕ) → sum_below n (λ (i : ℕ). pos 0) ≡ pos 0
unfolding sum_below
below_zero zero = refl
below_zero (suc n) = +ℤ_idr (sum_below n (λ (i : ℕ). pos 0)) ∙ below_zero n

-- one summand
below_one : (n j : ℕ) (f : ℕ → ℤ) → j < n → ((i : ℕ) → i < n → (i ≡ j → ⊥) → f i ≡ pos 0) → sum_below n f ≡ f j
unfolding sum_below
below_one zero j f l h = absurd (omega arith)
below_one (suc n) j f l h = go (below_one n j f) (ℕ_discrete n j)
  where
    go : (j < n → ((i : ℕ) → i < n → (i ≡ j → ⊥) → f i ≡ pos 0) → sum_below n f ≡ f j) → Dec (n ≡ j) → sum_below n f +ℤ f n ≡ f j
    go ih (yes e) =
        ap₂ (λ (x y : ℤ). x +ℤ y) (below_ext n f (λ (i : ℕ). pos 0) (λ i k. h i (omega arith) (λ q. omega arith)) ∙ below_zero n) (ap f e)
        ∙ +ℤ_idl (f j)
    go ih (no d) =
        ap₂ (λ (x y : ℤ). x +ℤ y) (ih (omega arith) (λ i k. h i (omega arith))) (h n (omega arith) d) ∙ +ℤ_idr (f j)

pub lists_add : (n k : ℕ) (f g : List ℕ → ℤ) → sum_lists n k (λ (c : List ℕ). f c +ℤ g c) ≡ sum_lists n k f +ℤ sum_lists n k g
unfolding sum_lists
lists_add n zero f g = refl
lists_add n (suc k) f g =
    below_ext n
    (λ (i : ℕ). sum_lists n k (λ (c : List ℕ). f (i ∷ c) +ℤ g (i ∷ c)))
    (λ (i : ℕ). sum_lists n k (λ (c : List ℕ). f (i ∷ c)) +ℤ sum_lists n k (λ (c : List ℕ). g (i ∷ c)))
    (λ i l. lists_add n k (λ (c : List ℕ). f (i ∷ c)) (λ (c : List ℕ). g (i ∷ c)))
    ∙ below_add n (λ (i : ℕ). sum_lists n k (λ (c : List ℕ). f (i ∷ c))) (λ (i : ℕ). sum_lists n k (λ (c : List ℕ). g (i ∷ c)))

-- where every list of k numbers below n adds 0
pub lists_none : (n k : ℕ) (f : List ℕ → ℤ) → ((c : List ℕ) → Fits n k c → f c ≡ pos 0) → sum_lists n k f ≡ pos 0
unfolding sum_lists
lists_none n zero f h = h [] (record { long = refl; below = tt })
lists_none n (suc k) f h =
    below_ext n (λ (i : ℕ). sum_lists n k (λ (c : List ℕ). f (i ∷ c))) (λ (i : ℕ). pos 0)
    (λ i l. lists_none n k (λ (c : List ℕ). f (i ∷ c))
    (λ c w. h (i ∷ c) (record { long = ap suc w.long; below = (l, w.below) })))
    ∙ below_zero n

-- one summand
pub lists_one :
    (n k : ℕ) (d : List ℕ) (f : List ℕ → ℤ) → Fits n k d → ((c : List ℕ) → Fits n k c → (c ≡ d → ⊥) → f c ≡ pos 0) → sum_lists n k f ≡ f d
unfolding sum_lists
lists_one n zero [] f w h = refl
lists_one n zero (x ∷ d) f w h = absurd (omega (arith, w.long))
lists_one n (suc k) [] f w h = absurd (omega (arith, w.long))
lists_one n (suc k) (x ∷ d) f w h =
    below_one n x (λ (i : ℕ). sum_lists n k (λ (c : List ℕ). f (i ∷ c))) w.below.0
    (λ i l ne. lists_none n k (λ (c : List ℕ). f (i ∷ c))
    (λ c v. h (i ∷ c) (record { long = ap suc v.long; below = (l, v.below) }) (λ e. ne (cc))))
    ∙ lists_one n k d (λ (c : List ℕ). f (x ∷ c)) (record { long = omega (arith, w.long); below = w.below.1 })
    (λ c v ne. h (x ∷ c) (record { long = ap suc v.long; below = (w.below.0, v.below) }) (λ e. ne (cc)))
