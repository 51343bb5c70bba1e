-- Tables of places.
-- Assumes nothing.
use mathlib.Core.Path.{◌≡◌, refl, ◌∙◌, ap}
use mathlib.Core.Bool.{Bool, true, ◌&&◌}
use mathlib.Core.List.{List, [], ◌∷◌}
use Prim.Native.Nat.{ℕ, zero, suc, ◌<◌}
use native.Mathlib.Omega.{arith}
use lib.Dec.{ltb}
use lib.ListN.{length, get_or}
use borrow.Author.Tests.{lt-ltb}
use Rattle.geom.proofs.Lists.{below_number, and_true_left, and_true_right}
use Rattle.division.specs.Shapes.{below}

-- each place of a table is below the bound
pub below_at : (n : ℕ) (xs : List ℕ) → below n xs ≡ true → (i : ℕ) → i < length xs → get_or xs i 0 < n
unfolding below
below_at n [] e i l = absurd (omega arith)
below_at n (x ∷ xs) e zero l = below_number x n (and_true_left (ltb x n) (below n xs) e)
below_at n (x ∷ xs) e (suc i) l = below_at n xs (and_true_right (ltb x n) (below n xs) e) i (omega arith)

-- and a list of such places is below it
pub below_all : (n : ℕ) (xs : List ℕ) → ((i : ℕ) → i < length xs → get_or xs i 0 < n) → below n xs ≡ true
unfolding below
below_all n [] h = refl
below_all n (x ∷ xs) h =
    ap (λ (b : Bool). b && below n xs) (lt-ltb x n (h 0 (omega arith))) ∙ below_all n xs (λ i l. h (suc i) (omega arith))
