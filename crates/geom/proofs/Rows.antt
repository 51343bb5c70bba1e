-- Rows that are read off by their places, as `first_of` does: how many they are, what stands at a place, and rows that are the same.
-- Assumes nothing.
use mathlib.Core.Path.{◌≡◌, refl, sym, ap, ◌∙◌}
use mathlib.Core.Logic.{◌⊎◌, inl, inr}
use mathlib.Core.List.{List, [], ◌∷◌, ◌++◌, map, map-append, flat_map, append_assoc}
use Prim.Native.Nat.{ℕ, zero, suc, ◌<◌}
use native.Mathlib.Nat.{eq-or-lt_of_le}
use native.Mathlib.Omega.{arith}
use lib.ListN.{length, get_or, length-append, get_or-append}
use lib.Seq.{get_or_at}
use Rattle.geom.specs.declared.parity.Parity.TheVariants.{Odd}
use Rattle.geom.specs.Memory.{first_of, parity_of}

pub length_first_of : {A : Type 0} (at : ℕ → A) (n : ℕ) → length (first_of at n) ≡ n
unfolding first_of
length_first_of at zero = refl
length_first_of at (suc n) = simp (length-append, length_first_of at n) (omega arith)

pub get_d_first_of : {A : Type 0} (at : ℕ → A) (d : A) (i n : ℕ) → i < n → get_or (first_of at n) i d ≡ at i
unfolding first_of
get_d_first_of at d i zero h = absurd (omega arith)
get_d_first_of at d i (suc n) h = go (get_d_first_of at d i n) (eq-or-lt_of_le {n = i} {m = n} (omega arith))
  where
    go : (i < n → get_or (first_of at n) i d ≡ at i) → (i ≡ n) ⊎ (i < n) → get_or (first_of at n ++ at n ∷ []) i d ≡ at i
    go rest (inl e) = get_or_at (first_of at n) (at n) [] d i (length_first_of at n ∙ sym e) ∙ ap at (sym e)
    go rest (inr l) = get_or-append (first_of at n) (at n ∷ []) d i (omega (arith, length_first_of at n)) ∙ rest l

pub first_of_same : {A : Type 0} (f g : ℕ → A) (n : ℕ) → ((i : ℕ) → i < n → f i ≡ g i) → first_of f n ≡ first_of g n
unfolding first_of
first_of_same f g zero e = refl
first_of_same f g (suc n) e =
    let p = first_of_same f g n (λ i l. e i (omega arith)) in
    let q = e n (omega arith) in
    cc

pub map_first_of : {A B : Type 0} (f : A → B) (at : ℕ → A) (n : ℕ) → map f (first_of at n) ≡ first_of (λ (i : ℕ). f (at i)) n
unfolding first_of
map_first_of f at zero = refl
map_first_of f at (suc n) =
    map-append f (first_of at n) (at n ∷ []) ∙ ap (λ (r : List _). r ++ f (at n) ∷ []) (map_first_of f at n)

-- a list by its first entry
pub first_of_cons : {A : Type 0} (at : ℕ → A) (n : ℕ) → first_of at (suc n) ≡ at 0 ∷ first_of (λ (i : ℕ). at (suc i)) n
unfolding first_of
first_of_cons at zero = refl
first_of_cons {A} at (suc n) = ap (λ (r : List A). r ++ at (suc n) ∷ []) (first_of_cons at n)

pub flat_map_append : {A B : Type 0} (f : A → List B) (xs ys : List A) → flat_map f (xs ++ ys) ≡ flat_map f xs ++ flat_map f ys
unfolding flat_map
flat_map_append f [] ys = refl
flat_map_append {B = B} f (x ∷ xs) ys =
    ap (λ (r : List B). f x ++ r) (flat_map_append f xs ys) ∙ sym (append_assoc (f x) (flat_map f xs) (flat_map f ys))

-- what stands within a list does not depend on what is given past its end
pub get_d_any : {A : Type 0} (l : List A) (i : ℕ) (d e : A) → i < length l → get_or l i d ≡ get_or l i e
get_d_any [] i d e h = absurd (omega arith)
get_d_any (x ∷ l) zero d e h = refl
get_d_any (x ∷ l) (suc i) d e h = get_d_any l i d e (omega arith)

-- any word but 0 is odd
pub parity_odd : (n : ℕ) → (n ≡ 0 → ⊥) → Odd ≡ parity_of n
parity_odd zero ne = absurd (ne refl)
parity_odd (suc n) ne = refl
