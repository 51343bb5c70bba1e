-- Lists: what holds of each entry, a list spelled out by its places, the tests on numbers and lists as facts.
-- Assumes nothing.
use mathlib.Core.Path.{◌≡◌, refl, sym, ◌∙◌, ap, subst}
use mathlib.Core.Bool.{Bool, true, false, ◌&&◌}
use mathlib.Core.List.{List, [], ◌∷◌, ◌++◌, map}
use Prim.Native.Nat.{ℕ, zero, suc, ◌<◌}
use native.Mathlib.Omega.{arith}
use lib.Dec.{T, eqb, eqb→eq, eqb_refl, ltb, ltb→lt}
use lib.ListN.{length, take, drop}
use Rattle.geom.specs.Elements.{point_at, pick}
use Rattle.geom.specs.Ledger.{same_list}
use Rattle.geom.specs.Between.{All}

pub all_map : {A : Type 0} {P Q : A → Type 0} → ((x : A) → P x → Q x) → (xs : List A) → All P xs → All Q xs
all_map f [] a = tt
all_map f (x ∷ xs) a = (f x a.0, all_map f xs a.1)

pub all_append : {A : Type 0} (P : A → Type 0) (xs ys : List A) → All P xs → All P ys → All P (xs ++ ys)
all_append P [] ys a b = b
all_append P (x ∷ xs) ys a b = (a.0, all_append P xs ys a.1 b)

-- a fact of each image
pub all_of_map : {A B : Type 0} (P : B → Type 0) (f : A → B) (xs : List A) → All (λ (x : A). P (f x)) xs → All P (map f xs)
all_of_map P f [] a = tt
all_of_map P f (x ∷ xs) a = (a.0, all_of_map P f xs a.1)

pub all_under_map : {A B : Type 0} (P : B → Type 0) (f : A → B) (xs : List A) → All P (map f xs) → All (λ (x : A). P (f x)) xs
all_under_map P f [] a = tt
all_under_map P f (x ∷ xs) a = (a.0, all_under_map P f xs a.1)

-- a fact that holds everywhere
pub all_each : {A : Type 0} {P : A → Type 0} → ((x : A) → P x) → (xs : List A) → All P xs
all_each f [] = tt
all_each f (x ∷ xs) = (f x, all_each f xs)

pub all_take : {A : Type 0} (P : A → Type 0) (n : ℕ) (xs : List A) → All P xs → All P (take n xs)
all_take P zero xs a = tt
all_take P (suc n) [] a = tt
all_take P (suc n) (x ∷ xs) a = (a.0, all_take P n xs a.1)

pub all_drop : {A : Type 0} (P : A → Type 0) (n : ℕ) (xs : List A) → All P xs → All P (drop n xs)
all_drop P zero xs a = a
all_drop P (suc n) [] a = tt
all_drop P (suc n) (x ∷ xs) a = all_drop P n xs a.1

-- the entry at a place, or 0 past the end
pub all_at : (n : ℕ) (xs : List ℕ) → zero < n → All (λ (x : ℕ). x < n) xs → (i : ℕ) → point_at xs i < n
all_at n [] z a i = z
all_at n (x ∷ xs) z a zero = a.0
all_at n (x ∷ xs) z a (suc i) = all_at n xs z a.1 i

-- the numbers from i on, k of them
abbrev pub up_from : ℕ → ℕ → List ℕ
up_from i zero = []
up_from i (suc k) = i ∷ up_from (suc i) k

-- a test that is true or false, with the equation
pub true_is : (b : Bool) → T b → b ≡ true
true_is true t = refl
true_is false t = absurd t

pub same_number : (m n : ℕ) → eqb m n ≡ true → m ≡ n
same_number m n e = eqb→eq m n (subst T (sym e) tt)

pub eqb_same : (n : ℕ) → eqb n n ≡ true
eqb_same n = true_is (eqb n n) (eqb_refl n)

pub below_number : (m n : ℕ) → ltb m n ≡ true → m < n
below_number m n e = ltb→lt m n (subst T (sym e) tt)

pub and_true_left : (a b : Bool) → (a && b) ≡ true → a ≡ true
and_true_left true b e = refl
and_true_left false b e = e

pub and_true_right : (a b : Bool) → (a && b) ≡ true → b ≡ true
and_true_right true b e = e
and_true_right false b e = let z : ◌≡◌ {A = ℕ} 0 1 = cc in absurd (omega arith)

pub and_true : (b : Bool) → (b && true) ≡ b
and_true true = refl
and_true false = refl

pub and_false : (b : Bool) → (b && false) ≡ false
and_false true = refl
and_false false = refl

pub same_list_lem : (xs ys : List ℕ) → same_list xs ys ≡ true → xs ≡ ys
unfolding same_list
same_list_lem [] [] e = refl
same_list_lem [] (y ∷ ys) e = let z : ◌≡◌ {A = ℕ} 0 1 = cc in absurd (omega arith)
same_list_lem (x ∷ xs) [] e = let z : ◌≡◌ {A = ℕ} 0 1 = cc in absurd (omega arith)
same_list_lem (x ∷ xs) (y ∷ ys) e =
    let p = same_number x y (and_true_left (eqb x y) (same_list xs ys) e) in
    let q = same_list_lem xs ys (and_true_right (eqb x y) (same_list xs ys) e) in
    cc

pub same_list_same : (xs : List ℕ) → same_list xs xs ≡ true
unfolding same_list
same_list_same [] = refl
same_list_same (x ∷ xs) = rw (eqb_same x) (same_list_same xs)

pub same_list_other : (xs ys : List ℕ) → (xs ≡ ys → ⊥) → same_list xs ys ≡ false
same_list_other xs ys ne = go (same_list xs ys) refl
  where
    go : (b : Bool) → same_list xs ys ≡ b → b ≡ false
    go true e = absurd (ne (same_list_lem xs ys e))
    go false e = refl

-- the places behind the first entry
after_first : (x : ℕ) (xs : List ℕ) (i k : ℕ) → map (point_at (x ∷ xs)) (up_from (suc i) k) ≡ map (point_at xs) (up_from i k)
after_first x xs i zero = refl
after_first x xs i (suc k) = ap (λ (l : List ℕ). point_at xs i ∷ l) (after_first x xs (suc i) k)

-- a list is the list of its places
pub spelled : (k : ℕ) (xs : List ℕ) → length xs ≡ k → xs ≡ pick xs (up_from 0 k)
unfolding pick
spelled zero [] e = refl
spelled (suc k) [] e = absurd (omega arith)
spelled zero (x ∷ xs) e = absurd (omega arith)
spelled (suc k) (x ∷ xs) e = ap (λ (l : List ℕ). x ∷ l) (spelled k xs (omega arith) ∙ sym (after_first x xs 0 k))
