-- From cells to definitions, over the width of a row: words copied, rows written one after the other, read back, and written over what a slice held.
-- Assumes nothing.
use mathlib.Core.Path.{◌≡◌, refl, sym, ◌∙◌, ap, ap₂}
use mathlib.Core.List.{List, [], ◌∷◌, ◌++◌, flat_map, append-nil, append_assoc}
use Prim.Native.Nat.{ℕ, zero, suc, ◌+◌, ◌*◌, ◌≤◌, ◌<◌}
use native.Mathlib.Nat.{mul-add, mul-suc, zero-add}
use native.Mathlib.Numerals.{add-one, towards_suc}
use native.Mathlib.Omega.{arith}
use lib.ListN.{length, get_or, take, drop, set, length-append, length-drop}
use lib.Seq.{sets, sets-eq, get_or-set_other, get_or-drop, length-take-le, take-suc, take-add}
use Rattle.geom.specs.Memory.{first_of, over}
use Rattle.geom.proofs.Rows.{length_first_of}

pub three_stores : {A : Type 0} (l : List A) (a : ℕ) (x y z : A) → set (set (set l a x) (a + 1) y) (a + 2) z ≡ sets l a (x ∷ y ∷ z ∷ [])
three_stores l a x y z = simp towards_suc

-- the first n words of a list, copied over the start of another
pub copied : {A : Type 0} (from to : List A) (n : ℕ) (now : List A) → n ≤ length from → now ≡ take n from → now ++ drop n to ≡ over to (take n from)
unfolding over
copied from to n now h e = ap₂ (λ (l : List _) (k : ℕ). l ++ drop k to) e (sym (length-take-le n from h))

-- ---- rows read by place

-- a part of the words, and the word behind it
pub part_on : {A : Type 0} (words : List A) (start k : ℕ) (d : A) → start + k < length words
    → take (k + 1) (drop start words) ≡ take k (drop start words) ++ get_or words (start + k) d ∷ []
part_on {A} words start k d h =
    let l : k < length (drop start words) = simp length-drop (omega arith) in
    ap (λ (n : ℕ). take n (drop start words)) (add-one k) ∙ take-suc (drop start words) k d l
    ∙ ap (λ (x : A). take k (drop start words) ++ x ∷ []) (get_or-drop start words k d)

-- a part, word by word
part_read : {A : Type 0} (words : List A) (start k : ℕ) (d : A) → start + k ≤ length words
    → first_of (λ (j : ℕ). get_or words (start + j) d) k ≡ take k (drop start words)
unfolding first_of
part_read words start zero d h = refl
part_read {A} words start (suc k) d h =
    ap (λ (l : List A). l ++ get_or words (start + k) d ∷ []) (part_read words start k d (omega arith))
    ∙ sym (rw add-one at (part_on words start k d (omega arith)))

-- ---- rows written one after the other

sets_append : {A : Type 0} (l : List A) (a : ℕ) (ws us : List A) → sets l a (ws ++ us) ≡ sets (sets l a ws) (a + length ws) us
sets_append l a [] us = let e : a + 0 ≡ a = omega arith in rw e refl
sets_append l a (x ∷ ws) us =
    let e : a + suc (length ws) ≡ suc a + length ws = omega arith in
    rw e (sets_append (set l a x) (suc a) ws us)

-- past what was written nothing has changed
pub get_d_sets_past : {A : Type 0} (l : List A) (a : ℕ) (ws : List A) (j : ℕ) (d : A) → a + length ws ≤ j → get_or (sets l a ws) j d ≡ get_or l j d
get_d_sets_past l a [] j d h = refl
get_d_sets_past l a (x ∷ ws) j d h =
    get_d_sets_past (set l a x) (suc a) ws j d (omega arith) ∙ get_or-set_other l a j x d (λ e. omega arith)

pub sets_over : {A : Type 0} (l ws : List A) → length ws ≤ length l → sets l 0 ws ≡ over l ws
unfolding over
sets_over l ws h = let e : 0 + length ws ≡ length ws = omega arith in sets-eq ws l 0 (omega arith) ∙ ap (λ (n : ℕ). ws ++ drop n l) e

module _ {A B : Type 0} (f : A → List B) where
  flat_append : (xs ys : List A) → flat_map f (xs ++ ys) ≡ flat_map f xs ++ flat_map f ys
  unfolding flat_map
  flat_append [] ys = refl
  flat_append (x ∷ xs) ys = ap (λ (l : List B). f x ++ l) (flat_append xs ys) ∙ sym (append_assoc (f x) (flat_map f xs) (flat_map f ys))

  module _ (width : ℕ) (wide : (x : A) → length (f x) ≡ width) where
    pub length_flat : (xs : List A) → length (flat_map f xs) ≡ width * length xs
    unfolding flat_map
    length_flat [] = omega arith
    length_flat (x ∷ xs) = length-append (f x) (flat_map f xs) ∙ omega (arith, wide x, length_flat xs, mul-suc width (length xs))

    flat_more : (item : ℕ → A) (i : ℕ) → flat_map f (first_of item (i + 1)) ≡ flat_map f (first_of item i) ++ f (item i)
    unfolding first_of flat_map
    flat_more item i =
        rw add-one (flat_append (first_of item i) (item i ∷ []) ∙ ap (λ (r : List B). flat_map f (first_of item i) ++ r) (append-nil (f (item i))))

    -- rows that hold what was read at their places are the words that they were read from
    pub flat_read : (item : ℕ → A) (words : List B) (d : B) → ((i : ℕ) → f (item i) ≡ first_of (λ (k : ℕ). get_or words (width * i + k) d) width)
        → (n : ℕ) → width * n ≤ length words → flat_map f (first_of item n) ≡ take (width * n) words
    unfolding first_of flat_map
    flat_read item words d at zero h = let z : width * 0 ≡ 0 = omega arith in rw z refl
    flat_read item words d at (suc n) h =
        let e : width * suc n ≡ width * n + width = mul-suc width n in
        rw add-one at (flat_more item n)
        ∙ ap₂ ◌++◌ (flat_read item words d at n (omega arith)) (at n ∙ part_read words (width * n) width d (omega arith))
        ∙ sym (ap (λ (k : ℕ). take k words) e ∙ take-add (width * n) width words)

    -- a row more, at its place behind those from row c on
    pub laid_on : (l now : List B) (item : ℕ → A) (c i : ℕ) → now ≡ sets l (width * c) (flat_map f (first_of item i))
        → sets now (width * (c + i)) (f (item i)) ≡ sets l (width * c) (flat_map f (first_of item (i + 1)))
    laid_on l now item c i e =
        let n : width * (c + i) ≡ width * c + length (flat_map f (first_of item i))
        = omega (arith, mul-add width c i, length_flat (first_of item i), ap (λ (k : ℕ). width * k) (length_first_of item i)) in
        ap₂ (λ (m : List B) (k : ℕ). sets m k (f (item i))) e n
        ∙ sym (sets_append l (width * c) (flat_map f (first_of item i)) (f (item i)))
        ∙ ap (sets l (width * c)) (sym (flat_more item i))

    -- all rows from the start
    pub laid_over : (l : List B) (item : ℕ → A) (n : ℕ) → width * n ≤ length l → sets l (width * 0) (flat_map f (first_of item n)) ≡ over l (flat_map f (first_of item n))
    laid_over l item n h =
        let z : width * 0 ≡ 0 = omega arith in
        ap (λ (k : ℕ). sets l k (flat_map f (first_of item n))) z
        ∙ sets_over l (flat_map f (first_of item n)) (omega (arith, length_flat (first_of item n), ap (λ (k : ℕ). width * k) (length_first_of item n)))

    -- rows behind those that stand from the start
    pub over_behind : (l : List B) (xs ys : List A) (c : ℕ) → length xs ≡ c → width * (c + length ys) ≤ length l
        → sets (over l (flat_map f xs)) (width * c) (flat_map f ys) ≡ over l (flat_map f (xs ++ ys))
    over_behind l xs ys c e h =
        let n : length (flat_map f xs) ≡ width * c = length_flat xs ∙ ap (λ (k : ℕ). width * k) e in
        let m = length_flat ys in
        ap₂ (λ (r : List B) (k : ℕ). sets r k (flat_map f ys)) (sym (sets_over l (flat_map f xs) (omega (arith, mul-add width c (length ys))))) (sym n ∙ sym (zero-add (length (flat_map f xs))))
        ∙ sym (sets_append l 0 (flat_map f xs) (flat_map f ys))
        ∙ ap (sets l 0) (sym (flat_append xs ys))
        ∙ sets_over l (flat_map f (xs ++ ys)) (omega (arith, ap length (flat_append xs ys), length-append (flat_map f xs) (flat_map f ys), mul-add width c (length ys)))
