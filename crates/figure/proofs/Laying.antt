-- Rows written one after the other over what a list held, of any lengths: a row more, and all rows from the start.
-- Assumes nothing.
use mathlib.Core.Path.{◌≡◌, refl, sym, ◌∙◌, ap, ap₂}
use mathlib.Core.List.{List, [], ◌∷◌, ◌++◌, flat_map, append-nil}
use Prim.Native.Nat.{ℕ, zero, suc, ◌+◌, ◌*◌, ◌<◌}
use native.Mathlib.Nat.{mul-suc}
use native.Mathlib.Numerals.{add-one}
use native.Mathlib.Omega.{arith}
use lib.ListN.{length, set, length-append}
use lib.Seq.{sets}
use Rattle.geom.specs.Memory.{first_of}
use Rattle.geom.proofs.Rows.{flat_map_append, length_first_of}

pub sets_append : {A : Type 0} (l : List A) (a : ℕ) (ws us : List A) → sets l a (ws ++ us) ≡ sets (sets l a ws) (a + length ws) us
sets_append l a [] us = let e : a + 0 ≡ a = omega arith in rw e refl
sets_append l a (x ∷ ws) us =
    let e : a + suc (length ws) ≡ suc a + length ws = omega arith in
    rw e (sets_append (set l a x) (suc a) ws us)

-- ---- words

-- a word more
pub word_more : {A : Type 0} (l now : List A) (item : ℕ → A) (from i : ℕ) → now ≡ sets l from (first_of item i) → set now (from + i) (item i) ≡ sets l from (first_of item (i + 1))
unfolding first_of
word_more {A} l now item from i e =
    ap₂ (λ (m : List A) (k : ℕ). set m (from + k) (item i)) e (sym (length_first_of item i))
    ∙ sym (sets_append l from (first_of item i) (item i ∷ []))
    ∙ ap (λ (k : ℕ). sets l from (first_of item k)) (sym (add-one i))

-- ---- rows

module _ {A B : Type 0} (f : A → List B) (item : ℕ → A) where
  pub flat_suc : (n : ℕ) → flat_map f (first_of item (suc n)) ≡ flat_map f (first_of item n) ++ f (item n)
  unfolding first_of flat_map
  flat_suc n = flat_map_append f (first_of item n) (item n ∷ []) ∙ ap (λ (r : List B). flat_map f (first_of item n) ++ r) (append-nil (f (item n)))

  -- a row more
  pub row_more : (l now : List B) (from i at : ℕ) → now ≡ sets l from (flat_map f (first_of item i)) → at ≡ from + length (flat_map f (first_of item i))
      → sets now at (f (item i)) ≡ sets l from (flat_map f (first_of item (i + 1)))
  row_more l now from i at e q =
      ap₂ (λ (m : List B) (k : ℕ). sets m k (f (item i))) e q
      ∙ sym (sets_append l from (flat_map f (first_of item i)) (f (item i)))
      ∙ ap (sets l from) (sym (flat_suc i) ∙ ap (λ (k : ℕ). flat_map f (first_of item k)) (sym (add-one i)))

  -- rows of one width
  pub flat_length : (width : ℕ) → ((i : ℕ) → length (f (item i)) ≡ width) → (n : ℕ) → length (flat_map f (first_of item n)) ≡ width * n
  unfolding first_of flat_map
  flat_length width wide zero = omega arith
  flat_length width wide (suc n) =
      ap length (flat_suc n) ∙ length-append (flat_map f (first_of item n)) (f (item n)) ∙ omega (arith, flat_length width wide n, wide n, mul-suc width n)

-- rows that are the same
pub flat_same : {A C B : Type 0} (f : A → List B) (a : ℕ → A) (g : C → List B) (c : ℕ → C) (n : ℕ) → ((i : ℕ) → i < n → f (a i) ≡ g (c i))
    → flat_map f (first_of a n) ≡ flat_map g (first_of c n)
unfolding first_of flat_map
flat_same f a g c zero h = refl
flat_same f a g c (suc n) h = flat_suc f a n ∙ ap₂ ◌++◌ (flat_same f a g c n (λ i l. h i (omega arith))) (h n (omega arith)) ∙ sym (flat_suc g c n)
