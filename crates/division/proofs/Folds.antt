-- A rule for each entry of a list that is read off by its places: one entry more, and what only grows.
-- Assumes nothing.
use mathlib.Core.Path.{◌≡◌, refl, sym, ◌∙◌, ap}
use mathlib.Core.Logic.{⊎_elim}
use mathlib.Core.List.{List, [], ◌∷◌, ◌++◌, append-nil, append_assoc}
use Prim.Native.Nat.{ℕ, zero, suc, ◌+◌, ◌<◌, ◌≤◌}
use native.Mathlib.Omega.{arith}
use native.Mathlib.Nat.{eq-or-lt_of_le}
use native.Mathlib.Numerals.{add-one}
use lib.ListN.{length, length-append}
use Rattle.geom.specs.Book.{Kind, Pair, Book, seek, midpoint, Made, each, place, mids}
use Rattle.geom.specs.Memory.{first_of}
use Rattle.division.specs.Growing.{book_or_grows}

module _ {A B : Type 0} (rule : Book → A → Made B) where
  -- what was made, and then what the rule makes of x
  abbrev pub next : Made B → A → Made B
  next m x = record { made = m.made ++ (rule m.book x).made; book = (rule m.book x).book }

  pub each_snoc : (book : Book) (xs : List A) (x : A) → each rule book (xs ++ x ∷ []) ≡ next (each rule book xs) x
  unfolding each
  each_snoc book [] x = λ i. record { made = append-nil (rule book x).made i; book = (rule book x).book }
  each_snoc book (y ∷ xs) x =
      let m = rule book y in
      let rest = each rule m.book xs in
      let e = each_snoc m.book xs x in
      (λ i. record { made = m.made ++ (e i).made; book = (e i).book })
      ∙ (λ i. record { made = sym (append_assoc m.made rest.made (rule rest.book x).made) i; book = (rule rest.book x).book })

  module _ (book : Book) (at : ℕ → A) where
    -- i entries of the list
    abbrev pub up_to : ℕ → Made B
    up_to i = each rule book (first_of at i)

    pub up_to_none : up_to 0 ≡ record { made = []; book = book }
    unfolding each first_of
    up_to_none = refl

    pub up_to_suc : (i : ℕ) → up_to (suc i) ≡ next (up_to i) (at i)
    unfolding first_of
    up_to_suc i = each_snoc book (first_of at i) (at i)

    pub up_to_on : (i : ℕ) → up_to (i + 1) ≡ next (up_to i) (at i)
    up_to_on i = ap up_to (add-one i) ∙ up_to_suc i

    -- a longer part of the list makes no less, by any measure that adds up
    pub made_grows :
        (f : List B → ℕ) → ((xs ys : List B) → f (xs ++ ys) ≡ f xs + f ys) → (i n : ℕ) → i ≤ n → f (up_to i).made ≤ f (up_to n).made
    made_grows f adds i zero l = let e : i ≡ 0 = omega arith in let g = ap (λ (k : ℕ). f (up_to k).made) e in omega arith
    made_grows f adds i (suc n) l =
        let s = ap (λ (m : Made B). f m.made) (up_to_suc n) in
        let a = adds (up_to n).made (rule (up_to n).book (at n)).made in
        let ih = made_grows f adds i n in
        ⊎_elim
        (λ (e : i ≡ suc n). let g = ap (λ (k : ℕ). f (up_to k).made) e in omega arith)
        (λ (k : i < suc n). let g = ih (omega arith) in omega arith)
        (eq-or-lt_of_le l)

    -- nor a shorter book
    pub book_grows :
        ((b : Book) (x : A) → length b ≤ length (rule b x).book) → (i n : ℕ) → i ≤ n → length (up_to i).book ≤ length (up_to n).book
    book_grows grows i zero l = let e : i ≡ 0 = omega arith in let f = ap (λ (k : ℕ). length (up_to k).book) e in omega arith
    book_grows grows i (suc n) l =
        let s = ap (λ (m : Made B). length m.book) (up_to_suc n) in
        let a = grows (up_to n).book (at n) in
        let ih = book_grows grows i n in
        ⊎_elim
        (λ (e : i ≡ suc n). let f = ap (λ (k : ℕ). length (up_to k).book) e in omega arith)
        (λ (k : i < suc n). let g = ih (omega arith) in omega arith)
        (eq-or-lt_of_le l)

-- ── midpoints ──

pub place_grows : (kind : Kind) (base : ℕ) (book : Book) (q : Pair) → length book ≤ length (place kind base book q).book
unfolding place
place_grows kind base book q = book_or_grows book q (seek kind base book q)

pub each_grows :
    {A B : Type 0} (rule : Book → A → Made B) → ((b : Book) (x : A) → length b ≤ length (rule b x).book) → (book : Book) (xs : List A)
    → length book ≤ length (each rule book xs).book
unfolding each
each_grows rule grows book [] = omega arith
each_grows rule grows book (x ∷ xs) =
    let a = grows book x in
    let b = each_grows rule grows (rule book x).book xs in
    omega arith

pub mids_grows : (kind : Kind) (base : ℕ) (book : Book) (qs : List Pair) → length book ≤ length (mids kind base book qs).book
unfolding mids
mids_grows kind base = each_grows (place kind base) (place_grows kind base)

-- one midpoint a pair
pub length_placed :
    (kind : Kind) (base : ℕ) (book : Book) (at : ℕ → Pair) (i : ℕ) → length (up_to (place kind base) book at i).made ≡ i
unfolding place
length_placed kind base book at zero = ap (λ (m : Made ℕ). length m.made) (up_to_none (place kind base) book at)
length_placed kind base book at (suc i) =
    let m = up_to (place kind base) book at i in
    ap (λ (m : Made ℕ). length m.made) (up_to_suc (place kind base) book at i)
    ∙ length-append m.made (midpoint kind base m.book (at i) ∷ [])
    ∙ omega (arith, length_placed kind base book at i)
