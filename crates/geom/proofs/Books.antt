-- The midpoint book: a longer book finds what a shorter one found, each pair asked for is found afterwards, a midpoint is younger than its
-- ends, and no two pairs have one midpoint.
-- Assumes nothing.
use mathlib.Core.Path.{◌≡◌, refl, sym, ◌∙◌, ap, ap₂, subst}
use mathlib.Core.Bool.{Bool, true, false, cond}
use mathlib.Core.Logic.{◌⊎◌, inl, inr, ⊎_elim}
use mathlib.Core.List.{List, [], ◌∷◌, ◌++◌, map, append-nil, append_assoc}
use Prim.Native.Nat.{ℕ, suc, ◌+◌, ◌<◌, ◌≤◌}
use native.Mathlib.Omega.{arith}
use lib.Dec.{eqb}
use lib.ListN.{length, length-append}
use Rattle.geom.specs.Book.{Kind, cubes, simplices, Pair, same_pair, Book, Found, found, none, find, seek, vertex_or, book_or, midpoint, Made, each, place, mids}
use Rattle.geom.specs.Between.{All, Low, Rising}
use Rattle.geom.proofs.Lists.{all_append, same_number, eqb_same, and_true_left, and_true_right}

-- ── the search ──

pub same_pair_lem : (p q : Pair) → same_pair p q ≡ true → p ≡ q
same_pair_lem p q e =
    let a = same_number p.first q.first (and_true_left (eqb p.first q.first) (eqb p.second q.second) e) in
    let b = same_number p.second q.second (and_true_right (eqb p.first q.first) (eqb p.second q.second) e) in
    λ i. record { first = a i; second = b i }

same_pair_same : (p : Pair) → same_pair p p ≡ true
same_pair_same p = rw (eqb_same p.first) (eqb_same p.second)

none_found : {v : ℕ} → none ≡ found v → ⊥
none_found e = let z : ◌≡◌ {A = ℕ} 0 1 = cc in omega arith

found_injective : {v w : ℕ} → found v ≡ found w → v ≡ w
found_injective e = cc

pub find_grows : (b : ℕ) (book more : Book) (q : Pair) (v : ℕ) → find b book q ≡ found v → find b (book ++ more) q ≡ found v
unfolding find
find_grows b [] more q v e = absurd (none_found e)
find_grows b (p ∷ book) more q v e = go (same_pair p q) (find_grows (suc b) book more q v) e
  where
    go :
        (s : Bool) → (find (suc b) book q ≡ found v → find (suc b) (book ++ more) q ≡ found v)
        → cond s (found b) (find (suc b) book q) ≡ found v → cond s (found b) (find (suc b) (book ++ more) q) ≡ found v
    go true ih h = h
    go false ih h = ih h

find_new : (b : ℕ) (book : Book) (q : Pair) → find b book q ≡ none → find b (book ++ q ∷ []) q ≡ found (b + length book)
unfolding find
find_new b [] q e = rw (same_pair_same q) (ap found (omega arith))
find_new b (p ∷ book) q e = go (same_pair p q) (find_new (suc b) book q) e
  where
    go :
        (s : Bool) → (find (suc b) book q ≡ none → find (suc b) (book ++ q ∷ []) q ≡ found (suc b + length book))
        → cond s (found b) (find (suc b) book q) ≡ none → cond s (found b) (find (suc b) (book ++ q ∷ []) q) ≡ found (b + suc (length book))
    go true ih h = absurd (none_found (sym h))
    go false ih h = ih h ∙ ap found (omega arith)

-- what is found is the vertex of an entry
find_bounds : (b : ℕ) (book : Book) (q : Pair) (v : ℕ) → find b book q ≡ found v → (b ≤ v) × (v < b + length book)
unfolding find
find_bounds b [] q v e = absurd (none_found e)
find_bounds b (p ∷ book) q v e = go (same_pair p q) (find_bounds (suc b) book q v) e
  where
    go :
        (s : Bool) → (find (suc b) book q ≡ found v → (suc b ≤ v) × (v < suc b + length book))
        → cond s (found b) (find (suc b) book q) ≡ found v → (b ≤ v) × (v < b + suc (length book))
    go true ih h = let e = found_injective h in omega arith
    go false ih h = let i = ih h in omega arith

-- one vertex, one pair
find_injective : (b : ℕ) (book : Book) (p q : Pair) (v : ℕ) → find b book p ≡ found v → find b book q ≡ found v → p ≡ q
unfolding find
find_injective b [] p q v e h = absurd (none_found e)
find_injective b (r ∷ book) p q v e h = go (same_pair r p) (same_pair r q) refl refl (find_injective (suc b) book p q v) e h
  where
    go :
        (s t : Bool) → same_pair r p ≡ s → same_pair r q ≡ t → (find (suc b) book p ≡ found v → find (suc b) book q ≡ found v → p ≡ q)
        → cond s (found b) (find (suc b) book p) ≡ found v → cond t (found b) (find (suc b) book q) ≡ found v → p ≡ q
    go true true x y ih i j = sym (same_pair_lem r p x) ∙ same_pair_lem r q y
    go true false x y ih i j = let e = found_injective i in let l = find_bounds (suc b) book q v j in absurd (omega arith)
    go false true x y ih i j = let e = found_injective j in let l = find_bounds (suc b) book p v i in absurd (omega arith)
    go false false x y ih i j = ih i j

-- ── a book whose entries are younger than their ends ──

rising_new : (b : ℕ) (book : Book) (q : Pair) → Low (b + length book) q → Rising b book → Rising b (book ++ q ∷ [])
rising_new b [] q l r = (record { start = omega (arith, l.start); stop = omega (arith, l.stop) }, tt)
rising_new b (p ∷ book) q l r =
    (r.0, rising_new (suc b) book q (record { start = omega (arith, l.start); stop = omega (arith, l.stop) }) r.1)

find_rising : (b : ℕ) (book : Book) (q : Pair) (v : ℕ) → Rising b book → find b book q ≡ found v → Low v q
unfolding find
find_rising b [] q v r e = absurd (none_found e)
find_rising b (p ∷ book) q v r e = go (same_pair p q) refl (find_rising (suc b) book q v r.1) e
  where
    go :
        (s : Bool) → same_pair p q ≡ s → (find (suc b) book q ≡ found v → Low v q) → cond s (found b) (find (suc b) book q) ≡ found v
        → Low v q
    go true x ih h = subst (λ (w : ℕ). Low w q) (found_injective h) (subst (Low b) (same_pair_lem p q x) r.0)
    go false x ih h = ih h

-- ── growing ──

-- `after` begins with `before`; and what is added has ends below m, so that it rises if `before` does and has reached m
pub record Grown (base m : ℕ) (before after : Book) : Type 0 where
  pub more : Book
  pub is : after ≡ before ++ more
  pub rises : Rising base before → m ≤ base + length before → Rising base after
  pub low : All (Low m) more

pub grown_same : {base m : ℕ} {book : Book} → Grown base m book book
grown_same {book = book} = record { more = []; is = sym (append-nil book); rises = λ r l. r; low = tt }

pub grown_length : {base m : ℕ} {x y : Book} → Grown base m x y → length x ≤ length y
grown_length {x = x} {y = y} g = omega (arith, ap length g.is, length-append x g.more)

pub grown_trans : {base m : ℕ} {x y z : Book} → Grown base m x y → Grown base m y z → Grown base m x z
grown_trans {m = m} {x = x} g h =
    record {
      more = g.more ++ h.more;
      is = h.is ∙ ap (λ (b : Book). b ++ h.more) g.is ∙ append_assoc x g.more h.more;
      rises = λ r l. h.rises (g.rises r l) (omega (arith, grown_length g));
      low = all_append (Low m) g.more h.more g.low h.low;
    }

pub grown_entry : (base m : ℕ) (book : Book) (q : Pair) (f : Found) → Low m q → Grown base m book (book_or book q f)
grown_entry base m book q (found v) l = grown_same
grown_entry base m book q none l =
    record {
      more = q ∷ [];
      is = refl;
      rises = λ r k. rising_new base book q (record { start = omega (arith, l.start); stop = omega (arith, l.stop) }) r;
      low = (l, tt);
    }

-- a rule for each entry grows the book if the rule for one does
pub grown_each :
    {A B : Type 0} (base m : ℕ) (rule : Book → A → Made B) (P : A → Type 0)
    → ((book : Book) (x : A) → P x → Grown base m book (rule book x).book) → (xs : List A) → All P xs → (book : Book)
    → Grown base m book (each rule book xs).book
unfolding each
grown_each base m rule P one [] a book = grown_same
grown_each base m rule P one (x ∷ xs) a book =
    grown_trans (one book x a.0) (grown_each base m rule P one xs a.1 (rule book x).book)

module _ (kind : Kind) (base : ℕ) where
  -- the pair has a vertex in this book
  abbrev pub Known : Book → Pair → Type 0
  Known book q = seek kind base book q ≡ found (midpoint kind base book q)

seek_grows :
    (kind : Kind) (base : ℕ) (book more : Book) (q : Pair) (v : ℕ) → seek kind base book q ≡ found v
    → seek kind base (book ++ more) q ≡ found v
unfolding seek
seek_grows cubes base book more q v e = go (eqb q.first q.second) e
  where
    go :
        (s : Bool) → cond s (found q.first) (find base book q) ≡ found v
        → cond s (found q.first) (find base (book ++ more) q) ≡ found v
    go true h = h
    go false h = find_grows base book more q v h
seek_grows simplices base book more q v e = find_grows base book more q v e

pub known : (kind : Kind) (base : ℕ) (book : Book) (q : Pair) (v : ℕ) → seek kind base book q ≡ found v → midpoint kind base book q ≡ v
unfolding midpoint
known kind base book q v e = ap (vertex_or (base + length book)) e

new : (kind : Kind) (base : ℕ) (book : Book) (q : Pair) → seek kind base book q ≡ none → midpoint kind base book q ≡ base + length book
unfolding midpoint
new kind base book q e = ap (vertex_or (base + length book)) e

find_place :
    (base : ℕ) (book : Book) (q : Pair)
    → find base (book_or book q (find base book q)) q ≡ found (vertex_or (base + length book) (find base book q))
find_place base book q = go (find base book q) refl
  where
    go : (f : Found) → find base book q ≡ f → find base (book_or book q f) q ≡ found (vertex_or (base + length book) f)
    go (found v) e = e
    go none e = find_new base book q e

-- after its rule a pair is found
seek_place :
    (kind : Kind) (base : ℕ) (book : Book) (q : Pair)
    → seek kind base (book_or book q (seek kind base book q)) q ≡ found (midpoint kind base book q)
unfolding seek midpoint
seek_place cubes base book q = go (eqb q.first q.second)
  where
    go :
        (s : Bool)
        → cond s (found q.first) (find base (book_or book q (cond s (found q.first) (find base book q))) q)
        ≡ found (vertex_or (base + length book) (cond s (found q.first) (find base book q)))
    go true = refl
    go false = find_place base book q
seek_place simplices base book q = find_place base book q

-- and keeps its vertex in every longer book
pub seek_over :
    (kind : Kind) (base : ℕ) (book : Book) (q : Pair) {m : ℕ} {later : Book} → Grown base m (book_or book q (seek kind base book q)) later
    → seek kind base later q ≡ found (midpoint kind base book q)
seek_over kind base book q {m} {later} g =
    ap (λ (b : Book). seek kind base b q) g.is
    ∙ seek_grows kind base (book_or book q (seek kind base book q)) g.more q (midpoint kind base book q) (seek_place kind base book q)

-- the midpoints of some pairs are those of every later book
pub record Over (kind : Kind) (base : ℕ) (later : Book) (qs : List Pair) (made : List ℕ) : Type 0 where
  pub are : made ≡ map (midpoint kind base later) qs
  pub knows : All (Known kind base later) qs

pub grown_mids :
    (kind : Kind) (base m : ℕ) (qs : List Pair) → All (Low m) qs → (book : Book) → Grown base m book (mids kind base book qs).book
unfolding mids place
grown_mids kind base m = grown_each base m (place kind base) (Low m) (λ book q l. grown_entry base m book q (seek kind base book q) l)

pub mids_over :
    (kind : Kind) (base m : ℕ) (qs : List Pair) → All (Low m) qs → (book later : Book) → Grown base m (mids kind base book qs).book later
    → Over kind base later qs (mids kind base book qs).made
unfolding mids each place
mids_over kind base m [] a book later g = record { are = refl; knows = tt }
mids_over kind base m (q ∷ qs) a book later g =
    let next = book_or book q (seek kind base book q) in
    let s : seek kind base later q ≡ found (midpoint kind base book q) = seek_over kind base book q (grown_trans (grown_mids kind base m qs a.1 next) g) in
    let e : midpoint kind base later q ≡ midpoint kind base book q = known kind base later q (midpoint kind base book q) s in
    let rest = mids_over kind base m qs a.1 next later g in
    record {
      are = ap₂ (λ (v : ℕ) (vs : List ℕ). v ∷ vs) (sym e) rest.are;
      knows = (s ∙ ap found (sym e), rest.knows);
    }

-- ── where a midpoint stands ──

-- cubes: a midpoint is younger than its ends, or [a,a], which gives a itself
pub data Stands (m : ℕ) (q : Pair) : Type 0 where
  above : Low m q → Stands m q
  still : q.first ≡ q.second → m ≡ q.first → Stands m q

find_above :
    (base : ℕ) (book : Book) (q : Pair) (f : Found) → find base book q ≡ f → Rising base book → Low (base + length book) q
    → Low (vertex_or (base + length book) f) q
find_above base book q (found v) e r l = find_rising base book q v r e
find_above base book q none e r l = l

-- simplices: a midpoint is younger than its ends
pub midpoint_above :
    (base : ℕ) (book : Book) (q : Pair) → Rising base book → Low (base + length book) q → Low (midpoint simplices base book q) q
unfolding midpoint seek
midpoint_above base book q r l = find_above base book q (find base book q) refl r l

pub midpoint_stands :
    (base : ℕ) (book : Book) (q : Pair) → Rising base book → Low (base + length book) q → Stands (midpoint cubes base book q) q
unfolding midpoint seek
midpoint_stands base book q r l = go (eqb q.first q.second) refl
  where
    go :
        (s : Bool) → eqb q.first q.second ≡ s
        → Stands (vertex_or (base + length book) (cond s (found q.first) (find base book q))) q
    go true e = still (same_number q.first q.second e) refl
    go false e = above (find_above base book q (find base book q) refl r l)

-- what a search ends with is an entry's vertex, or a of [a,a]
seek_found :
    (kind : Kind) (base : ℕ) (book : Book) (q : Pair) (v : ℕ) → seek kind base book q ≡ found v
    → (find base book q ≡ found v) ⊎ (q.first ≡ v)
unfolding seek
seek_found cubes base book q v e = go (eqb q.first q.second) e
  where
    go : (s : Bool) → cond s (found q.first) (find base book q) ≡ found v → (find base book q ≡ found v) ⊎ (q.first ≡ v)
    go true h = inr (found_injective h)
    go false h = inl h
seek_found simplices base book q v e = inl e

-- the midpoint of a pair that has one is below the count
pub midpoint_below :
    (kind : Kind) (base : ℕ) (book : Book) (q : Pair) → q.first < base + length book → Known kind base book q
    → midpoint kind base book q < base + length book
midpoint_below kind base book q l k =
    let v = midpoint kind base book q in
    ⊎_elim (λ e. (find_bounds base book q v e).1) (λ e. subst (λ (w : ℕ). w < base + length book) e l) (seek_found kind base book q v k)

-- no other pair has the midpoint of a pair that has one
pub midpoint_injective :
    (kind : Kind) (base : ℕ) (book : Book) (p q : Pair) → Known kind base book q → q.first < midpoint kind base book q
    → p.first < midpoint kind base book p → midpoint kind base book p ≡ midpoint kind base book q → p ≡ q
midpoint_injective kind base book p q k a b e =
    let v = midpoint kind base book q in
    ⊎_elim (λ h. go h (seek kind base book p) refl) (λ h. absurd (omega arith)) (seek_found kind base book q v k)
  where
    go : find base book q ≡ found (midpoint kind base book q) → (f : Found) → seek kind base book p ≡ f → p ≡ q
    go h (found w) s =
        let m = known kind base book p w s in
        ⊎_elim
        (λ g. find_injective base book p q (midpoint kind base book q) (g ∙ ap found (sym m ∙ e)) h)
        (λ g. absurd (omega arith))
        (seek_found kind base book p w s)
    go h none s =
        let l = find_bounds base book q (midpoint kind base book q) h in
        let n = new kind base book p s in
        absurd (omega arith)
