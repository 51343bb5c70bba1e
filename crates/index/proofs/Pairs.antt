-- Keys of two words: what the code reads, tests and stores, as the index has it.
-- Assumes nothing.
use mathlib.Core.Path.{◌≡◌, refl, sym, ◌∙◌, ap, subst}
use mathlib.Core.Bool.{Bool, true, false, ◌&&◌}
use mathlib.Core.Logic.{◌⊎◌, ◌≢◌, inl, inr, ⊎_elim, by_cases}
use mathlib.Core.List.{List, [], ◌∷◌}
use Prim.Native.Nat.{ℕ, ◌+◌, ◌*◌, ◌<◌, ◌≤◌}
use native.Mathlib.Omega.{arith}
use native.Mathlib.Decide.{ℕ_discrete}
use native.Mathlib.Nat.{add-zero}
use lib.Dec.{eqb}
use lib.ListN.{length, get_or, set, length-set}
use lib.Seq.{get_or-set_same, get_or-set_other}
use borrow.Author.Tests.{eq-eqb, eqb-true, eqb-false}
use Rattle.index.specs.Keys.{onward, number}
use Rattle.index.specs.Cells.{NONE, Sound, word_at, cells, words_from, key_at, bucket_of, bucket_at, pairs}
use Rattle.index.specs.Trees.{root_place, Linked}
use Rattle.index.specs.Answers.{InBucket, Holds, Names, Believed, Free, Entered}
use Rattle.index.proofs.Bits.{Words, none, more}
use Rattle.index.proofs.Rows.{sound_pairs}
use Rattle.index.proofs.Ways.{Going, start, high}
use Rattle.index.proofs.Entering.{Wrote, Side, open_at, side_below, open_long, entered}

-- ── what is read ──

-- the key that was read at an entry
pub read :
    (words : List ℕ) (e : ℕ) {x y : ℕ} → x ≡ word_at pairs words e 0 → y ≡ word_at pairs words e 1 → key_at pairs words e ≡ x ∷ y ∷ []
unfolding words_from
read words e first second = cc

test_true : (x y a b : ℕ) → (eqb x a && eqb y b) ≡ true → x ∷ y ∷ [] ≡ a ∷ b ∷ []
test_true x y a b e = go (eqb x a) refl e
  where
    go : (t : Bool) → eqb x a ≡ t → (t && eqb y b) ≡ true → x ∷ y ∷ [] ≡ a ∷ b ∷ []
    go true f e =
        let p = eqb-true x a f in
        let q = eqb-true y b e in
        cc
    go false f e = let z : ◌≡◌ {A = ℕ} 0 1 = cc in absurd (omega arith)

test_false : (x y a b : ℕ) → (eqb x a && eqb y b) ≡ false → x ∷ y ∷ [] ≡ a ∷ b ∷ [] → ⊥
test_false x y a b e same =
    let p : x ≡ a = cc in
    let q : y ≡ b = cc in
    let s = rw (eq-eqb x a p, eq-eqb y b q) at e in
    let z : ◌≡◌ {A = ℕ} 0 1 = cc in
    omega arith

-- the entry's key is the one asked for
pub hit :
    (words : List ℕ) (e : ℕ) {x y a b : ℕ} → x ≡ word_at pairs words e 0 → y ≡ word_at pairs words e 1 → (eqb x a && eqb y b) ≡ true
    → key_at pairs words e ≡ a ∷ b ∷ []
hit words e {x} {y} {a} {b} first second test = read words e first second ∙ test_true x y a b test

-- and stands below what was made: it is the entry sought
pub found :
    (words : List ℕ) {made : ℕ} (e : ℕ) {x y a b : ℕ} → e < made → x ≡ word_at pairs words e 0 → y ≡ word_at pairs words e 1
    → (eqb x a && eqb y b) ≡ true → Holds pairs words made (a ∷ b ∷ []) e
found words e below first second test = record { below = below; is = hit words e first second test }

-- the entry's key is another
pub other :
    (words : List ℕ) (e : ℕ) {x y a b : ℕ} → x ≡ word_at pairs words e 0 → y ≡ word_at pairs words e 1 → (eqb x a && eqb y b) ≡ false
    → key_at pairs words e ≡ a ∷ b ∷ [] → ⊥
other words e {x} {y} {a} {b} first second test same = test_false x y a b test (sym (read words e first second) ∙ same)

-- ── what a link leads to ──

pub named :
    (words : List ℕ) (made link x y a b : ℕ) (r : Bool) → link < made → x ≡ word_at pairs words link 0 → y ≡ word_at pairs words link 1
    → r ≡ (eqb x a && eqb y b) → Names words made (a ∷ b ∷ []) link r
named words made link x y a b true l first second e = found words link l first second (sym e)
named words made link x y a b false l first second e = λ m same. other words link first second (sym e) same

pub bucketed :
    (words : List ℕ) (made link home : ℕ) {x y its : ℕ} (r : Bool) → link < made → x ≡ word_at pairs words link 0 → y ≡ word_at pairs words link 1
    → InBucket pairs (cells pairs words) (x ∷ y ∷ []) its → r ≡ eqb its home → Believed words made home link r
bucketed words made link home {x} {y} {its} r l first second at e = go r e
  where
    here : bucket_at pairs words link ≡ its
    here = ap (bucket_of pairs (cells pairs words)) (read words link first second) ∙ sym at.is

    go : (r : Bool) → r ≡ eqb its home → Believed words made home link r
    go true e = (l, here ∙ eqb-true its home (sym e))
    go false e = λ m same. eqb-false its home (sym e) (sym here ∙ same)

-- ── the search ──

number_pair : (a b : ℕ) → number (a ∷ b ∷ []) ≡ a * 4294967296 + b
unfolding onward
number_pair a b = omega arith

-- the search starts at its bucket's root, with all the key's bits left
pub begin :
    {words : List ℕ} {made h a b link : ℕ} → Linked pairs words made → InBucket pairs (cells pairs words) (a ∷ b ∷ []) h
    → link ≡ word_at pairs words (cells pairs words) (2 * h) → link < made → bucket_at pairs words link ≡ h
    → Going pairs words made (a ∷ b ∷ []) 0 link (a * 4294967296 + b)
begin {words} {made} {h} {a} {b} {link} w at is l same =
    subst (Going pairs words made (a ∷ b ∷ []) 0 link) (number_pair a b) (start w at is l same)

-- the entry of another key is at one of 64 levels
pub shallow :
    {words : List ℕ} {made a b k e rest x y : ℕ} → Going pairs words made (a ∷ b ∷ []) k e rest → a < 4294967296 → b < 4294967296
    → x < 4294967296 → y < 4294967296 → x ≡ word_at pairs words e 0 → y ≡ word_at pairs words e 1 → (eqb x a && eqb y b) ≡ false → k < 64
shallow {words} {made} {a} {b} {k} {e} {rest} {x} {y} g la lb lx ly first second test =
    high g refl (more la (more lb none)) (subst Words (sym (read words e first second)) (more lx (more ly none))) (other words e first second test)

-- ── a new entry ──

module _ (words : List ℕ) (made a b at : ℕ) (l : made < cells pairs words) (w : at < length words) (away : (at < 4 * made) ⊎ (4 * cells pairs words ≤ at)) (even : at ≢ 4 * cells pairs words + 2 * bucket_of pairs (cells pairs words) (a ∷ b ∷ []) + 1) where
  abbrev i₆ : ℕ
  i₆ = 4 * cells pairs words + 2 * bucket_of pairs (cells pairs words) (a ∷ b ∷ []) + 1

  abbrev s1 : List ℕ
  s1 = set words (4 * made) a

  abbrev s2 : List ℕ
  s2 = set s1 (4 * made + 1) b

  abbrev s3 : List ℕ
  s3 = set s2 (4 * made + 2) NONE

  abbrev s4 : List ℕ
  s4 = set s3 (4 * made + 3) NONE

  abbrev s5 : List ℕ
  s5 = set s4 at made

  abbrev s6 : List ℕ
  s6 = set s5 i₆ made

  n1 : length s1 ≡ length words
  n1 = length-set words (4 * made) a

  n2 : length s2 ≡ length words
  n2 = length-set s1 (4 * made + 1) b ∙ n1

  n3 : length s3 ≡ length words
  n3 = length-set s2 (4 * made + 2) NONE ∙ n2

  n4 : length s4 ≡ length words
  n4 = length-set s3 (4 * made + 3) NONE ∙ n3

  -- past the last two stores
  high_kept : (j : ℕ) → j ≢ at → j ≢ i₆ → get_or s6 j 0 ≡ get_or s4 j 0
  high_kept j p q = get_or-set_other s5 i₆ j made 0 q ∙ get_or-set_other s4 at j made 0 p

  -- past all of them
  all_kept : (j : ℕ) → (j < 4 * made) ⊎ (4 * made + 3 < j) → j ≢ at → j ≢ i₆ → get_or s6 j 0 ≡ get_or words j 0
  all_kept j o p q =
      high_kept j p q
      ∙ get_or-set_other s3 (4 * made + 3) j NONE 0 (⊎_elim (λ k e. omega arith) (λ k e. omega arith) o)
      ∙ get_or-set_other s2 (4 * made + 2) j NONE 0 (⊎_elim (λ k e. omega arith) (λ k e. omega arith) o)
      ∙ get_or-set_other s1 (4 * made + 1) j b 0 (⊎_elim (λ k e. omega arith) (λ k e. omega arith) o)
      ∙ get_or-set_other words (4 * made) j a 0 (⊎_elim (λ k e. omega arith) (λ k e. omega arith) o)

  -- a word of the new row, past the last two stores
  row_kept : (k : ℕ) → k < 4 → get_or s6 (4 * made + k) 0 ≡ get_or s4 (4 * made + k) 0
  row_kept k m = high_kept (4 * made + k) (⊎_elim (λ p e. omega arith) (λ p e. omega arith) away) (λ e. omega arith)

  first_word : a ≡ word_at pairs s6 made 0
  first_word =
      sym
      (row_kept 0 (omega arith)
      ∙ get_or-set_other s3 (4 * made + 3) (4 * made + 0) NONE 0 (omega arith)
      ∙ get_or-set_other s2 (4 * made + 2) (4 * made + 0) NONE 0 (omega arith)
      ∙ get_or-set_other s1 (4 * made + 1) (4 * made + 0) b 0 (omega arith)
      ∙ ap (λ (i : ℕ). get_or s1 i 0) (add-zero (4 * made))
      ∙ get_or-set_same words (4 * made) a 0 (omega arith))

  second_word : b ≡ word_at pairs s6 made 1
  second_word =
      sym
      (row_kept 1 (omega arith)
      ∙ get_or-set_other s3 (4 * made + 3) (4 * made + 1) NONE 0 (omega arith)
      ∙ get_or-set_other s2 (4 * made + 2) (4 * made + 1) NONE 0 (omega arith)
      ∙ get_or-set_same s1 (4 * made + 1) b 0 (omega (arith, n1)))

  left : word_at pairs s6 made 2 ≡ NONE
  left =
      row_kept 2 (omega arith)
      ∙ get_or-set_other s3 (4 * made + 3) (4 * made + 2) NONE 0 (omega arith)
      ∙ get_or-set_same s2 (4 * made + 2) NONE 0 (omega (arith, n2))

  right : word_at pairs s6 made 3 ≡ NONE
  right = row_kept 3 (omega arith) ∙ get_or-set_same s3 (4 * made + 3) NONE 0 (omega (arith, n3))

  written : Wrote pairs words made (a ∷ b ∷ []) at s6
  written =
      record {
        long = length-set s5 i₆ made ∙ length-set s4 at made ∙ n4;
        key = read s6 made first_word second_word;
        sides =
            λ side m.
            by_cases (ℕ_discrete side 0)
            (λ z. ap (λ (n : ℕ). word_at pairs s6 made (2 + n)) z ∙ left)
            (λ z. ap (λ (n : ℕ). word_at pairs s6 made (2 + n)) (one side m z) ∙ right);
        link = get_or-set_other s5 i₆ at made 0 even ∙ get_or-set_same s4 at made 0 (omega (arith, n4));
        rows = λ j k p. all_kept j (inl k) p (omega arith);
        roots = λ h p. all_kept (4 * cells pairs words + 2 * h) (inr (omega arith)) p (omega arith);
      }
    where
      one : (side : ℕ) → side < 2 → side ≢ 0 → side ≡ 1
      one side m z = omega arith

-- the open place is a word that is lent
pub open_fits : {words : List ℕ} {made at : ℕ} {q : List ℕ} → Free pairs words made q at → at < length words
open_fits f = open_long (sound_pairs 0) f.lent f.place

-- what the code stores is the new entry
pub stored :
    (words : List ℕ) (made at a b : ℕ) {h : ℕ} → Free pairs words made (a ∷ b ∷ []) at → InBucket pairs (cells pairs words) (a ∷ b ∷ []) h
    → Entered pairs words made (a ∷ b ∷ [])
    (set (set (set (set (set (set words (4 * made) a) (4 * made + 1) b) (4 * made + 2) NONE) (4 * made + 3) NONE) at made) (4 * cells pairs words + 2 * h + 1) made)
stored words made at a b {h} f i =
    subst
    (λ (n : ℕ).
    Entered pairs words made (a ∷ b ∷ [])
    (set (set (set (set (set (set words (4 * made) a) (4 * made + 1) b) (4 * made + 2) NONE) (4 * made + 3) NONE) at made) (4 * cells pairs words + 2 * n + 1) made))
    (sym i.is)
    (entered s f
    (written words made a b at f.lent (open_fits f)
    (⊎_elim (λ (t : Side pairs made at). inl (side_below s t)) (λ (t : at ≡ root_place pairs words home). inr (omega arith)) (open_at f.place))
    (⊎_elim
    (λ (t : Side pairs made at) e. omega (arith, side_below s t, f.lent))
    (λ (t : at ≡ root_place pairs words home) e. omega arith)
    (open_at f.place))))
  where
    s : Sound pairs
    s = sound_pairs 0

    home : ℕ
    home = bucket_of pairs (cells pairs words) (a ∷ b ∷ [])
