-- Curves written: the words of a curve's vertices one after the other, and curve after curve.
-- Assumes nothing.
use mathlib.Core.Path.{◌≡◌, refl, sym, ◌∙◌, ap, ap₂}
use mathlib.Core.Bool.{Bool, cond}
use mathlib.Core.Logic.{◌⊎◌, inl, inr}
use mathlib.Core.List.{List, [], ◌∷◌, flat_map}
use Prim.Native.Nat.{ℕ, zero, suc, ◌+◌, ◌-◌, ◌*◌, ◌≤◌, ◌<◌}
use native.Mathlib.Nat.{eq-or-lt_of_le}
use native.Mathlib.Numerals.{add-one}
use native.Mathlib.Omega.{arith}
use lib.Dec.{ltb, leb-suc-suc}
use lib.ListN.{length, set, length-append}
use lib.Seq.{sets, length-sets}
use borrow.Author.Tests.{lt-ltb, le-ltb}
use Rattle.geom.specs.declared.parity.Parity.{Parity}
use Rattle.geom.specs.Elements.{Curve}
use Rattle.geom.specs.Mesh.{curve_vertices_of}
use Rattle.geom.specs.Memory.{first_of, parity_word, steps_words, curve_words, vertex_words}
use Rattle.geom.proofs.Rows.{length_first_of, first_of_cons}
use Rattle.vertices.proofs.Written.{sets_over}
use Rattle.fields.specs.Fields.{word_at, parity_at, curve_at, curve_place, curves_at}
use Rattle.fields.proofs.Curves.{vertices_snoc, vertex_count}
use Rattle.figure.specs.Written as Written
use Rattle.figure.specs.Written.{step_word, steps_at, Curves, Wind, Winded}
use Rattle.figure.proofs.Laying.{row_more, flat_length, flat_same, flat_suc}

-- ---- the words of one curve's vertices

-- the two words of vertex j, of n of them
abbrev step_row : (ℕ → ℕ) → (ℕ → Parity) → ℕ → ℕ → List ℕ
step_row v p n j = v j ∷ cond (ltb (j + 1) n) (parity_word (p j)) 0 ∷ []

abbrev self : ℕ → ℕ
self j = j

steps_are : (n : ℕ) (v : ℕ → ℕ) (p : ℕ → Parity) → flat_map (step_row v p (suc n)) (first_of self (suc n)) ≡ steps_words (first_of v (suc n)) (first_of p n)
unfolding first_of flat_map steps_words
steps_are zero v p = refl
steps_are (suc n) v p =
    ap (flat_map (step_row v p (suc (suc n)))) (first_of_cons self (suc n))
    ∙ ap₂ (λ (b : Bool) (r : List ℕ). v 0 ∷ cond b (parity_word (p 0)) 0 ∷ r) (lt-ltb 1 (suc (suc n)) (omega arith))
    (flat_same (step_row v p (suc (suc n))) suc (step_row (λ (j : ℕ). v (suc j)) (λ (j : ℕ). p (suc j)) (suc n)) self (suc n)
    (λ i h. ap (λ (b : Bool). v (suc i) ∷ cond b (parity_word (p (suc i))) 0 ∷ []) (shift i n))
    ∙ steps_are n (λ (j : ℕ). v (suc j)) (λ (j : ℕ). p (suc j)))
    ∙ ap₂ steps_words (sym (first_of_cons v (suc n))) (sym (first_of_cons p n))
  where
    shift : (i n : ℕ) → ltb (suc i + 1) (suc (suc n)) ≡ ltb (i + 1) (suc n)
    shift i n = let e : suc i + 1 ≡ suc (i + 1) = omega arith in rw e (leb-suc-suc (suc (i + 1)) (suc n))

-- the two words of vertex j of a curve
abbrev step_row_at : List ℕ → ℕ → ℕ → ℕ → List ℕ
step_row_at bytes at count j = word_at bytes (at + 4 * j) ∷ step_word bytes at count j ∷ []

steps_all : (bytes : List ℕ) (at count : ℕ) → 0 < count → flat_map (step_row_at bytes at count) (first_of self count) ≡ steps_at bytes at count
unfolding steps_at step_word
steps_all bytes at zero h = absurd (omega arith)
steps_all bytes at (suc n) h = let e : suc n - 1 ≡ n = omega arith in rw e (steps_are n (λ (j : ℕ). word_at bytes (at + 4 * j)) (λ (j : ℕ). parity_at bytes (at + 4 * suc n + j)))

module _ (bytes : List ℕ) (at count : ℕ) where
  pub step_last : (j : ℕ) → count - 1 ≤ j → 0 < count → 0 ≡ step_word bytes at count j
  unfolding step_word
  step_last j h s = rw (le-ltb (j + 1) count (omega arith)) refl

  pub step_next : (j w : ℕ) → j < count - 1 → w ≡ parity_word (parity_at bytes (at + 4 * count + j)) → w ≡ step_word bytes at count j
  unfolding step_word
  step_next j w h e = rw (lt-ltb (j + 1) count (omega arith)) e

  -- the first j vertices were written, from a row on
  pub record Stepping (l now : List ℕ) (from j : ℕ) : Type 0 where
    pub words : now ≡ sets l (2 * from) (flat_map (step_row_at bytes at count) (first_of self j))

  pub stepping_start : (l : List ℕ) (from : ℕ) → Stepping l l from 0
  unfolding first_of flat_map
  stepping_start l from = record { words = refl }

  module _ (l now : List ℕ) (from j : ℕ) (s : Stepping l now from j) where
    pub stepping_length : length now ≡ length l
    stepping_length = ap length s.words ∙ length-sets l (2 * from) (flat_map (step_row_at bytes at count) (first_of self j))

    pub stepping_on : (a b : ℕ) → a ≡ word_at bytes (at + 4 * j) → b ≡ step_word bytes at count j
        → Stepping l (set (set now (2 * (from + j)) a) (2 * (from + j) + 1) b) from (j + 1)
    stepping_on a b ea eb =
        record {
          words =
              rw (add-one (2 * (from + j)), ea, eb)
              (row_more (step_row_at bytes at count) self l now (2 * from) j (2 * (from + j)) s.words
              (omega (arith, flat_length (step_row_at bytes at count) self 2 (λ i. refl) j)));
        }

    pub stepping_done : j ≤ count → count ≤ j → 0 < count → now ≡ sets l (2 * from) (steps_at bytes at count)
    stepping_done k h some = let q : j ≡ count = omega arith in (rw q at s.words) ∙ ap (sets l (2 * from)) (steps_all bytes at count some)

-- ---- a curve

length_steps : (vs : List ℕ) (ps : List Parity) → length (steps_words vs ps) ≡ 2 * length vs
unfolding steps_words
length_steps [] ps = omega arith
length_steps (v ∷ vs) [] = omega (arith, length_steps vs [])
length_steps (v ∷ vs) (p ∷ ps) = omega (arith, length_steps vs ps)

pub curve_wound : (bytes : List ℕ) (at : ℕ) (curves steps : List ℕ) (i from tag r : ℕ) (steps' : List ℕ) → tag ≡ word_at bytes at → r ≡ word_at bytes (at + 4)
    → steps' ≡ sets steps (2 * from) (steps_at bytes (at + 8) r) → Wind bytes at curves steps i from r (set (set curves (2 * i) tag) (2 * i + 1) r) steps'
unfolding curve_at steps_at
curve_wound bytes at curves steps i from tag r steps' t e q =
    record {
      count = e;
      rows = rw (add-one (2 * i), t, length_first_of (λ (j : ℕ). word_at bytes (at + 8 + 4 * j)) (word_at bytes (at + 4)), e) refl;
      words = rw e at q;
    }

-- ---- all curves

abbrev row_of : Curve → List ℕ
row_of c = c.tag ∷ length c.vertices ∷ []

abbrev words_of : Curve → List ℕ
words_of c = steps_words c.vertices c.parities

module _ (bytes : List ℕ) (at : ℕ) where
  abbrev item : ℕ → Curve
  item i = curve_at bytes (curve_place bytes at i)

  -- the words of the curves' vertices are two for each
  words_length : (n : ℕ) → length (flat_map words_of (first_of item n)) ≡ 2 * curve_vertices_of (curves_at bytes at n)
  unfolding first_of flat_map curve_vertices_of
  words_length zero = omega arith
  words_length (suc n) =
      ap length (flat_suc words_of item n)
      ∙ length-append (flat_map words_of (first_of item n)) (words_of (item n))
      ∙ omega (arith, words_length n, length_steps (item n).vertices (item n).parities, vertices_snoc (curves_at bytes at n) (item n))

  place_up : (i n : ℕ) → i ≤ n → curve_place bytes at i ≤ curve_place bytes at n
  unfolding curve_place
  place_up i zero h = let e : i ≡ 0 = omega arith in rw e (omega arith)
  place_up i (suc n) h = go (place_up i n) (eq-or-lt_of_le h)
    where
      go : (i ≤ n → curve_place bytes at i ≤ curve_place bytes at n) → (i ≡ suc n) ⊎ (i < suc n) → curve_place bytes at i ≤ curve_place bytes at (suc n)
      go rest (inl e) = rw e (omega arith)
      go rest (inr l) = let r = rest (omega arith) in omega arith

  -- curves that stand in the file begin in it
  pub begins : (curves steps : List ℕ) (n : ℕ) → Curves bytes at curves steps n → at ≤ length bytes
  unfolding curve_place
  begins curves steps n r = omega (arith, place_up 0 n (omega arith), r.stand)

  total_up : (i n : ℕ) → i ≤ n → curve_vertices_of (curves_at bytes at i) ≤ curve_vertices_of (curves_at bytes at n)
  unfolding first_of
  total_up i zero h = let e : i ≡ 0 = omega arith in rw e (omega arith)
  total_up i (suc n) h = go (total_up i n) (eq-or-lt_of_le h)
    where
      go : (i ≤ n → curve_vertices_of (curves_at bytes at i) ≤ curve_vertices_of (curves_at bytes at n)) → (i ≡ suc n) ⊎ (i < suc n)
          → curve_vertices_of (curves_at bytes at i) ≤ curve_vertices_of (curves_at bytes at (suc n))
      go rest (inl e) = rw e (omega arith)
      go rest (inr l) = let r = rest (omega arith) in omega (arith, vertices_snoc (curves_at bytes at n) (item n))

  -- the first i curves were written; the next begins at a place, and its vertices at a row
  pub record Stringing (l m now then : List ℕ) (n i p f : ℕ) : Type 0 where
    pub place : p ≡ curve_place bytes at i
    pub total : f ≡ curve_vertices_of (curves_at bytes at i)
    pub rows : now ≡ sets l 0 (flat_map row_of (first_of item i))
    pub words : then ≡ sets m 0 (flat_map words_of (first_of item i))

  pub stringing_start : (curves steps : List ℕ) (n : ℕ) → Stringing curves steps curves steps n 0 at 0
  unfolding first_of flat_map curve_place curve_vertices_of
  stringing_start curves steps n = record { place = refl; total = refl; rows = refl; words = refl }

  module _ (curves steps now words : List ℕ) (n i place from : ℕ) (s : Stringing curves steps now words n i place from) where
    pub stringing_rows : length now ≡ length curves
    stringing_rows = ap length s.rows ∙ length-sets curves 0 (flat_map row_of (first_of item i))

    pub stringing_words : length words ≡ length steps
    stringing_words = ap length s.words ∙ length-sets steps 0 (flat_map words_of (first_of item i))

    module _ (c : Curves bytes at curves steps n) where
      pub stringing_next : i < n → Written.Curve bytes place now words i from
      unfolding curve_place first_of
      stringing_next h =
          let p = s.place in
          let k = vertex_count bytes (curve_place bytes at i) in
          let up = place_up (suc i) n h in
          let most = total_up (suc i) n h in
          rw p
          (record {
            some = c.some i h;
            stand = omega (arith, up, c.stand);
            row = omega (arith, stringing_rows, c.rows);
            room = omega (arith, stringing_words, c.room, most, vertices_snoc (curves_at bytes at i) (item i), k, s.total);
          })

      pub stringing_on : (r : ℕ) (now' words' : List ℕ) → Wind bytes place now words i from r now' words'
          → Stringing curves steps now' words' n (i + 1) (place + (5 * r + 7)) (from + r)
      unfolding curve_place first_of
      stringing_on r now' words' w =
          let p = s.place in
          let k = vertex_count bytes (curve_place bytes at i) in
          let e = rw p at w.count in
          record {
            place = rw (add-one i, p, e) refl;
            total = rw (add-one i) (omega (arith, s.total, vertices_snoc (curves_at bytes at i) (item i), k, e));
            rows =
                (rw p at w.rows)
                ∙ row_more row_of item curves now 0 i (2 * i) s.rows (omega (arith, flat_length row_of item 2 (λ i. refl) i));
            words =
                (rw p at w.words)
                ∙ row_more words_of item steps words 0 i (2 * from) s.words (omega (arith, words_length i, s.total));
          }

      pub stringing_done : i ≤ n → n ≤ i → Winded (curves_at bytes at n) curves steps now words
      unfolding curve_words vertex_words
      stringing_done k h =
          let q : i ≡ n = omega arith in
          record {
            rows = rw q at s.rows ∙ sets_over curves (flat_map row_of (first_of item n)) (omega (arith, flat_length row_of item 2 (λ i. refl) n, c.rows));
            words = rw q at s.words ∙ sets_over steps (flat_map words_of (first_of item n)) (omega (arith, words_length n, c.room));
          }
