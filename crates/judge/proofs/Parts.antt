-- Curves one after the other: their lengths added up, and the rows of each.
-- Assumes nothing.
use mathlib.Core.Path.{◌≡◌, refl, sym, ◌∙◌, ap, ap₂}
use mathlib.Core.Bool.{Bool, true, false, not}
use mathlib.Core.List.{List, [], ◌∷◌, ◌++◌, append_assoc}
use mathlib.Core.Logic.{◌⊎◌, inl, inr}
use Prim.Native.Nat.{ℕ, zero, suc, ◌+◌, ◌-◌, ◌*◌, ◌≤◌, ◌<◌}
use native.Mathlib.Nat.{eq-or-lt_of_le}
use native.Mathlib.Numerals.{add-one}
use native.Mathlib.Omega.{arith}
use lib.Dec.{eqb, leb-suc-suc}
use lib.ListN.{length, get_or, take, drop, length-drop}
use lib.Seq.{take-suc, get_or-drop, drop-drop}
use borrow.Author.Tests.{eqb-true, eqb-false, eq-eqb, ne_eqb}
use Rattle.geom.specs.Memory.{CurveRow, StepRow, first_of, curve_row, step_row, step_words, curve_parts}
use Rattle.geom.specs.Refusals.{every, good_parity, good_number, good_curve, curve_lengths}
use Rattle.judge.specs.Words.{word_at, column_below, Parts}
use Rattle.geom.proofs.Rows.{length_first_of, get_d_first_of}
use Rattle.judge.proofs.Every.{every_same, every_on, every_off, every_done}

-- ---- a curve has vertices

pub curve_off : (words : List ℕ) (i r : ℕ) → r ≡ get_or words (2 * i + 1) 0 → r ≡ 0 → good_curve (curve_row words i) ≡ false
unfolding good_curve curve_row
curve_off words i r e z = ap not (eq-eqb (get_or words (2 * i + 1) 0) 0 (omega arith))

pub curve_on : (words : List ℕ) (i r : ℕ) → r ≡ get_or words (2 * i + 1) 0 → (r ≡ 0 → ⊥) → good_curve (curve_row words i) ≡ true
unfolding good_curve curve_row
curve_on words i r e n = ap not (ne_eqb (get_or words (2 * i + 1) 0) 0 (λ z. n (e ∙ z)))

-- ---- lengths added up

lengths_append : (xs ys : List CurveRow) → curve_lengths (xs ++ ys) ≡ curve_lengths xs + curve_lengths ys
unfolding curve_lengths
lengths_append [] ys = omega arith
lengths_append (x ∷ xs) ys = omega (arith, lengths_append xs ys)

pub lengths_suc : (at : ℕ → CurveRow) (n : ℕ) → curve_lengths (first_of at (n + 1)) ≡ curve_lengths (first_of at n) + (at n).count
unfolding first_of curve_lengths
lengths_suc at n = rw add-one (lengths_append (first_of at n) (at n ∷ []) ∙ omega arith)

pub lengths_rise : (at : ℕ → CurveRow) (i n : ℕ) → i ≤ n → curve_lengths (first_of at i) ≤ curve_lengths (first_of at n)
unfolding first_of
lengths_rise at i zero h = let e : i ≡ 0 = omega arith in rw e (omega arith)
lengths_rise at i (suc n) h = go (lengths_rise at i n) (eq-or-lt_of_le h)
  where
    go : (i ≤ n → curve_lengths (first_of at i) ≤ curve_lengths (first_of at n)) → (i ≡ suc n) ⊎ (i < suc n)
        → curve_lengths (first_of at i) ≤ curve_lengths (first_of at (suc n))
    go rest (inl e) = rw e (omega arith)
    go rest (inr l) = omega (arith, rest (omega arith), rw (add-one n) at (lengths_suc at n))

-- what is left of the total while the curves are passed
pub record Counting (curves : List ℕ) (rows total i left : ℕ) : Type 0 where
  pub within : i ≤ rows
  pub sum : curve_lengths (first_of (curve_row curves) i) + left ≡ total

pub counting_start : (curves : List ℕ) (rows total : ℕ) → Counting curves rows total 0 total
unfolding first_of curve_lengths
counting_start curves rows total = record { within = omega arith; sum = omega arith }

module _ (curves : List ℕ) (rows total i left count : ℕ) (g : Counting curves rows total i left) (h : i < rows)
    (e : count ≡ get_or curves (2 * i + 1) 0) where
  after : curve_lengths (first_of (curve_row curves) (i + 1)) ≡ curve_lengths (first_of (curve_row curves) i) + count
  unfolding curve_row
  after = lengths_suc (curve_row curves) i ∙ ap (λ (k : ℕ). curve_lengths (first_of (curve_row curves) i) + k) (sym e)

  pub counting_on : count ≤ left → Counting curves rows total (i + 1) (left - count)
  counting_on l = record { within = omega arith; sum = omega (arith, after) }

  pub counting_off : left < count → false ≡ eqb (curve_lengths (first_of (curve_row curves) rows)) total
  counting_off l =
      sym (ne_eqb (curve_lengths (first_of (curve_row curves) rows)) total
      (λ q. omega (arith, after, lengths_rise (curve_row curves) (i + 1) rows (omega arith))))

pub counting_done : (curves : List ℕ) (rows total i left : ℕ) → Counting curves rows total i left → rows ≤ i
    → eqb left 0 ≡ eqb (curve_lengths (first_of (curve_row curves) rows)) total
counting_done curves rows total i left g h = go (eqb left 0) refl
  where
    same : i ≡ rows
    same = omega arith

    sum : curve_lengths (first_of (curve_row curves) rows) + left ≡ total
    sum = rw same at g.sum

    go : (b : Bool) → eqb left 0 ≡ b → b ≡ eqb (curve_lengths (first_of (curve_row curves) rows)) total
    go true e = sym (eq-eqb (curve_lengths (first_of (curve_row curves) rows)) total (omega (arith, sum, eqb-true left 0 e)))
    go false e =
        sym (ne_eqb (curve_lengths (first_of (curve_row curves) rows)) total
        (λ q. eqb-false left 0 e (omega (arith, sum))))

-- ---- each curve's rows

-- the rows of curve i
abbrev pub part : (ℕ → CurveRow) → List StepRow → ℕ → List StepRow
part at steps i = take (at i).count (drop (curve_lengths (first_of at i)) steps)

parts_append : (xs ys : List CurveRow) (steps : List StepRow)
    → curve_parts (xs ++ ys) steps ≡ curve_parts xs steps ++ curve_parts ys (drop (curve_lengths xs) steps)
unfolding curve_parts curve_lengths
parts_append [] ys steps = refl
parts_append (x ∷ xs) ys steps =
    ap (λ (l : List (List StepRow)). take x.count steps ∷ l)
    (parts_append xs ys (drop x.count steps)
    ∙ ap (λ (l : List StepRow). curve_parts xs (drop x.count steps) ++ curve_parts ys l) (drop-drop (curve_lengths xs) x.count steps))

pub parts_rows : (at : ℕ → CurveRow) (n : ℕ) (steps : List StepRow) → curve_parts (first_of at n) steps ≡ first_of (part at steps) n
unfolding first_of curve_parts
parts_rows at zero steps = refl
parts_rows at (suc n) steps =
    parts_append (first_of at n) (at n ∷ []) steps
    ∙ ap (λ (l : List (List StepRow)). l ++ part at steps n ∷ []) (parts_rows at n steps)

slice_first_of : {A : Type 0} (at : ℕ → A) (d : A) (a c n : ℕ) → a + c ≤ n → take c (drop a (first_of at n)) ≡ first_of (λ (k : ℕ). at (a + k)) c
unfolding first_of
slice_first_of at d a zero n h = refl
slice_first_of at d a (suc c) n h =
    let l : c < length (drop a (first_of at n)) = simp (length-drop, length_first_of at n) (omega arith) in
    take-suc (drop a (first_of at n)) c d l
    ∙ ap₂ (λ (xs : List _) (x : _). xs ++ x ∷ []) (slice_first_of at d a c n (omega arith)) (get_or-drop a (first_of at n) c d ∙ get_d_first_of at d (a + c) n (omega arith))

words_snoc : (rs : List StepRow) (x y : StepRow) → step_words (rs ++ x ∷ y ∷ []) ≡ step_words (rs ++ x ∷ []) ++ x.step ∷ []
unfolding step_words
words_snoc [] x y = refl
words_snoc (r ∷ []) x y = refl
words_snoc (r ∷ s ∷ rs) x y = ap (λ (l : List ℕ). r.step ∷ l) (words_snoc (s ∷ rs) x y)

words_first_of : (at : ℕ → StepRow) (n : ℕ) → step_words (first_of at (suc n)) ≡ first_of (λ (k : ℕ). (at k).step) n
unfolding first_of step_words
words_first_of at zero = refl
words_first_of at (suc n) =
    ap step_words (append_assoc (first_of at n) (at n ∷ []) (at (suc n) ∷ []))
    ∙ words_snoc (first_of at n) (at n) (at (suc n))
    ∙ ap (λ (l : List ℕ). l ++ (at n).step ∷ []) (words_first_of at n)

-- the steps of a curve with vertices, as a column of words
pub steps_parities : (steps : List ℕ) (start count total : ℕ) → 0 < count → start + count ≤ total
    → column_below steps 2 (2 * start + 1) (count - 1) 2 ≡ every good_parity (step_words (take count (drop start (first_of (step_row steps) total))))
steps_parities steps start zero total h l = absurd (omega arith)
steps_parities steps start (suc n) total h l =
    let e : suc n - 1 ≡ n = omega arith in
    ap (λ (k : ℕ). column_below steps 2 (2 * start + 1) k 2) e
    ∙ every_same (good_number 2) (word_at steps 2 (2 * start + 1)) good_parity (λ (k : ℕ). (step_row steps (start + k)).step) n (one steps start)
    ∙ sym (ap (every good_parity) (ap step_words (slice_first_of (step_row steps) (record { vertex = 0; step = 0 }) start (suc n) total l)
    ∙ words_first_of (λ (k : ℕ). step_row steps (start + k)) n))
  where
    one : (steps : List ℕ) (start i : ℕ) → i < n → good_number 2 (word_at steps 2 (2 * start + 1) i) ≡ good_parity (step_row steps (start + i)).step
    one steps start i h =
        unfold good_number good_parity step_row in
        let q : 2 * i + (2 * start + 1) ≡ 2 * (start + i) + 1 = omega arith in
        rw q (leb-suc-suc (get_or steps (2 * (start + i) + 1) 0) 1)

-- a curve without vertices has no step
pub no_steps : (rows : List StepRow) (count : ℕ) → count ≡ 0 → every good_parity (step_words (take count rows)) ≡ true
unfolding step_words every
no_steps rows count e = rw e refl

-- ---- the curves passed, and where the next one's rows start

-- a curve's steps pass
abbrev pub passes : List StepRow → Bool
passes rows = every good_parity (step_words rows)

pub record Walking (curves : List ℕ) (rows : ℕ) (steps : List ℕ) (total start i : ℕ) : Type 0 where
  pub within : i ≤ rows
  pub sum : start ≡ curve_lengths (first_of (curve_row curves) i)
  pub passed : every passes (first_of (part (curve_row curves) (first_of (step_row steps) total)) i) ≡ true

module _ (curves : List ℕ) (rows : ℕ) (steps : List ℕ) (total : ℕ) where
  pub walking_start : Walking curves rows steps total 0 0
  unfolding first_of curve_lengths every
  walking_start = record { within = omega arith; sum = refl; passed = refl }

  module _ (start i count : ℕ) (p : Parts curves rows steps total) (w : Walking curves rows steps total start i) (h : i < rows)
      (e : count ≡ get_or curves (2 * i + 1) 0) where
    next : start + count ≡ curve_lengths (first_of (curve_row curves) (i + 1))
    unfolding curve_row
    next = omega (arith, w.sum, e, lengths_suc (curve_row curves) i)

    pub walking_within : start + count ≤ total
    walking_within = omega (arith, next, p.sum, lengths_rise (curve_row curves) (i + 1) rows (omega arith))

    module _ (r : Bool) (told : (all : ℕ) → start + count ≤ all → r ≡ passes (take count (drop start (first_of (step_row steps) all)))) where
      row : r ≡ passes (part (curve_row curves) (first_of (step_row steps) total) i)
      unfolding curve_row
      row = told total walking_within ∙ rw (e, w.sum) refl

      pub walking_off : r ≡ false → false ≡ every passes (curve_parts (first_of (curve_row curves) rows) (first_of (step_row steps) total))
      walking_off q =
          sym (ap (every passes) (parts_rows (curve_row curves) rows (first_of (step_row steps) total))
          ∙ every_off passes (part (curve_row curves) (first_of (step_row steps) total)) i rows h (sym row ∙ q))

      pub walking_on : r ≡ true → Walking curves rows steps total (start + count) (i + 1)
      walking_on q =
          record {
            within = omega arith;
            sum = next;
            passed = every_on passes (part (curve_row curves) (first_of (step_row steps) total)) i w.passed (sym row ∙ q);
          }

  pub walking_done : (start i : ℕ) → Walking curves rows steps total start i → rows ≤ i
      → true ≡ every passes (curve_parts (first_of (curve_row curves) rows) (first_of (step_row steps) total))
  walking_done start i w h =
      every_done passes (part (curve_row curves) (first_of (step_row steps) total)) i rows true w.within h (sym w.passed)
      ∙ sym (ap (every passes) (parts_rows (curve_row curves) rows (first_of (step_row steps) total)))
