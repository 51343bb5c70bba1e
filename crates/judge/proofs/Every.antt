-- Rows that pass a test, one after the other: what the judge's loops know at their start, after a turn and where they stop.
-- Assumes nothing.
use mathlib.Core.Path.{◌≡◌, refl, sym, ◌∙◌, ap, ap₂}
use mathlib.Core.Bool.{Bool, true, false, ◌&&◌}
use mathlib.Core.List.{List, [], ◌∷◌, ◌++◌}
use mathlib.Core.Logic.{◌⊎◌, inl, inr}
use Prim.Native.Nat.{ℕ, zero, suc, ◌+◌, ◌*◌, ◌≤◌, ◌<◌}
use native.Mathlib.Nat.{mul-suc, mul-le-mul_left, eq-or-lt_of_le, add-zero}
use native.Mathlib.Numerals.{add-one}
use native.Mathlib.Omega.{arith}
use lib.Dec.{ltb, leb-suc-suc}
use lib.ListN.{length, get_or, take, drop, length-drop}
use borrow.Author.Tests.{lt-ltb}
use Rattle.geom.specs.Form.{Form}
use lib.Seq.{take-suc, get_or-drop}
use Rattle.geom.specs.Memory.{ElementRow, StepRow, first_of, four_row, vertex_row_in, element_row, step_row}
use Rattle.geom.specs.Refusals.{every, good_number, good_flags, good_parity, good_position_in}
use Rattle.judge.specs.Words.{word_at, column_below, words_below, Column, Elements}
use Rattle.geom.proofs.Lists.{and_true, and_false}

and_assoc : (a b c : Bool) → (a && b && c) ≡ (a && (b && c))
and_assoc true b c = refl
and_assoc false b c = refl

pub every_append : {A : Type 0} (test : A → Bool) (xs ys : List A) → every test (xs ++ ys) ≡ (every test xs && every test ys)
unfolding every
every_append test [] ys = refl
every_append test (x ∷ xs) ys = ap (λ (b : Bool). test x && b) (every_append test xs ys) ∙ sym (and_assoc (test x) (every test xs) (every test ys))

pub every_snoc : {A : Type 0} (test : A → Bool) (xs : List A) (x : A) → every test (xs ++ x ∷ []) ≡ (every test xs && test x)
unfolding every
every_snoc test xs x = every_append test xs (x ∷ []) ∙ ap (λ (b : Bool). every test xs && b) (and_true (test x))

module _ {A : Type 0} (test : A → Bool) (at : ℕ → A) where
  -- one row more
  pub every_suc : (n : ℕ) → every test (first_of at (suc n)) ≡ (every test (first_of at n) && test (at n))
  unfolding first_of
  every_suc n = every_snoc test (first_of at n) (at n)

  -- at the start
  pub every_start : every test (first_of at 0) ≡ true
  unfolding first_of every
  every_start = refl

  -- on: a row that passes
  pub every_on : (i : ℕ) → every test (first_of at i) ≡ true → test (at i) ≡ true → every test (first_of at (i + 1)) ≡ true
  every_on i p q = rw (add-one, every_suc i, p) q

  -- on: a row of a loop that looks at every row, whether it passes or not
  pub every_with : (i : ℕ) (all good : Bool) → all ≡ every test (first_of at i) → good ≡ test (at i) → (all && good) ≡ every test (first_of at (i + 1))
  every_with i all good p q = rw (add-one, every_suc i, ← p, ← q) refl

  -- stopped: a row that does not
  pub every_off : (i n : ℕ) → i < n → test (at i) ≡ false → every test (first_of at n) ≡ false
  every_off i zero h q = absurd (omega arith)
  every_off i (suc n) h q = every_suc n ∙ go (every_off i n) (eq-or-lt_of_le {n = i} {m = n} (omega arith))
    where
      go : (i < n → test (at i) ≡ false → every test (first_of at n) ≡ false) → (i ≡ n) ⊎ (i < n) → (every test (first_of at n) && test (at n)) ≡ false
      go rest (inl e) = rw (← e, q) (and_false (every test (first_of at i)))
      go rest (inr l) = rw (rest l q) refl

  -- done: what is known of the rows looked at is known of all
  pub every_done : (i n : ℕ) (all : Bool) → i ≤ n → n ≤ i → all ≡ every test (first_of at i) → all ≡ every test (first_of at n)
  every_done i n all h k p = let e : i ≡ n = omega arith in rw e at p

  -- each row passes where all do
  every_at : (i n : ℕ) → i < n → every test (first_of at n) ≡ true → test (at i) ≡ true
  every_at i n h p = go (test (at i)) refl
    where
      go : (b : Bool) → test (at i) ≡ b → b ≡ true
      go true e = refl
      go false e = sym (every_off i n h e) ∙ p

  -- all rows pass where each does
  every_all : (n : ℕ) → ((i : ℕ) → i < n → test (at i) ≡ true) → every test (first_of at n) ≡ true
  every_all zero h = every_start
  every_all (suc n) h = every_suc n ∙ ap₂ ◌&&◌ (every_all n (λ i k. h i (omega arith))) (h n (omega arith))

-- the same test, said of other rows
pub every_same : {A B : Type 0} (test : A → Bool) (at : ℕ → A) (test' : B → Bool) (at' : ℕ → B) (n : ℕ)
    → ((i : ℕ) → i < n → test (at i) ≡ test' (at' i)) → every test (first_of at n) ≡ every test' (first_of at' n)
unfolding first_of every
every_same test at test' at' zero h = refl
every_same test at test' at' (suc n) h =
    every_suc test at n
    ∙ ap₂ ◌&&◌ (every_same test at test' at' n (λ i k. h i (omega arith))) (h n (omega arith))
    ∙ sym (every_suc test' at' n)

-- ---- words below a bound

-- a word, compared as it was read
pub number_below : (bound w r : ℕ) → r ≡ w → ltb r bound ≡ good_number bound w
unfolding good_number
number_below bound w r e = ap (λ (k : ℕ). ltb k bound) e

-- no word reaches a bound that is past them all
pub words_narrow : (words : List ℕ) (n bound limit : ℕ) → ((i : ℕ) → get_or words i 0 < limit) → limit ≤ bound → true ≡ words_below words n bound
unfolding good_number
words_narrow words n bound limit narrow h =
    sym (every_all (good_number bound) (λ (i : ℕ). get_or words i 0) n (λ i l. lt-ltb (get_or words i 0) bound (omega (arith, narrow i))))

-- rows of a fixed width that stand whole in a slice
pub rows_column : (words : List ℕ) (width column rows : ℕ) → column < width → width * rows ≤ length words → Column words width column rows
rows_column words width column rows h room =
    record { stands = λ i k. omega (arith, mul-suc width i, mul-le-mul_left width k) }

pub elements_column : (words : List ℕ) (corners rows : ℕ) → Elements words corners rows → Column words (corners + 1) corners rows
elements_column words corners rows e =
    rw (add-one corners) (rows_column words (suc corners) corners rows (omega arith) e.room)

-- the words of all elements stand in the slice
pub elements_words : (words : List ℕ) (corners rows : ℕ) → Elements words corners rows → (corners + 1) * rows ≤ length words
elements_words words corners rows e = rw (add-one corners) e.room

-- the corners of row i
pub row_end : (words : List ℕ) (corners rows i : ℕ) → Elements words corners rows → i < rows → (corners + 1) * i + corners < length words
row_end words corners rows i e h = (elements_column words corners rows e).stands i h

pub row_column : (words : List ℕ) (start n : ℕ) → start + n ≤ length words → Column words 1 start n
row_column words start n h = record { stands = λ i k. omega arith }

-- words that follow one another
first_of_take : (words : List ℕ) (start n : ℕ) → start + n ≤ length words → first_of (word_at words 1 start) n ≡ take n (drop start words)
unfolding first_of
first_of_take words start zero h = refl
first_of_take words start (suc n) h =
    let l : n < length (drop start words) = simp length-drop (omega arith) in
    let e : 1 * n + start ≡ start + n = omega arith in
    sym (take-suc (drop start words) n 0 l
    ∙ ap₂ (λ (xs : List ℕ) (x : ℕ). xs ++ x ∷ []) (sym (first_of_take words start n (omega arith))) (get_or-drop start words n 0 ∙ ap (λ (k : ℕ). get_or words k 0) (sym e)))

-- an element's corners
pub row_corners : (words : List ℕ) (corners rows i count : ℕ) → Elements words corners rows → i < rows
    → column_below words 1 ((corners + 1) * i) corners count ≡ every (good_number count) (element_row corners words i).corners
unfolding element_row
row_corners words corners rows i count e h =
    let l = row_end words corners rows i e h in
    ap (every (good_number count)) (first_of_take words ((corners + 1) * i) corners (omega arith)
    ∙ ap (λ (k : ℕ). take corners (drop (k * i) words)) (add-one corners))

-- where every word of the elements is below the count, every corner is
pub words_corners : (words : List ℕ) (corners rows count : ℕ) → Elements words corners rows → words_below words ((corners + 1) * rows) count ≡ true
    → true ≡ every (λ (e : ElementRow). every (good_number count) e.corners) (first_of (element_row corners words) rows)
words_corners words corners rows count e p =
    sym (every_all (λ (e : ElementRow). every (good_number count) e.corners) (element_row corners words) rows
    (λ i h. sym (row_corners words corners rows i count e h) ∙ row i h))
  where
    row : (i : ℕ) → i < rows → column_below words 1 ((corners + 1) * i) corners count ≡ true
    row i h =
        every_all (good_number count) (word_at words 1 ((corners + 1) * i)) corners (λ k l.
        let m : 1 * k + (corners + 1) * i < (corners + 1) * rows = omega (arith, mul-suc (corners + 1) i, mul-le-mul_left (corners + 1) h) in
        every_at (good_number count) (λ (j : ℕ). get_or words j 0) (1 * k + (corners + 1) * i) ((corners + 1) * rows) m p)

-- ---- columns as the rows' tests

pub flags_column : (F : Form) (positions : List F.Coordinate) (marks : List ℕ) (n : ℕ)
    → column_below marks 3 0 n 16 ≡ every (λ (v : F.Vertex). good_flags (F.flags v)) (first_of (vertex_row_in F positions marks) n)
unfolding good_number good_flags vertex_row_in four_row
flags_column F positions marks n =
    every_same (good_number 16) (word_at marks 3 0) (λ (v : F.Vertex). good_flags (F.flags v)) (vertex_row_in F positions marks) n
    (λ i h. rw (add-zero (3 * i), (F.parts_of _ _ _ _).1) (leb-suc-suc (get_or marks (3 * i) 0) 15))

pub parities_column : (words : List ℕ) (corners n : ℕ)
    → column_below words (corners + 1) corners n 2 ≡ every (λ (e : ElementRow). good_parity e.parity) (first_of (element_row corners words) n)
unfolding good_number good_parity element_row
parities_column words corners n =
    every_same (good_number 2) (word_at words (corners + 1) corners) (λ (e : ElementRow). good_parity e.parity) (element_row corners words) n
    (λ i h. rw (add-one corners) (leb-suc-suc (get_or words (suc corners * i + corners) 0) 1))

pub steps_column : (steps : List ℕ) (n count : ℕ)
    → column_below steps 2 0 n count ≡ every (λ (s : StepRow). good_number count s.vertex) (first_of (step_row steps) n)
unfolding step_row
steps_column steps n count =
    every_same (good_number count) (word_at steps 2 0) (λ (s : StepRow). good_number count s.vertex) (step_row steps) n
    (λ i h. rw (add-zero (2 * i)) refl)

-- four coordinates a vertex
and_four : (e a b c d : Bool) → (e && a && b && c && d) ≡ (e && (a && b && c && d))
and_four true a b c d = refl
and_four false a b c d = refl

pub positions_words_lem : (F : Form) (positions : List F.Coordinate) (marks : List ℕ) (n : ℕ)
    → every F.good (first_of (λ (i : ℕ). get_or positions i F.points.zero) (4 * n))
    ≡ every (λ (v : F.Vertex). good_position_in F (F.position v)) (first_of (vertex_row_in F positions marks) n)
unfolding first_of every
positions_words_lem F positions marks zero = refl
positions_words_lem F positions marks (suc n) =
    let at : ℕ → F.Coordinate = λ i. get_or positions i F.points.zero in
    ap (λ (k : ℕ). every F.good (first_of at k)) (four n)
    ∙ every_suc F.good at (4 * n + 3)
    ∙ ap (λ (b : Bool). b && F.good (at (4 * n + 3))) (three at n)
    ∙ and_four (every F.good (first_of at (4 * n))) (F.good (at (4 * n))) (F.good (at (4 * n + 1))) (F.good (at (4 * n + 2))) (F.good (at (4 * n + 3)))
    ∙ ap₂ ◌&&◌ (positions_words_lem F positions marks n) (row n)
    ∙ sym (every_suc (λ (v : F.Vertex). good_position_in F (F.position v)) (vertex_row_in F positions marks) n)
  where
    four : (n : ℕ) → 4 * suc n ≡ suc (4 * n + 3)
    four n = omega arith

    three : (at : ℕ → F.Coordinate) (n : ℕ) → every F.good (first_of at (4 * n + 3))
        ≡ (every F.good (first_of at (4 * n)) && F.good (at (4 * n)) && F.good (at (4 * n + 1)) && F.good (at (4 * n + 2)))
    three at n =
        let p : 4 * n + 3 ≡ suc (4 * n + 2) = omega arith in
        let q : 4 * n + 2 ≡ suc (4 * n + 1) = omega arith in
        ap (λ (k : ℕ). every F.good (first_of at k)) p
        ∙ every_suc F.good at (4 * n + 2)
        ∙ ap (λ (b : Bool). b && F.good (at (4 * n + 2)))
        (ap (λ (k : ℕ). every F.good (first_of at k)) q
        ∙ every_suc F.good at (4 * n + 1)
        ∙ ap (λ (b : Bool). b && F.good (at (4 * n + 1)))
        (ap (λ (k : ℕ). every F.good (first_of at k)) (add-one (4 * n)) ∙ every_suc F.good at (4 * n)))

    row : (n : ℕ)
        → (F.good (get_or positions (4 * n) F.points.zero) && F.good (get_or positions (4 * n + 1) F.points.zero) && F.good (get_or positions (4 * n + 2) F.points.zero) && F.good (get_or positions (4 * n + 3) F.points.zero))
        ≡ good_position_in F (F.position (vertex_row_in F positions marks n))
    row n =
        unfold good_position_in vertex_row_in four_row in
        (let at : ℕ → F.Coordinate = λ i. get_or positions i F.points.zero in
        let axes = F.points.axes_of_lem (at (4 * n)) (at (4 * n + 1)) (at (4 * n + 2)) (at (4 * n + 3)) in
        sym (
        ap (λ (p : F.Point). F.good (F.points.x p) && F.good (F.points.y p) && F.good (F.points.z p) && F.good (F.points.w p)) (F.parts_of _ _ _ _).0
        ∙ (λ i. F.good (axes.0 i) && F.good (axes.1 i) && F.good (axes.2 i) && F.good (axes.3 i))
        ))
