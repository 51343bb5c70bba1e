-- One curve in memory: its steps, its last vertex and its row are the words of the definition's curve.
-- Assumes nothing.
use mathlib.Core.Path.{◌≡◌, refl, sym, ◌∙◌, ap}
use mathlib.Core.Logic.{◌⊎◌, inl, inr}
use mathlib.Core.List.{List, [], ◌∷◌, ◌++◌, flat_map, append-nil}
use Prim.Native.Nat.{ℕ, zero, suc, ◌+◌, ◌*◌, ◌-◌, ◌<◌, ◌≤◌}
use native.Mathlib.Omega.{arith}
use lib.ListN.{length, get_or, length-append}
use Rattle.geom.specs.declared.parity.Parity.{Parity}
use Rattle.geom.specs.Book.{Kind, Pair, Book, Made, mids}
use Rattle.geom.specs.Elements.{Curve}
use Rattle.geom.specs.Rules.{step_ends, steps, between, doubled, curve, curve_from}
use Rattle.geom.specs.Mesh.{curve_vertices_of}
use Rattle.geom.specs.Memory.{first_of, steps_words, parity_word, curve_words, vertex_words}
use Rattle.book.specs.Cells.{pairs_of}
use Rattle.division.specs.Writing.{written}
use Rattle.division.specs.Threads.{vertex_at, parity_at, step_at, thread_to, quads, Threads, curve_at, Spread, Strings}
use Rattle.geom.proofs.Rows.{length_first_of, first_of_cons}
use Rattle.geom.proofs.Forming.{length_between}
use Rattle.division.proofs.Rows.{written_none, written_more}
use Rattle.division.proofs.Folds.{length_placed, mids_grows}
use Rattle.division.proofs.Threading.{length_quads}

-- the steps of a curve by their places
steps_places :
    (v : ℕ → ℕ) (p : ℕ → Parity) (n : ℕ)
    → steps (v 0) (first_of (λ (j : ℕ). v (suc j)) n) (first_of p n) ≡ first_of (λ (j : ℕ). step_ends (p j) (v j) (v (suc j))) n
unfolding steps first_of
steps_places v p zero = refl
steps_places v p (suc n) =
    let w : ℕ → ℕ = λ j. v (suc j) in
    let q : ℕ → Parity = λ j. p (suc j) in
    ap (λ (ws : List ℕ). steps (v 0) ws (first_of p (suc n))) (first_of_cons w n)
    ∙ ap (λ (ps : List Parity). steps (v 0) (v 1 ∷ first_of (λ (j : ℕ). w (suc j)) n) ps) (first_of_cons p n)
    ∙ ap (λ (qs : List Pair). step_ends (p 0) (v 0) (v 1) ∷ qs) (steps_places w q n)
    ∙ sym (first_of_cons (λ (j : ℕ). step_ends (p j) (v j) (v (suc j))) n)

-- the words of a curve with its midpoints
between_words :
    (v : ℕ → ℕ) (p : ℕ → Parity) (ms : List ℕ) (n : ℕ) → length ms ≡ n
    → steps_words (v 0 ∷ between ms (first_of (λ (j : ℕ). v (suc j)) n)) (doubled (first_of p n)) ≡ quads v p ms ++ (v n ∷ 0 ∷ [])
unfolding steps_words between doubled first_of quads
between_words v p [] zero e = refl
between_words v p [] (suc n) e = absurd (omega arith)
between_words v p (m ∷ ms) zero e = absurd (omega arith)
between_words v p (m ∷ ms) (suc n) e =
    let w : ℕ → ℕ = λ j. v (suc j) in
    let q : ℕ → Parity = λ j. p (suc j) in
    ap (λ (ws : List ℕ). steps_words (v 0 ∷ between (m ∷ ms) ws) (doubled (first_of p (suc n)))) (first_of_cons w n)
    ∙ ap (λ (ps : List Parity). steps_words (v 0 ∷ between (m ∷ ms) (v 1 ∷ first_of (λ (j : ℕ). w (suc j)) n)) (doubled ps)) (first_of_cons p n)
    ∙ ap (λ (r : List ℕ). v 0 ∷ parity_word (p 0) ∷ m ∷ parity_word (p 0) ∷ r) (between_words w q ms n (omega arith))

-- a curve only adds to the book
pub curve_grows : (kind : Kind) (base : ℕ) (b : Book) (c : Curve) → length b ≤ length (curve kind base b c).book
unfolding curve
curve_grows kind base b c = go c.vertices
  where
    go : (vs : List ℕ) → length b ≤ length (curve_from kind base b c vs).book
    go [] = omega arith
    go (u ∷ ws) = mids_grows kind base b (steps u ws c.parities)

-- a curve by its places, n vertices and k parities
abbrev strand : ℕ → (ℕ → ℕ) → (ℕ → Parity) → ℕ → ℕ → Curve
strand t v p n k = record { tag = t; vertices = first_of v n; parities = first_of p k }

-- a curve with a midpoint in each of its n steps
abbrev spun : ℕ → (ℕ → ℕ) → (ℕ → Parity) → ℕ → List ℕ → Curve
spun t v p n ms =
    record { tag = t; vertices = v 0 ∷ between ms (first_of (λ (j : ℕ). v (suc j)) n); parities = doubled (first_of p n) }

-- the rule of a curve with n steps
curve_steps :
    (kind : Kind) (base t : ℕ) (v : ℕ → ℕ) (p : ℕ → Parity) (n : ℕ) (book : Book)
    → curve kind base book (strand t v p (suc n) n)
    ≡ (let m = mids kind base book (first_of (λ (j : ℕ). step_ends (p j) (v j) (v (suc j))) n) in
    record { made = spun t v p n m.made ∷ []; book = m.book })
unfolding curve
curve_steps kind base t v p n book =
    ap (curve_from kind base book (strand t v p (suc n) n)) (first_of_cons v n)
    ∙ ap
    (λ (qs : List Pair).
    let m = mids kind base book qs in
    record { made = spun t v p n m.made ∷ []; book = m.book })
    (steps_places v p n)

module _ (kind : Kind) (base from i : ℕ) (rows words : List ℕ) (book : Book) where
  -- the number of vertices
  abbrev count : ℕ
  count = get_or rows (2 * i + 1) 0

  abbrev tag : ℕ
  tag = get_or rows (2 * i) 0

  abbrev wound : Made Curve
  wound = curve kind base book (curve_at rows words from i)

  curve_none : count ≡ 0 → wound ≡ record { made = record { tag = tag; vertices = []; parities = [] } ∷ []; book = book }
  unfolding curve first_of
  curve_none e =
      let f : count - 1 ≡ 0 = omega arith in
      λ j. curve kind base book (strand tag (vertex_at words from) (parity_at words from) (e j) (f j))

  -- no vertices: the curve is unchanged
  pub curve_empty :
      {room cells at e : ℕ} {new after vertices cells₂ : List ℕ} → count ≡ 0 → Spread base room cells at e vertices cells₂
      → book ≡ pairs_of cells₂ e → after ≡ written new (2 * i) (tag ∷ 0 ∷ [])
      → Strings base room cells i at wound new after vertices vertices cells₂ at e
  unfolding curve_words vertex_words flat_map steps_words curve_vertices_of
  curve_empty {at = at} {new = new} {vertices = vertices} zero-count s h is =
      let w = curve_none zero-count in
      record {
        ready = s.ready;
        entries = sym h ∙ ap (λ (m : Made Curve). m.book) (sym w);
        counted = omega (arith, ap (λ (m : Made Curve). curve_vertices_of m.made) w);
        within = s.within;
        ends = omega (arith, ap (λ (m : Made Curve). length (vertex_words m.made)) w);
        list = is ∙ ap (λ (m : Made Curve). written new (2 * i) (curve_words m.made)) (sym w);
        strung =
            sym
            (ap (λ (m : Made Curve). written vertices (2 * at) (vertex_words m.made)) w
            ∙ written_none vertices (2 * at) (omega (arith, s.within, s.lent)));
      }

  module _ (positive : count ≡ 0 → ⊥) where
    -- the number of steps
    abbrev n : ℕ
    n = count - 1

    -- the midpoints
    abbrev thread : Made ℕ
    thread = thread_to kind base words from book n

    wound_is :
        wound ≡ record { made = spun tag (vertex_at words from) (parity_at words from) n thread.made ∷ []; book = thread.book }
    unfolding thread_to
    wound_is =
        let e : count ≡ suc n = omega arith in
        (λ j. curve kind base book (strand tag (vertex_at words from) (parity_at words from) (e j) n))
        ∙ curve_steps kind base tag (vertex_at words from) (parity_at words from) n book

    length_thread : length thread.made ≡ n
    unfolding thread_to mids
    length_thread = length_placed kind base book (step_at words from) n

    wound_vertices : curve_vertices_of wound.made ≡ 2 * n + 1
    unfolding curve_vertices_of
    wound_vertices =
        let ws = first_of (λ (j : ℕ). vertex_at words from (suc j)) n in
        let l = length_first_of (λ (j : ℕ). vertex_at words from (suc j)) n in
        ap (λ (m : Made Curve). curve_vertices_of m.made) wound_is
        ∙ omega (arith, length_between thread.made ws (length_thread ∙ sym l))

    wound_row : curve_words wound.made ≡ tag ∷ (2 * n + 1) ∷ []
    unfolding curve_words flat_map
    wound_row =
        let ws = first_of (λ (j : ℕ). vertex_at words from (suc j)) n in
        let l = length_first_of (λ (j : ℕ). vertex_at words from (suc j)) n in
        ap (λ (m : Made Curve). curve_words m.made) wound_is
        ∙ ap (λ (k : ℕ). tag ∷ k ∷ []) (omega (arith, length_between thread.made ws (length_thread ∙ sym l)))

    wound_words :
        vertex_words wound.made
        ≡ quads (vertex_at words from) (parity_at words from) thread.made ++ (vertex_at words from n ∷ 0 ∷ [])
    unfolding vertex_words flat_map
    wound_words =
        ap (λ (m : Made Curve). vertex_words m.made) wound_is
        ∙ append-nil _
        ∙ between_words (vertex_at words from) (parity_at words from) thread.made n length_thread

    -- no room for a midpoint, or no cells for the vertices
    pub curve_crowded : (room cells at : ℕ) → room < length thread.book → (room < length wound.book) ⊎ (cells < at + curve_vertices_of wound.made)
    curve_crowded room cells at l = inl (omega (arith, ap (λ (m : Made Curve). length m.book) wound_is))

    pub curve_full : (room cells at : ℕ) → cells - at < 2 * n + 1 → (room < length wound.book) ⊎ (cells < at + curve_vertices_of wound.made)
    curve_full room cells at l = inr (omega (arith, wound_vertices))

    pub curve_strings :
        {room cells at e : ℕ} {new after vertices one two cells₂ : List ℕ} → Threads base room from at words thread vertices one cells₂ e
        → at + (2 * n + 1) ≤ cells → 2 * cells ≤ length vertices
        → two ≡ written one (2 * (at + 2 * n)) (vertex_at words from n ∷ 0 ∷ []) → after ≡ written new (2 * i) (tag ∷ (2 * n + 1) ∷ [])
        → Strings base room cells i at wound new after vertices two cells₂ (at + 2 * n + 1) e
    curve_strings {at = at} {new = new} {vertices = vertices} {one = one} t fits lent is row =
        let qs = quads (vertex_at words from) (parity_at words from) thread.made in
        let last = vertex_at words from n ∷ 0 ∷ [] in
        let l : length qs ≡ 4 * n = length_quads (vertex_at words from) (parity_at words from) thread.made ∙ ap (λ (x : ℕ). 4 * x) length_thread in
        record {
          ready = t.ready;
          entries = t.entries ∙ ap (λ (m : Made Curve). m.book) (sym wound_is);
          counted = omega (arith, wound_vertices);
          within = omega arith;
          ends = omega (arith, l, length-append qs last, ap length wound_words);
          list = row ∙ ap (written new (2 * i)) (sym wound_row);
          strung =
              is
              ∙ ap (λ (x : List ℕ). written x (2 * (at + 2 * n)) last) t.list
              ∙ ap (λ (j : ℕ). written (written vertices (2 * at) qs) j last) (omega (arith, l))
              ∙ written_more vertices (2 * at) qs last (omega (arith, l))
              ∙ ap (written vertices (2 * at)) (sym wound_words);
        }
