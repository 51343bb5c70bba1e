-- The steps of a curve, one after the other: vertex and midpoint with the step's parity.
-- Assumes nothing.
use mathlib.Core.Path.{◌≡◌, refl, sym, ◌∙◌, ap}
use mathlib.Core.List.{List, [], ◌∷◌, ◌++◌}
use Prim.Native.Nat.{ℕ, suc, ◌+◌, ◌*◌, ◌<◌, ◌≤◌}
use native.Mathlib.Omega.{arith}
use native.Mathlib.Numerals.{add-one}
use lib.ListN.{length, get_or, set}
use lib.Seq.{sets-eq}
use Rattle.geom.specs.declared.parity.Parity.{Parity}
use Rattle.geom.specs.Book.{Kind, Pair, Book, Made, seek, book_or, midpoint, each, place, mids}
use Rattle.geom.specs.Rules.{step_ends}
use Rattle.geom.specs.Memory.{first_of, parity_word}
use Rattle.book.specs.Cells.{pairs_of}
use Rattle.book.specs.Answers.{Ready, Placed}
use Rattle.division.specs.Writing.{written}
use Rattle.division.specs.Threads.{vertex_at, parity_at, step_at, thread_to, quads, Threads}
use Rattle.division.proofs.Rows.{written_none, written_more}
use Rattle.division.proofs.Folds.{up_to, up_to_on, book_grows, place_grows, length_placed}

-- a row of two words
pub put_written :
    (new : List ℕ) (row a b : ℕ) → 2 * row + 1 < length new → set (set new (2 * row) a) (2 * row + 1) b ≡ written new (2 * row) (a ∷ b ∷ [])
unfolding written
put_written new row a b l = rw (add-one (2 * row)) (sets-eq (a ∷ b ∷ []) new (2 * row) (omega arith))

-- the words of one step more
quads_snoc :
    (v : ℕ → ℕ) (p : ℕ → Parity) (ms : List ℕ) (m : ℕ)
    → quads v p (ms ++ m ∷ [])
    ≡ quads v p ms ++ (v (length ms) ∷ parity_word (p (length ms)) ∷ m ∷ parity_word (p (length ms)) ∷ [])
unfolding quads
quads_snoc v p [] m = refl
quads_snoc v p (x ∷ ms) m =
    ap (λ (r : List ℕ). v 0 ∷ parity_word (p 0) ∷ x ∷ parity_word (p 0) ∷ r) (quads_snoc (λ (j : ℕ). v (suc j)) (λ (j : ℕ). p (suc j)) ms m)

pub length_quads : (v : ℕ → ℕ) (p : ℕ → Parity) (ms : List ℕ) → length (quads v p ms) ≡ 4 * length ms
unfolding quads
length_quads v p [] = refl
length_quads v p (x ∷ ms) = omega (arith, length_quads (λ (j : ℕ). v (suc j)) (λ (j : ℕ). p (suc j)) ms)

module _ (kind : Kind) (base room from rows n : ℕ) (words : List ℕ) (start : Book) where
  -- the midpoints of the first i steps
  abbrev steps_to : ℕ → Made ℕ
  steps_to i = up_to (place kind base) start (step_at words from) i

  -- and their words
  abbrev quads_to : ℕ → List ℕ
  quads_to i = quads (vertex_at words from) (parity_at words from) (steps_to i).made

  -- i of n steps stand on the new bench
  pub record Threading (new book : List ℕ) (i entries : ℕ) (after book₂ : List ℕ) : Type 0 where
    pub within : i ≤ n
    pub fits : 2 * (rows + 2 * n) ≤ length new
    pub ready : Ready base room entries book₂
    pub holds : pairs_of book₂ entries ≡ (steps_to i).book
    pub list : after ≡ written new (2 * rows) (quads_to i)
    pub long : length after ≡ length new
    pub kept : length book₂ ≡ length book

  pub threading_start :
      {made : ℕ} {new book : List ℕ} → start ≡ pairs_of book made → 2 * (rows + 2 * n) ≤ length new → Ready base room made book
      → Threading new book 0 made new book
  unfolding first_of each quads
  threading_start {new = new} e l r =
      record {
        within = omega arith;
        fits = l;
        ready = r;
        holds = sym e;
        list = sym (written_none new (2 * rows) (omega arith));
        long = refl;
        kept = refl;
      }

  module _ {new book : List ℕ} {i entries : ℕ} {after book₂ : List ℕ} (m : Threading new book i entries after book₂) where
    -- the pair that the code asks for
    abbrev asked : Parity → Pair
    asked q = step_ends q (get_or words (2 * (from + i)) 0) (get_or words (2 * (from + i) + 2) 0)

    step_is :
        (q : Parity) → q ≡ parity_at words from i
        → place kind base (pairs_of book₂ entries) (asked q) ≡ place kind base (steps_to i).book (step_at words from i)
    step_is q e =
        let h = m.holds in
        let k : get_or words (2 * (from + i) + 2) 0 ≡ vertex_at words from (suc i) = ap (λ (j : ℕ). get_or words j 0) (omega arith) in
        cc

    pub threading_full :
        (q : Parity) → q ≡ parity_at words from i → i < n
        → room < length (book_or (pairs_of book₂ entries) (asked q) (seek kind base (pairs_of book₂ entries) (asked q)))
        → room < length (thread_to kind base words from start n).book
    unfolding place thread_to mids
    threading_full q e l f =
        let s = ap (λ (x : Made ℕ). length x.book) (step_is q e) in
        let o = ap (λ (x : Made ℕ). length x.book) (up_to_on (place kind base) start (step_at words from) i) in
        let g = book_grows (place kind base) start (step_at words from) (place_grows kind base) (i + 1) n (omega arith) in
        omega arith

    pub threading_on :
        {q : Parity} {w v e : ℕ} {one two book₃ : List ℕ} → q ≡ parity_at words from i → i < n → w ≡ parity_word q
        → Placed kind base room entries (asked q) book₂ book₃ v e → one ≡ written after (2 * (rows + 2 * i)) (vertex_at words from i ∷ w ∷ [])
        → two ≡ written one (2 * (rows + 2 * i + 1)) (v ∷ w ∷ []) → length two ≡ length after → length book₃ ≡ length book₂
        → Threading new book (i + 1) e two book₃
    unfolding place
    threading_on {q} {w} {v} {e} {one} {two} {book₃} same l is p first second long kept =
        let made = (steps_to i).made in
        let ws = quads_to i in
        let u = vertex_at words from i in
        let row = u ∷ w ∷ v ∷ w ∷ [] in
        let s = step_is q same in
        let o = up_to_on (place kind base) start (step_at words from) i in
        let n₂ = length_placed kind base start (step_at words from) i in
        let f : midpoint kind base (steps_to i).book (step_at words from i) ≡ v =
        sym (p.vertex ∙ ap (λ (x : Made ℕ). get_or x.made 0 0) s)
        in
        let word : w ≡ parity_word (parity_at words from i) = is ∙ ap parity_word same in
        let at : 2 * (rows + 2 * i) ≡ 2 * rows + length ws = omega (arith, length_quads (vertex_at words from) (parity_at words from) made) in
        let g : quads_to (i + 1) ≡ ws ++ row =
        ap (λ (x : Made ℕ). quads (vertex_at words from) (parity_at words from) x.made) o
        ∙ quads_snoc (vertex_at words from) (parity_at words from) made (midpoint kind base (steps_to i).book (step_at words from i))
        ∙ ap (λ (j : ℕ). ws ++ (vertex_at words from j ∷ parity_word (parity_at words from j) ∷ midpoint kind base (steps_to i).book (step_at words from i) ∷ parity_word (parity_at words from j) ∷ [])) n₂
        ∙ ap (λ (x : ℕ). ws ++ (u ∷ parity_word (parity_at words from i) ∷ x ∷ parity_word (parity_at words from i) ∷ [])) f
        ∙ ap (λ (x : ℕ). ws ++ (u ∷ x ∷ v ∷ x ∷ [])) (sym word)
        in
        record {
          within = omega arith;
          fits = m.fits;
          ready = p.ready;
          holds = p.book ∙ ap (λ (x : Made ℕ). x.book) s ∙ ap (λ (x : Made ℕ). x.book) (sym o);
          list =
              second
              ∙ ap (λ (x : List ℕ). written x (2 * (rows + 2 * i + 1)) (v ∷ w ∷ [])) first
              ∙ ap (λ (j : ℕ). written (written after (2 * (rows + 2 * i)) (u ∷ w ∷ [])) j (v ∷ w ∷ [])) (omega arith)
              ∙ written_more after (2 * (rows + 2 * i)) (u ∷ w ∷ []) (v ∷ w ∷ []) (omega (arith, m.long, m.fits))
              ∙ ap (λ (x : List ℕ). written x (2 * (rows + 2 * i)) row) m.list
              ∙ ap (λ (j : ℕ). written (written new (2 * rows) ws) j row) at
              ∙ written_more new (2 * rows) ws row (omega (arith, m.fits))
              ∙ ap (written new (2 * rows)) (sym g);
          long = long ∙ m.long;
          kept = kept ∙ m.kept;
        }

    pub threading_done : n ≤ i → Threads base room from rows words (thread_to kind base words from start n) new after book₂ entries
    unfolding thread_to mids
    threading_done l =
        let e : i ≡ n = omega (arith, m.within) in
        record {
          ready = m.ready;
          entries = m.holds ∙ ap (λ (j : ℕ). (steps_to j).book) e;
          list = m.list ∙ ap (λ (j : ℕ). written new (2 * rows) (quads_to j)) e;
        }
