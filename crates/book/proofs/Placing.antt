-- Asking for a midpoint: what the index's answer and a new entry make of the cells is what the definition's rule makes of the book.
-- Assumes nothing.
use mathlib.Core.Path.{◌≡◌, refl, sym, ◌∙◌, ap, subst}
use mathlib.Core.Bool.{Bool, true, false, cond}
use mathlib.Core.List.{List, [], ◌∷◌, ◌++◌, map, map-append}
use Prim.Native.Nat.{ℕ, zero, suc, ◌+◌, ◌<◌, ◌≤◌}
use native.Mathlib.Omega.{arith}
use native.Mathlib.Numerals.{add-one}
use lib.Dec.{eqb, leb}
use lib.ListN.{length, get_or, length-append}
use borrow.Author.Tests.{leb-false, le-leb, lt-leb, eq-eqb, ne_eqb, eqb-true, eqb-false}
use Rattle.index.specs.Cells.{pairs, words_from, key_at, keys_of}
use Rattle.index.specs.Answers.{Holds, Lacks, Sought, Free, Entered}
use Rattle.std.specs.Prelude.{Result, Ok, Err}
use Rattle.geom.specs.Answers.{whole, fitted}
use Rattle.geom.specs.Book.{Kind, cubes, simplices, Pair, pair, Book, Found, found, none, find, seek, vertex_or, book_or, midpoint}
use Rattle.geom.specs.Memory.{first_of}
use Rattle.geom.proofs.Endings.{stopped_bursts}
use Rattle.geom.proofs.Rows.{length_first_of}
use Rattle.book.specs.declared.Full.{Full}
use Rattle.book.specs.declared.Book.{Book as Held}
use Rattle.book.specs.Cells.{cells, pair_at, pairs_of, key_of}
use Rattle.book.specs.Answers.{Still, Ready, Kept, Placed, Beside, grown, placing, Answered}
use Rattle.book.proofs.Search.{find_nowhere, find_first}

-- the book on the cells has as many entries as are made
pub length_pairs : (words : List ℕ) (made : ℕ) → length (pairs_of words made) ≡ made
unfolding pairs_of
length_pairs words made = length_first_of _ made

-- ── keys and pairs ──

key_pair : (words : List ℕ) (e : ℕ) (q : Pair) → key_at pairs words e ≡ key_of q → pair_at words e ≡ q
unfolding words_from
key_pair words e q same = ap (λ (k : List ℕ). pair (get_or k 0 0) (get_or k 1 0)) same

pair_key : (words : List ℕ) (e : ℕ) (q : Pair) → pair_at words e ≡ q → key_at pairs words e ≡ key_of q
unfolding words_from
pair_key words e q same = ap key_of same

-- the keys of the index are the pairs of the book
pairs_keys : (words : List ℕ) (made : ℕ) → pairs_of words made ≡ map (λ (k : List ℕ). pair (get_or k 0 0) (get_or k 1 0)) (keys_of pairs words made)
unfolding pairs_of first_of keys_of words_from
pairs_keys words zero = refl
pairs_keys words (suc made) =
    ap (λ (b : Book). b ++ pair_at words made ∷ []) (pairs_keys words made)
    ∙ sym (map-append (λ (k : List ℕ). pair (get_or k 0 0) (get_or k 1 0)) (keys_of pairs words made) (key_at pairs words made ∷ []))

pairs_more :
    (words after : List ℕ) (made : ℕ) (q : Pair) → keys_of pairs after (suc made) ≡ keys_of pairs words made ++ key_of q ∷ []
    → pairs_of after (suc made) ≡ pairs_of words made ++ q ∷ []
pairs_more words after made q e =
    pairs_keys after (suc made)
    ∙ ap (map (λ (k : List ℕ). pair (get_or k 0 0) (get_or k 1 0))) e
    ∙ map-append (λ (k : List ℕ). pair (get_or k 0 0) (get_or k 1 0)) (keys_of pairs words made) (key_of q ∷ [])
    ∙ ap (λ (b : Book). b ++ q ∷ []) (sym (pairs_keys words made))

-- ── the search's answer ──

module _ (base room made : ℕ) (words : List ℕ) (q : Pair) (f : Result ℕ ℕ) (r : Ready base room made words) (s : Sought words made (key_of q) f) where
  -- an entry was found
  pub hit : {e : ℕ} → f ≡ Ok e → Holds pairs words made (key_of q) e
  hit is = rw is at s

  -- its vertex is the definition's
  pub hit_found : {e : ℕ} → f ≡ Ok e → found (base + e) ≡ find base (pairs_of words made) q
  unfolding pairs_of
  hit_found {e} is =
      let h = hit is in
      let first : (d : ℕ) → d < e → pair_at words d ≡ q → ⊥ = λ d l same. r.linked.distinct d e l h.below (pair_key words d q same ∙ sym h.is) in
      sym (find_first base (pair_at words) made q e h.below (key_pair words e q h.is) first)

  -- none was found
  missed : {at : ℕ} → f ≡ Err at → Lacks pairs words made (key_of q) at
  missed is = rw is at s

  -- nor does the definition find one
  pub missed_none : {at : ℕ} → f ≡ Err at → none ≡ find base (pairs_of words made) q
  unfolding pairs_of
  missed_none is = sym (find_nowhere base (pair_at words) made q (λ d l same. (missed is).absent d l (pair_key words d q same)))

  -- and with room a new entry can be made
  pub missed_free : {at : ℕ} → f ≡ Err at → made < room → Free pairs words made (key_of q) at
  missed_free is l =
      let h = missed is in
      let lent : made < cells words = omega (arith, r.lent) in
      record {
        lent = lent;
        few = omega (arith, r.numbers);
        absent = h.absent;
        place = h.hangs lent;
      }

-- ── what becomes of the book ──

-- what is found is the midpoint, and the book stays
pub placed_found :
    {base room made v : ℕ} {words : List ℕ} (q : Pair) → Ready base room made words → found v ≡ find base (pairs_of words made) q
    → Placed simplices base room made q words words v made
unfolding midpoint seek
placed_found {base} {room} {made} {v} {words} q r is =
    record {
      ready = r;
      vertex = ap (vertex_or (base + length (pairs_of words made))) is;
      book = ap (book_or (pairs_of words made) q) is;
    }

-- else a vertex is made, the next number
pub placed_new :
    {base room made : ℕ} {words : List ℕ} (after : List ℕ) (q : Pair) → Ready base room made words → none ≡ find base (pairs_of words made) q
    → made < room → Entered pairs words made (key_of q) after → length after ≡ length words
    → Placed simplices base room made q words after (base + made) (made + 1)
unfolding midpoint seek
placed_new {base} {room} {made} {words} after q r is l e long =
    record {
      ready =
          record {
            linked = rw (add-one made) e.linked;
            within = omega arith;
            lent = omega (arith, r.lent);
            numbers = r.numbers;
          };
      vertex = ap (λ (n : ℕ). base + n) (sym (length_pairs words made)) ∙ ap (vertex_or (base + length (pairs_of words made))) is;
      book = rw (add-one made) (pairs_more words after made q e.keys) ∙ ap (book_or (pairs_of words made) q) is;
    }

-- with no room for it, the book after is longer than the room
pub crowded :
    (base room made : ℕ) (words : List ℕ) (q : Pair) → none ≡ find base (pairs_of words made) q → room ≤ made
    → room < length (book_or (pairs_of words made) q (seek simplices base (pairs_of words made) q))
unfolding seek
crowded base room made words q is l =
    subst (λ (f : Found). room < length (book_or (pairs_of words made) q f)) is
    (omega (arith, length-append (pairs_of words made) (q ∷ []), length_pairs words made))

-- ── the answer ──

module _ {kind : Kind} {base room made : ℕ} {q : Pair} {words after : List ℕ} where
  -- a midpoint that is placed is the definition's answer
  pub answers : {v m : ℕ} → Placed kind base room made q words after v m → Answered kind base room made q words after (Ok (record { value = v; made = m }))
  answers {v} {m} p =
      let n : m ≡ length (grown kind base (pairs_of words made) q) = sym (length_pairs after m) ∙ ap length p.book in
      record {
        answer =
            (λ i. whole (record { value = p.vertex i; made = n i }))
            ∙ ap (λ (t : Bool). fitted t (placing kind base (pairs_of words made) q)) (sym (le-leb (length (grown kind base (pairs_of words made) q)) room (omega (arith, n, p.ready.within))));
        placed = p;
      }

  -- a book that outgrows the room is refused by 10
  pub refuses : {e : Full} → room < length (grown kind base (pairs_of words made) q) → Answered kind base room made q words after (Err e)
  refuses l = record { answer = ap (λ (t : Bool). fitted t (placing kind base (pairs_of words made) q)) (sym (lt-leb (length (grown kind base (pairs_of words made) q)) room l)); placed = tt }

  pub outgrows : {e : Full} → Answered kind base room made q words after (Err e) → room < length (grown kind base (pairs_of words made) q)
  outgrows a = leb-false _ _ (stopped_bursts (leb (length (grown kind base (pairs_of words made) q)) room) _ a.answer)

-- ── cubes ──

-- [a,a] gives a itself
pub placed_still :
    {base room made a b : ℕ} {words : List ℕ} → Ready base room made words → a ≡ b
    → Placed cubes base room made (pair a b) words words a made
unfolding midpoint seek
placed_still {base} {room} {made} {a} {b} {words} r is =
    let book = pairs_of words made in
    let t : found a ≡ cond (eqb a b) (found a) (find base book (pair a b)) =
    ap (λ (s : Bool). cond s (found a) (find base book (pair a b))) (sym (eq-eqb a b is))
    in
    record {
      ready = r;
      vertex = ap (vertex_or (base + length book)) t;
      book = ap (book_or book (pair a b)) t;
    }

seek_apart : (base a b : ℕ) (book : Book) → (a ≡ b → ⊥) → seek simplices base book (pair a b) ≡ seek cubes base book (pair a b)
unfolding seek
seek_apart base a b book ne = ap (λ (s : Bool). cond s (found a) (find base book (pair a b))) (sym (ne_eqb a b ne))

-- any other pair is asked for as in simplices
pub answered_apart :
    (base room made a b : ℕ) (words after : List ℕ) (r : Result (Beside ℕ) Full) → (a ≡ b → ⊥)
    → Answered simplices base room made (pair a b) words after r → Answered cubes base room made (pair a b) words after r
unfolding midpoint
answered_apart base room made a b words after (Ok m) ne r =
    let book = pairs_of words made in
    let e = seek_apart base a b book ne in
    let p = r.placed in
    answers
    (record {
      ready = p.ready;
      vertex = p.vertex ∙ ap (vertex_or (base + length book)) e;
      book = p.book ∙ ap (book_or book (pair a b)) e;
    })
answered_apart base room made a b words after (Err e) ne r =
    refuses (subst (λ (f : Found). room < length (book_or (pairs_of words made) (pair a b) f)) (seek_apart base a b (pairs_of words made) ne) (outgrows r))

-- ── by the kind ──

pub answered_still :
    (k : Kind) {base room made a b : ℕ} {words : List ℕ} (r : Bool) → Still k a b r → r ≡ true → Ready base room made words
    → Placed k base room made (pair a b) words words a made
answered_still cubes {a = a} {b = b} r s t w = placed_still w (eqb-true a b (sym s ∙ t))
answered_still simplices r s t w = let z : ◌≡◌ {A = ℕ} 0 1 = cc in absurd (omega arith)

pub answered_by :
    (k : Kind) (base room made a b : ℕ) (words after : List ℕ) (r : Bool) → Still k a b r → r ≡ false
    → (x : Result (Beside ℕ) Full) → Answered simplices base room made (pair a b) words after x → Answered k base room made (pair a b) words after x
answered_by cubes base room made a b words after r s f x p = answered_apart base room made a b words after x (eqb-false a b (sym s ∙ f)) p
answered_by simplices base room made a b words after r s f x p = p

-- ── the book stays the same one ──

pub kept_still : {b : Held} → Kept b b
kept_still = record { same = refl; cells = refl; room = refl; base = refl }

pub kept_on : {b c d : Held} → Kept b c → Kept c d → Kept b d
kept_on k l = record { same = l.same ∙ k.same; cells = l.cells ∙ k.cells; room = l.room ∙ k.room; base = l.base ∙ k.base }
