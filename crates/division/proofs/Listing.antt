-- A list of elements written row by row, whatever the rule: what stands after i entries, and that what does not fit then never fits.
-- Assumes nothing.
use mathlib.Core.Path.{◌≡◌, refl, sym, ◌∙◌, ap, subst}
use mathlib.Core.Logic.{◌⊎◌, inl, inr, ⊎_elim}
use mathlib.Core.List.{List, [], ◌++◌, map, flat_map, append-nil}
use Prim.Native.Nat.{ℕ, suc, ◌+◌, ◌*◌, ◌<◌, ◌≤◌}
use native.Mathlib.Omega.{arith}
use native.Mathlib.Nat.{mul-zero, mul-le-mul_left, add-zero, zero-add}
use lib.ListN.{length, length-append}
use Rattle.geom.specs.Book.{Book, Made, each}
use Rattle.geom.specs.Elements.{Element}
use Rattle.geom.specs.Memory.{ElementRow, first_of, element_row, element_of, element_words}
use Rattle.book.specs.Cells.{pairs_of}
use Rattle.book.specs.Answers.{Ready}
use Rattle.std.specs.Prelude.{Result, Ok, Err}
use Rattle.book.specs.declared.Full.{Full}
use Rattle.book.specs.declared.Book.{Book as Held}
use Rattle.division.specs.Writing.{written, Begun, Extends, Exceeds, Extended, Listed, Passed}
use Rattle.geom.proofs.Rows.{map_first_of}
use Rattle.division.proofs.Rows.{written_none, written_more, written_over}
use Rattle.division.proofs.Folds.{up_to, up_to_on, made_grows, book_grows}
use Rattle.division.proofs.Dividing.{words_append}

-- ---- rows of any list, behind the rows that stand

module _ (k base room cells front : ℕ) (rule : Book → Element → Made Element) (start : Book) (row : ℕ → ElementRow) where
  -- entry i of the list
  abbrev at : ℕ → Element
  at i = element_of (row i)

  -- what the rule makes of the first i entries
  abbrev to : ℕ → Made Element
  to i = up_to rule start at i

  -- what it makes of the first n
  abbrev all : ℕ → Made Element
  all n = each rule start (map element_of (first_of row n))

  to_all : (n : ℕ) → all n ≡ to n
  to_all n = ap (each rule start) (map_first_of element_of row n)

  -- the first i of n entries stand on the new bench, behind the front rows
  pub record Ranging (n : ℕ) (new book : List ℕ) (i rows entries : ℕ) (words cells₂ : List ℕ) : Type 0 where
    pub within : i ≤ n
    pub begun : Begun k base room cells rows entries words cells₂
    pub holds : pairs_of cells₂ entries ≡ (to i).book
    pub counted : rows ≡ front + length (to i).made
    pub wide : suc k * rows ≡ suc k * front + length (element_words (to i).made)
    pub list : words ≡ written new (suc k * front) (element_words (to i).made)
    pub long : length words ≡ length new
    pub kept : length cells₂ ≡ length book

  pub ranging_start :
      (n : ℕ) {made : ℕ} {new book : List ℕ} → start ≡ pairs_of book made → Begun k base room cells front made new book
      → Ranging n new book 0 front made new book
  unfolding first_of each element_words flat_map
  ranging_start n {made} {new} e b =
      record {
        within = omega arith;
        begun = b;
        holds = sym e;
        counted = sym (add-zero front);
        wide = sym (add-zero (suc k * front));
        list = sym (written_none new (suc k * front) (omega (arith, mul-le-mul_left (suc k) b.within, b.lent)));
        long = refl;
        kept = refl;
      }

  module _ {n : ℕ} {new book : List ℕ} {i rows entries : ℕ} {words cells₂ : List ℕ} (m : Ranging n new book i rows entries words cells₂) where
    -- the rule of the next entry
    step_is : rule (pairs_of cells₂ entries) (at i) ≡ rule (to i).book (at i)
    step_is = ap (λ (b : Book). rule b (at i)) m.holds

    pub ranging_on :
        {after cells₃ : List ℕ} {r e : ℕ} → i < n → length after ≡ length words → length cells₃ ≡ length cells₂
        → Extends k base room cells rows (rule (pairs_of cells₂ entries) (at i)) words after cells₃ r e
        → Ranging n new book (i + 1) r e after cells₃
    ranging_on {after} {cells₃} {r} {e} l long kept x =
        let x' = subst (λ (s : Made Element). Extends k base room cells rows s words after cells₃ r e) step_is x in
        let o = up_to_on rule start at i in
        let ws = element_words (to i).made in
        let step = rule (to i).book (at i) in
        let more = element_words step.made in
        let g : element_words (to (i + 1)).made ≡ ws ++ more =
        ap (λ (s : Made Element). element_words s.made) o ∙ words_append (to i).made step.made
        in
        let top = mul-le-mul_left (suc k) x'.within in
        record {
          within = omega arith;
          begun = record { ready = x'.ready; within = x'.within; lent = omega (arith, m.begun.lent) };
          holds = x'.entries ∙ ap (λ (s : Made Element). s.book) (sym o);
          counted =
              x'.counted
              ∙ omega (arith, m.counted, length-append (to i).made step.made, ap (λ (s : Made Element). length s.made) o);
          wide = x'.ends ∙ omega (arith, m.wide, length-append ws more, ap length g);
          list =
              x'.list
              ∙ ap (λ (w : List ℕ). written w (suc k * rows) more) m.list
              ∙ ap (λ (j : ℕ). written (written new (suc k * front) ws) j more) m.wide
              ∙ written_more new (suc k * front) ws more (omega (arith, x'.ends, m.wide, m.begun.lent, m.long))
              ∙ ap (written new (suc k * front)) (sym g);
          long = long ∙ m.long;
          kept = kept ∙ m.kept;
        }

    -- what does not fit here makes all of it not fit
    pub ranging_full :
        ((b : Book) (x : Element) → length b ≤ length (rule b x).book) → i < n → Exceeds room cells rows (rule (pairs_of cells₂ entries) (at i))
        → Exceeds room cells front (all n)
    ranging_full grows l x =
        let o = up_to_on rule start at i in
        let step = rule (to i).book (at i) in
        let a = to_all n in
        ⊎_elim
        (λ h.
        inl
        (omega (
          arith,
          ap (λ (s : Made Element). length s.book) step_is,
          ap (λ (s : Made Element). length s.book) o,
          ap (λ (s : Made Element). length s.book) a,
          book_grows rule start at grows (i + 1) n (omega arith),
        )))
        (λ h.
        inr
        (omega (
          arith,
          m.counted,
          length-append (to i).made step.made,
          ap (λ (s : Made Element). length s.made) step_is,
          ap (λ (s : Made Element). length s.made) o,
          ap (λ (s : Made Element). length s.made) a,
          made_grows rule start at length length-append (i + 1) n (omega arith),
        )))
        x

    pub ranging_done : n ≤ i → Extends k base room cells front (all n) new words cells₂ rows entries
    ranging_done l =
        let e : i ≡ n = omega (arith, m.within) in
        let a : to i ≡ all n = ap to e ∙ sym (to_all n) in
        record {
          ready = m.begun.ready;
          entries = m.holds ∙ ap (λ (s : Made Element). s.book) a;
          counted = m.counted ∙ ap (λ (s : Made Element). front + length s.made) a;
          within = m.begun.within;
          ends = m.wide ∙ ap (λ (s : Made Element). suc k * front + length (element_words s.made)) a;
          list = m.list ∙ ap (λ (s : Made Element). written new (suc k * front) (element_words s.made)) a;
        }

-- ---- a whole list

-- behind no rows, it stands from the slice's start on
start_lists :
    {k base room cells : ℕ} {m : Made Element} {new after book : List ℕ} {r e : ℕ} → Extends k base room cells 0 m new after book r e
    → Listed base room cells m new after book r e
start_lists {k} {m = m} {new = new} x =
    record {
      ready = x.ready;
      entries = x.entries;
      counted = x.counted ∙ zero-add (length m.made);
      within = x.within;
      list =
          x.list
          ∙ ap (λ (at : ℕ). written new at (element_words m.made)) (mul-zero (suc k))
          ∙ written_over new (element_words m.made);
    }

start_exceeds : {room cells : ℕ} (m : Made Element) → Exceeds room cells 0 m → (room < length m.book) ⊎ (cells < length m.made)
start_exceeds m x = ⊎_elim (λ h. inl h) (λ h. inr (omega (arith, zero-add (length m.made)))) x

from_start :
    (k cells : ℕ) (m : Made Element) (new after : List ℕ) (b book : Held) (r : Result ℕ Full) → Extended k cells 0 m new after b book r
    → Passed cells m new after b book r
from_start k cells m new after b book (Ok rows) x = start_lists x
from_start k cells m new after b book (Err e) x = start_exceeds m x

-- the rows from the first on are all rows
pub from_first :
    (k cells : ℕ) (rule : Book → Element → Made Element) (start : Book) (old : List ℕ) (n : ℕ) (new after : List ℕ) (b book : Held) (r : Result ℕ Full)
    → Extended k cells 0 (each rule start (map element_of (first_of (λ (i : ℕ). element_row k old (0 + i)) n))) new after b book r
    → Passed cells (each rule start (map element_of (first_of (element_row k old) n))) new after b book r
from_first k cells rule start old n new after b book r x =
    from_start k cells (each rule start (map element_of (first_of (element_row k old) n))) new after b book r
    (subst (λ (f : ℕ → ElementRow). Extended k cells 0 (each rule start (map element_of (first_of f n))) new after b book r)
    (λ j i. element_row k old (zero-add i j)) x)

-- one row alone
pub one_row :
    (k : ℕ) (rule : Book → Element → Made Element) (start : Book) (old : List ℕ) (row : ℕ)
    → each rule start (map element_of (first_of (λ (i : ℕ). element_row k old (row + i)) 1)) ≡ rule start (element_of (element_row k old row))
unfolding first_of each
one_row k rule start old row =
    (λ j. let m = rule start (element_of (element_row k old (row + 0))) in record { made = append-nil m.made j; book = m.book })
    ∙ ap (λ (i : ℕ). rule start (element_of (element_row k old i))) (add-zero row)

module _ (k base room cells : ℕ) (rule : Book → Element → Made Element) (start : Book) (old : List ℕ) where
  -- the first i of n elements stand on the new bench
  abbrev pub Listing : ℕ → List ℕ → List ℕ → ℕ → ℕ → ℕ → List ℕ → List ℕ → Type 0
  Listing = Ranging k base room cells 0 rule start (element_row k old)

  pub listing_start :
      (n : ℕ) {made : ℕ} {new book : List ℕ} → start ≡ pairs_of book made → Begun k base room cells 0 made new book
      → Listing n new book 0 0 made new book
  listing_start = ranging_start k base room cells 0 rule start (element_row k old)

  module _ {n : ℕ} {new book : List ℕ} {i rows entries : ℕ} {words cells₂ : List ℕ} (m : Listing n new book i rows entries words cells₂) where
    pub listing_on :
        {after cells₃ : List ℕ} {r e : ℕ} → i < n → length after ≡ length words → length cells₃ ≡ length cells₂
        → Extends k base room cells rows (rule (pairs_of cells₂ entries) (element_of (element_row k old i))) words after cells₃ r e
        → Listing n new book (i + 1) r e after cells₃
    listing_on = ranging_on k base room cells 0 rule start (element_row k old) m

    pub listing_full :
        ((b : Book) (x : Element) → length b ≤ length (rule b x).book) → i < n
        → Exceeds room cells rows (rule (pairs_of cells₂ entries) (element_of (element_row k old i)))
        → (room < length (each rule start (map element_of (first_of (element_row k old) n))).book)
        ⊎ (cells < length (each rule start (map element_of (first_of (element_row k old) n))).made)
    listing_full grows l x =
        start_exceeds (each rule start (map element_of (first_of (element_row k old) n)))
        (ranging_full k base room cells 0 rule start (element_row k old) m grows l x)

    pub listing_done :
        n ≤ i → Listed base room cells (each rule start (map element_of (first_of (element_row k old) n))) new words cells₂ rows entries
    listing_done l =
        start_lists
        (ranging_done k base room cells 0 rule start (element_row k old) m l)

-- a list without entries makes nothing
pub listed_none :
    (base room cells : ℕ) (rule : Book → Element → Made Element) (row : ℕ → ElementRow) {n made : ℕ} {new book : List ℕ} → n ≡ 0
    → Ready base room made book → Listed base room cells (each rule (pairs_of book made) (map element_of (first_of row n))) new new book 0 made
unfolding first_of each element_words flat_map
listed_none base room cells rule row {n} {made} {new} {book} e ready =
    subst (λ (n : ℕ). Listed base room cells (each rule (pairs_of book made) (map element_of (first_of row n))) new new book 0 made) (sym e) none
  where
    none : Listed base room cells (each rule (pairs_of book made) (map element_of (first_of row 0))) new new book 0 made
    none =
        record {
          ready = ready;
          entries = refl;
          counted = refl;
          within = omega arith;
          list = sym (written_none new 0 (omega arith)) ∙ written_over new [];
        }
