-- Texts added one after the other to a text that grows in a lent buffer: what stands there, that the next has room, and a loop that adds one text a turn.
-- Assumes nothing.
use mathlib.Core.Path.{◌≡◌, refl, sym, ◌∙◌, ap}
use mathlib.Core.Logic.{⊎_elim}
use mathlib.Core.List.{List, [], ◌∷◌, ◌++◌, append_assoc, append-nil}
use Prim.Native.Nat.{ℕ, zero, suc, ◌+◌, ◌-◌, ◌<◌, ◌≤◌}
use native.Mathlib.Omega.{arith}
use native.Mathlib.Nat.{eq-or-lt_of_le}
use native.Mathlib.Numerals.{add-one}
use borrow.Rule.Slice.PartMut.{put_mid}
use lib.ListN.{length, set, take, drop, length-append}
use lib.Seq.{drop-drop}
use Rattle.geom.specs.Memory.{first_of}
use Rattle.geom.proofs.Rows.{length_first_of}
use Rattle.division.specs.Writing.{written}
use Rattle.division.proofs.Rows.{written_none, written_set, written_more, length_written, Copying, copying_done}
use Rattle.listing.specs.declared.lines.Text.{Text}
use Rattle.listing.specs.Text.{Put, Adds, HasRoom, together}

-- ---- one text after another

module _ {at r : ℕ} {text old new : List ℕ} (p : Put at text old new r) (fits : at + length text ≤ length old) where
  -- the buffer keeps its length
  put_long : length new ≡ length old
  put_long = ap length p.bytes ∙ length_written old at text fits

  -- the next text has room, and stands behind the first
  put_room : (more : List ℕ) → at + length (text ++ more) ≤ length old → r + length more ≤ length new
  put_room more l = omega (arith, p.next, put_long, length-append text more)

  put_more :
      {more after : List ℕ} {s : ℕ} → at + length (text ++ more) ≤ length old → Put r more new after s → Put at (text ++ more) old after s
  put_more {more} {after} {s} l q =
      record {
        next = omega (arith, p.next, q.next, length-append text more);
        bytes =
            q.bytes
            ∙ ap (λ (w : List ℕ). written w r more) p.bytes
            ∙ ap (λ (k : ℕ). written (written old at text) k more) p.next
            ∙ written_more old at text more (omega (arith, length-append text more));
      }

-- one byte
pub put_byte : (old : List ℕ) (at b : ℕ) → at + 1 ≤ length old → Put at (b ∷ []) old (set old at b) (at + 1)
put_byte old at b l =
    let e : at + length {A = ℕ} [] ≡ at = omega arith in
    record {
      next = refl;
      bytes =
          sym (ap (λ (w : List ℕ). set w at b) (written_none old at (omega arith)))
          ∙ ap (λ (k : ℕ). set (written old at []) k b) (sym e)
          ∙ written_set old at [] b (omega arith);
    }

-- bytes that were copied at once
pub put_copied : (old text : List ℕ) (at : ℕ) {copy : List ℕ} → copy ≡ text → Put at text old (put_mid at ((at + length text) - at) old copy) (at + length text)
unfolding written
put_copied old text at {copy} e =
    let n : (at + length text) - at ≡ length text = omega arith in
    let behind : drop ((at + length text) - at) (drop at old) ≡ drop (at + length text) old =
    ap (λ (k : ℕ). drop k (drop at old)) n ∙ drop-drop (length text) at old in
    let all : put_mid at ((at + length text) - at) old copy ≡ take at old ++ (text ++ drop (at + length text) old) =
    λ i. take at old ++ (e i ++ behind i) in
    record { next = refl; bytes = all ∙ sym (append_assoc (take at old) text (drop (at + length text) old)) }

-- bytes that a loop wrote one by one
pub put_looped :
    {old words : List ℕ} {at n i : ℕ} {f : ℕ → ℕ} (text : List ℕ) (r : ℕ) → Copying old at f n i words → n ≤ i → first_of f n ≡ text → r ≡ at + n
    → Put at text old words r
put_looped {n = n} {f = f} text r c l e p =
    record { next = omega (arith, length_first_of f n, ap length e); bytes = copying_done text c l e }

-- ---- what a text that grows gains

pub adds_none : (old : Text) → old.at ≤ length old.out.now → Adds [] old old
adds_none old l = record { same = refl; put = record { next = omega arith; bytes = sym (written_none old.out.now old.at l) } }

pub adds_more :
    {text more : List ℕ} {old now after : Text} → Adds text old now → HasRoom text old → HasRoom (text ++ more) old → Adds more now after
    → Adds (text ++ more) old after
adds_more p fits l q = record { same = q.same ∙ p.same; put = put_more p.put fits l q.put }

-- ---- a straight line of texts

unfoldable pub joined : List (List ℕ) → List ℕ
joined [] = []
joined (text ∷ texts) = text ++ joined texts

-- a part of the whole text was added, and these texts are still to come
pub record Going (whole : List ℕ) (old now : Text) (rest : List (List ℕ)) : Type 0 where
  pub fits : HasRoom whole old
  pub made : List ℕ
  pub is : whole ≡ made ++ joined rest
  pub adds : Adds made old now

pub going_start : (old : Text) {whole : List ℕ} {texts : List (List ℕ)} → whole ≡ joined texts → HasRoom whole old → Going whole old old texts
going_start old e l =
    record {
      fits = l;
      made = [];
      is = e;
      adds = adds_none old (omega arith);
    }

module _ {whole : List ℕ} {old now : Text} where
  so_far : {rest : List (List ℕ)} (g : Going whole old now rest) → HasRoom g.made old
  so_far {rest} g = omega (arith, g.fits, ap length g.is, length-append g.made (joined rest))

  module _ {text : List ℕ} {rest : List (List ℕ)} (g : Going whole old now (text ∷ rest)) where
    is_next : whole ≡ (g.made ++ text) ++ joined rest
    unfolding joined
    is_next = g.is ∙ sym (append_assoc g.made text (joined rest))

    room_next : HasRoom (g.made ++ text) old
    room_next = omega (arith, g.fits, ap length is_next, length-append (g.made ++ text) (joined rest))

    pub going_room : HasRoom text now
    going_room = put_room g.adds.put (so_far g) text room_next

    pub going_on : {after : Text} → Adds text now after → Going whole old after rest
    going_on {after} p =
        record { fits = g.fits; made = g.made ++ text; is = is_next; adds = adds_more g.adds (so_far g) room_next p }

  pub going_done : Going whole old now [] → Adds whole old now
  unfolding joined
  going_done g =
      let e : g.made ≡ whole = sym (g.is ∙ append-nil g.made) in
      rw e at g.adds

-- from the start of a buffer, with the first text added
pub going_begun :
    {whole text : List ℕ} {texts : List (List ℕ)} {old now : Text} → Adds text old now → whole ≡ joined (text ∷ texts) → old.at ≡ 0
    → length whole ≤ length old.out.now → Going whole old now texts
going_begun {old = old} a e z l = going_on (going_start old e (omega arith)) a

-- ---- a loop that adds one text a turn

-- the first i of n texts were added
pub record Lining (text : ℕ → List ℕ) (n : ℕ) (old : Text) (i : ℕ) (now : Text) : Type 0 where
  pub fits : HasRoom (together text n) old
  pub adds : Adds (together text i) old now

module _ (text : ℕ → List ℕ) where
  together_grows : (i n : ℕ) → i ≤ n → length (together text i) ≤ length (together text n)
  unfolding together
  together_grows i zero l = let e : i ≡ 0 = omega arith in let f = ap (λ (k : ℕ). length (together text k)) e in omega arith
  together_grows i (suc n) l =
      let ih = together_grows i n in
      let s = length-append (together text n) (text n) in
      ⊎_elim
      (λ (e : i ≡ suc n). let f = ap (λ (k : ℕ). length (together text k)) e in omega arith)
      (λ (k : i < suc n). let g = ih (omega arith) in omega arith)
      (eq-or-lt_of_le l)

  together_on : (i : ℕ) → together text (i + 1) ≡ together text i ++ text i
  unfolding together
  together_on i = rw (add-one i) refl

  pub lining_start : (n : ℕ) (old : Text) → HasRoom (together text n) old → Lining text n old 0 old
  unfolding together
  lining_start n old l = record { fits = l; adds = adds_none old (omega arith) }

  module _ {n i : ℕ} {old now : Text} (m : Lining text n old i now) where
    module _ (l : i < n) where
      room : HasRoom (together text i) old
      room = omega (arith, m.fits, together_grows i n (omega arith))

      next_room : HasRoom (together text i ++ text i) old
      next_room = omega (arith, m.fits, ap length (together_on i), together_grows (i + 1) n (omega arith))

      -- the next text, by another name
      module _ {next : List ℕ} (e : text i ≡ next) where
        pub lining_room : HasRoom next now
        lining_room = omega (arith, put_room m.adds.put room (text i) next_room, ap length e)

        pub lining_on : {after : Text} → Adds next now after → Lining text n old (i + 1) after
        lining_on {after} q =
            record {
              fits = m.fits;
              adds = rw (together_on i) (adds_more m.adds room next_room (rw e q));
            }

    pub lining_done : i ≡ n → Adds (together text n) old now
    lining_done e = rw e at m.adds
