-- The input's first bytes, judged as the definition does; and a full buffer is enough to know that an input is too long. Assumes nothing.
use mathlib.Core.Path.{◌≡◌, refl, sym, ◌∙◌, ap}
use mathlib.Core.Bool.{Bool, true, false}
use mathlib.Core.List.{List, [], ◌∷◌}
use Prim.Native.Nat.{ℕ, ◌-◌, ◌≤◌, ◌<◌}
use native.Mathlib.Omega.{arith}
use lib.Dec.{leb}
use lib.ListN.{length, get_or, take, drop, length-append, length-drop, length-take}
use lib.Seq.{take_all, length-take-le}
use borrow.Author.Tests.{le-leb, lt-leb, leb-true, leb-false}
use Rattle.geom.specs.Book.{Kind}
use Rattle.geom.specs.File.{figure}
use Rattle.geom.specs.Listing.{refusal}
use Rattle.geom.specs.Memory.{over}
use Rattle.geom.specs.Refusals.{good_parity}
use Rattle.geom.specs.Sheet.{SHEET_CELLS, refined_by, sheet, sheet_fields}
use Rattle.listing.specs.Printed.{Printed}
use Rattle.printing.proofs.Texts.{printed_as}
use Rattle.page.specs.Page.{Filled, Written, Answered}

-- ---- a text in the buffer

pub printed_fits : {text old new : List ℕ} {r : ℕ} → length new ≡ length old → Printed text old new r → Written text old new r
unfolding over
printed_fits {text} {old} {new} {r} k p =
    let l : r ≤ length new = omega (arith, k, p.length, ap length p.bytes, length-append text (drop (length text) old), length-drop (length text) old) in
    record { printed = p; fits = l; there = sym (length-take-le r new l) }

-- ---- the first bytes of the input

pub too_long : (input : List ℕ) → 65536 < length input → refusal 10 0 ≡ sheet input
unfolding sheet
too_long input l = sym (rw (lt-leb (length input) 65536 l) refl)

fields : (input : List ℕ) → length input ≤ 65536 → sheet_fields input ≡ sheet input
unfolding sheet
fields input l = sym (rw (le-leb (length input) 65536 l) refl)

pub too_short : (input : List ℕ) → length input ≤ 65536 → length input < 2 → refusal 3 0 ≡ sheet input
unfolding sheet_fields
too_short [] l k = fields [] l
too_short (a ∷ []) l k = fields (a ∷ []) l
too_short (a ∷ b ∷ input) l k = absurd (omega arith)

pub bad_time : (input : List ℕ) → length input ≤ 65536 → 2 ≤ length input → 1 < get_or input 1 0 → refusal 5 0 ≡ sheet input
unfolding sheet_fields good_parity
bad_time [] l k t = absurd (omega arith)
bad_time (a ∷ []) l k t = absurd (omega arith)
bad_time (a ∷ b ∷ input) l k t = sym (rw (lt-leb b 1 t) refl) ∙ fields (a ∷ b ∷ input) l

pub good_time : (input : List ℕ) → get_or input 1 0 ≤ 1 → good_parity (get_or input 1 0) ≡ true
unfolding good_parity
good_time input t = le-leb (get_or input 1 0) 1 t

fields_text :
    (input : List ℕ) → length input ≤ 65536 → 2 ≤ length input → get_or input 1 0 ≤ 1
    → refined_by (get_or input 0 0) (get_or input 1 0) (figure (λ (kind : Kind). SHEET_CELLS) (drop 2 input)) ≡ sheet input
unfolding sheet_fields good_parity
fields_text [] l k t = absurd (omega arith)
fields_text (a ∷ []) l k t = absurd (omega arith)
fields_text (a ∷ b ∷ input) l k t = sym (rw (le-leb b 1 t) refl) ∙ fields (a ∷ b ∷ input) l

-- the file is the input from its third byte on
pub file_text :
    (input : List ℕ) → length input ≤ 65536 → 2 ≤ length input → get_or input 1 0 ≤ 1
    → refined_by (get_or input 0 0) (get_or input 1 0) (figure (λ (kind : Kind). SHEET_CELLS) (take (length input - 2) (drop 2 input))) ≡ sheet input
file_text input l k t =
    ap (λ (file : List ℕ). refined_by (get_or input 0 0) (get_or input 1 0) (figure (λ (kind : Kind). SHEET_CELLS) file))
    (take_all (length input - 2) (drop 2 input) (omega (arith, length-drop 2 input)))
    ∙ fields_text input l k t

-- ---- what was read of an input

-- what follows a buffer that is longer than an input may be changes nothing
filled_text : (buffer : List ℕ) (n : ℕ) (input : List ℕ) → 65536 < length buffer → Filled buffer n input → sheet (take n buffer) ≡ sheet input
filled_text buffer n input b f = go (leb (length input) 65536) refl
  where
    go : (t : Bool) → leb (length input) 65536 ≡ t → sheet (take n buffer) ≡ sheet input
    go true t = ap sheet (f ∙ take_all (length buffer) input (omega (arith, leb-true (length input) 65536 t)))
    go false t =
        let l : 65536 < length input = leb-false (length input) 65536 t in
        let k : 65536 < length (take n buffer) = omega (arith, ap length f, length-take (length buffer) input) in
        sym (too_long (take n buffer) k) ∙ too_long input l

pub answered :
    (buffer : List ℕ) (n : ℕ) {old new : List ℕ} {r : ℕ} → 65536 < length buffer → Written (sheet (take n buffer)) old new r → Answered buffer n old new r
answered buffer n b w = record { printed = λ input f. printed_as (filled_text buffer n input b f) w.printed; fits = w.fits; there = w.there }
