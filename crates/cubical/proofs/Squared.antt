-- One square in memory: nothing, the midpoint of its diagonal alone, or its pieces.
-- Assumes nothing.
use mathlib.Core.Path.{◌≡◌, sym, ◌∙◌, ap, subst}
use mathlib.Core.Bool.{Bool, true, false, cond, ◌&&◌, ◌||◌}
use mathlib.Core.Logic.{inl}
use mathlib.Core.List.{List, [], ◌∷◌}
use Prim.Native.Nat.{ℕ, suc, ◌+◌, ◌*◌, ◌<◌, ◌≤◌}
use native.Mathlib.Omega.{arith}
use native.Mathlib.Nat.{add-zero}
use lib.Dec.{eqb}
use lib.ListN.{length, get_or, take, drop}
use borrow.Author.Tests.{eq-eqb, ne_eqb}
use Rattle.geom.specs.Book.{cubes, pair, Book, Made, seek, book_or, each, place, mids}
use Rattle.geom.specs.Elements.{Element, point_at, shut, flat}
use Rattle.geom.specs.Rules.{divide}
use Rattle.geom.specs.Cubes.{SQUARE_AXES, SQUARE, diagonal, no_square, square}
use Rattle.geom.specs.Memory.{first_of, element_row, element_of}
use Rattle.geom.proofs.Lists.{and_true}
use Rattle.book.specs.Cells.{pairs_of}
use Rattle.book.specs.Answers.{Ready, Placed}
use Rattle.division.specs.Writing.{Laid, Extends, Exceeds}
use Rattle.division.proofs.Rows.{first_of_part}
use Rattle.division.proofs.Flats.{or_false}
use Rattle.division.proofs.Assembling.{laid_none}

-- the test of flatness as the code makes it
pub flat_is : (a b c d : ℕ) → ((eqb a c && eqb b d) || (eqb a b && eqb c d)) ≡ flat SQUARE_AXES (a ∷ b ∷ c ∷ d ∷ [])
unfolding flat shut
flat_is a b c d = go (eqb a c) (eqb b d) (eqb a b) (eqb c d)
  where
    go : (x y z w : Bool) → ((x && y) || (z && w)) ≡ ((x && (y && true)) || ((z && (w && true)) || false))
    go x y z w = let e = and_true y in let f = and_true w in let g = or_false (z && w) in cc

module _ (base row made : ℕ) (old words : List ℕ) (lies : 5 * suc row ≤ length old) where
  abbrev a : ℕ
  a = get_or old (5 * row) 0

  abbrev b : ℕ
  b = get_or old (5 * row + 1) 0

  abbrev c : ℕ
  c = get_or old (5 * row + 2) 0

  abbrev d : ℕ
  d = get_or old (5 * row + 3) 0

  abbrev book : Book
  book = pairs_of words made

  -- the square of the row
  abbrev squared : Made Element
  squared = square base book (element_of (element_row 4 old row))

  -- whether it is flat
  abbrev is_flat : Bool
  is_flat = flat SQUARE_AXES (a ∷ b ∷ c ∷ d ∷ [])

  -- what is made of it where a = d, where it is flat, and else
  abbrev nothing : Made Element
  nothing = record { made = []; book = book }

  abbrev centred : Made Element
  centred = no_square (mids cubes base book (pair a d ∷ []))

  abbrev divided : Made Element
  divided = divide cubes SQUARE base book (element_of (element_row 4 old row))

  corners_are : take 4 (drop (5 * row) old) ≡ a ∷ b ∷ c ∷ d ∷ []
  unfolding first_of
  corners_are =
      sym (first_of_part 0 old (5 * row) 4 (omega arith)) ∙ ap (λ (j : ℕ). get_or old j 0 ∷ b ∷ c ∷ d ∷ []) (add-zero (5 * row))

  square_is : squared ≡ cond (eqb a d) nothing (cond is_flat centred divided)
  unfolding square element_of element_row
  square_is =
      ap
      (λ (cs : List ℕ).
      cond (eqb (point_at cs 0) (point_at cs 3)) nothing
      (cond (flat SQUARE_AXES cs) (no_square (mids cubes base book (diagonal cs ∷ []))) divided))
      corners_are

  -- no piece
  none_extends :
      {s : Made Element} {room cells rows e : ℕ} {new after : List ℕ} → s.made ≡ [] → Ready base room e after → pairs_of after e ≡ s.book
      → rows ≤ cells → 5 * cells ≤ length new → Extends 4 base room cells rows s new new after rows e
  none_extends {cells = cells} {rows = rows} {new = new} none ready holds within lent =
      let x = subst (λ (es : List Element). Laid 4 cells rows es new new rows) (sym none) (laid_none within lent) in
      record { ready = ready; entries = holds; counted = x.counted; within = x.within; ends = x.ends; list = x.list }

  -- a = d
  pub square_shut :
      {room cells rows : ℕ} {new : List ℕ} → a ≡ d → Ready base room made words → rows ≤ cells → 5 * cells ≤ length new
      → Extends 4 base room cells rows squared new new words rows made
  square_shut same ready within lent =
      let e : squared ≡ nothing = square_is ∙ ap (λ (t : Bool). cond t nothing (cond is_flat centred divided)) (eq-eqb a d same) in
      none_extends (ap (λ (m : Made Element). m.made) e) ready (ap (λ (m : Made Element). m.book) (sym e)) within lent

  module _ (apart : a ≡ d → ⊥) where
    apart_is : {t : Bool} → is_flat ≡ t → squared ≡ cond t centred divided
    apart_is f =
        square_is
        ∙ ap (λ (s : Bool). cond s nothing (cond is_flat centred divided)) (ne_eqb a d apart)
        ∙ ap (λ (s : Bool). cond s centred divided) f

    -- flat: the midpoint of [a,d] is made
    pub square_flat :
        {room cells rows v e : ℕ} {new after : List ℕ} → is_flat ≡ true → Placed cubes base room made (pair a d) words after v e → rows ≤ cells
        → 5 * cells ≤ length new → Extends 4 base room cells rows squared new new after rows e
    unfolding mids each place
    square_flat f p within lent =
        let s = apart_is f in
        none_extends (ap (λ (m : Made Element). m.made) s) p.ready (p.book ∙ ap (λ (m : Made Element). m.book) (sym s)) within lent

    -- or there is no room for it
    pub square_crowded :
        (room cells rows : ℕ) → is_flat ≡ true → room < length (book_or book (pair a d) (seek cubes base book (pair a d)))
        → Exceeds room cells rows squared
    unfolding mids each place
    square_crowded room cells rows f l = inl (omega (arith, ap (λ (m : Made Element). length m.book) (apart_is f)))

    pub square_divided : is_flat ≡ false → squared ≡ divided
    square_divided f = apart_is f
