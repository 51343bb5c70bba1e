-- What fits: the test and the facts behind it.
-- Assumes nothing.
use mathlib.Core.Path.{◌≡◌, refl}
use mathlib.Core.Bool.{Bool, true, false, ◌&&◌}
use Prim.Native.Nat.{◌≤◌}
use lib.Dec.{leb}
use borrow.Author.Tests.{leb-true, le-leb}
use lib.ListN.{length}
use Rattle.geom.specs.Form.{Form}
use Rattle.geom.specs.Mesh.{sizes_of}
use Rattle.geom.specs.Refinement.{StateIn, Lent, LIMIT, LIMITS, within, fits}
use Rattle.geom.proofs.Lists.{and_true_left, and_true_right}
use Rattle.geom.proofs.Within.{Within, within_facts, within_holds}

pub false_unless : (b : Bool) → (b ≡ true → ⊥) → b ≡ false
false_unless true h = absurd (h refl)
false_unless false h = refl

-- no list, nor the book, exceeds its lent length or the limit
pub record Fit {F : Form} (lent : Lent) (s : StateIn F) : Type 0 where
  pub cells : Within (sizes_of s.mesh) lent.cells
  pub limits : Within (sizes_of s.mesh) LIMITS
  pub book : length s.book ≤ lent.book
  pub limit : length s.book ≤ LIMIT

pub fits_facts : {F : Form} (lent : Lent) (s : StateIn F) → fits lent s ≡ true → Fit lent s
unfolding fits
fits_facts lent s e =
    let a = within (sizes_of s.mesh) lent.cells in
    let b = within (sizes_of s.mesh) LIMITS in
    let c = leb (length s.book) lent.book in
    let d = leb (length s.book) LIMIT in
    let e3 = and_true_left (a && b && c) d e in
    let e2 = and_true_left (a && b) c e3 in
    record {
      cells = within_facts _ _ (and_true_left a b e2);
      limits = within_facts _ _ (and_true_right a b e2);
      book = leb-true _ _ (and_true_right (a && b) c e3);
      limit = leb-true _ _ (and_true_right (a && b && c) d e);
    }

pub fits_holds : {F : Form} (lent : Lent) (s : StateIn F) → Fit lent s → fits lent s ≡ true
unfolding fits
fits_holds lent s f =
    rw (
      within_holds (sizes_of s.mesh) lent.cells f.cells,
      within_holds (sizes_of s.mesh) LIMITS f.limits,
      le-leb _ _ f.book,
      le-leb _ _ f.limit,
    )
    refl
