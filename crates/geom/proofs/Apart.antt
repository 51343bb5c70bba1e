-- No pass makes a line [a,a], of either kind: the vertex between a line's ends is neither of them.
-- Assumes nothing.
use mathlib.Core.Path.{◌≡◌, sym, ap, subst}
use mathlib.Core.Bool.{Bool, true, not}
use mathlib.Core.List.{List, [], ◌∷◌}
use Prim.Native.Nat.{ℕ, zero, suc, ◌+◌, ◌≤◌, ◌<◌}
use native.Mathlib.Omega.{arith}
use borrow.Author.Tests.{ne_eqb}
use lib.Dec.{eqb}
use lib.ListN.{length, length-append}
use Rattle.geom.specs.Book.{Kind, Book, Found, found, none, seek, vertex_or, midpoint, book_or, each}
use Rattle.geom.specs.Elements.{Element, pick, pieces, flat}
use Rattle.geom.specs.Rules.{line_ends, line_pieces, line, Went, pass_by}
use Rattle.geom.specs.Passes.{pass}
use Rattle.geom.specs.Form.{Form}
use Rattle.geom.specs.Mesh.{MeshIn}
use Rattle.geom.specs.Refinement.{pass_over, state_after, went}
use Rattle.geom.specs.Soundness.{ends_differ, Apart}
use Rattle.geom.specs.Between.{All, Below, Proper, Well, Good}
use Rattle.geom.proofs.Lists.{all_append}
use Rattle.geom.proofs.Well.{pass_is}
use Rattle.geom.proofs.Standing.{every_true}
use Rattle.geom.proofs.Pinned.{good_after}

abbrev Differing : Element → Type 0
Differing e = ends_differ e ≡ true

other : (a b : ℕ) → (a ≡ b → ⊥) → not (eqb a b) ≡ true
other a b n = ap not (ne_eqb a b n)

module _ (kind : Kind) (base m : ℕ) where
  line_apart : (book : Book) (e : Element) → m ≤ base + length book → Proper m 2 e → All Differing (line kind base book e).made
  unfolding line midpoint
  line_apart book e h p = go (seek kind base book (line_ends e)) e.corners p.long p.below
    where
      go :
          (f : Found) (c : List ℕ) → length c ≡ 2 → Below m c
          → All Differing (line_pieces (vertex_or (base + length book) f) (record { corners = c; parity = e.parity }) f)
      go (found w) c l b = tt
      go none [] l b = absurd (omega arith)
      go none (x ∷ []) l b = absurd (omega arith)
      go none (x ∷ y ∷ []) l b =
          unfold pieces flat pick ends_differ in (other x (base + length book) (λ q. omega (arith, b.0, q)), (other (base + length book) y (λ q. omega (arith, b.1.0, q)), tt))
      go none (x ∷ y ∷ z ∷ c) l b = absurd (omega arith)

  lines_apart : (es : List Element) (book : Book) → m ≤ base + length book → All (Proper m 2) es → All Differing (each (line kind base) book es).made
  unfolding each
  lines_apart [] book h a = tt
  lines_apart (e ∷ es) book h a =
      let next = (line kind base book e).book in
      all_append Differing (line kind base book e).made (each (line kind base) next es).made (line_apart book e h a.0)
      (lines_apart es next (omega (arith, h, longer book e)) a.1)
    where
      longer : (book : Book) (e : Element) → length book ≤ length (line kind base book e).book
      longer book e = unfold line in go (seek kind base book (line_ends e))
        where
          go : (f : Found) → length book ≤ length (book_or book (line_ends e) f)
          go (found w) = omega arith
          go none = omega (arith, length-append book (line_ends e ∷ []))

pass_apart : (kind : Kind) (base : ℕ) (w : Went) → Good kind base w → Apart (pass kind base w).lists.lines
unfolding pass_by
pass_apart kind base w good =
    subst (λ (x : Went). Apart x.lists.lines) (sym (pass_is kind base w))
    (every_true ends_differ _ (lines_apart kind base (base + length w.book) w.lists.lines w.book (omega arith) good.well.lines))

module _ {F : Form} (kind : Kind) (time : Bool) (mesh : MeshIn F) (well : Well kind (length mesh.vertices) mesh.lists) where
  -- after one pass or more
  pub apart_after : (n : ℕ) → 0 < n → Apart (state_after kind time mesh n).mesh.lists.lines
  unfolding state_after pass_over
  apart_after zero h = absurd (omega arith)
  apart_after (suc n) h = pass_apart kind (length mesh.vertices) (went (state_after kind time mesh n)) (good_after kind time mesh well n)

  -- and after none, where no such line was handed in
  pub still_apart : (n : ℕ) → Apart mesh.lists.lines → Apart (state_after kind time mesh n).mesh.lists.lines
  unfolding state_after
  still_apart zero a = a
  still_apart (suc n) a = apart_after (suc n) (omega arith)
