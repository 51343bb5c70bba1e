-- Demand 3, whole, over the definitions of specs/: for lists of either kind, and any number n of whole passes.
-- The one premise, Well, is what the acceptance of a mesh gives: every vertex number is below the vertex count handed in, and every element
-- has its kind's number of corners. Nothing is assumed of the book, of closedness, or of the passes.
-- Says nothing of room: n is any number, so also the number of passes that fit what is lent.
-- Assumes nothing.
use mathlib.Core.Path.{◌≡◌, refl, sym, ◌∙◌, ap, subst}
use mathlib.Core.Bool.{Bool, cond}
use mathlib.Core.Logic.{◌↔◌, ◌⊎◌, inl, inr, ⊎_elim}
use mathlib.Core.List.{List, [], ◌∷◌}
use Prim.Native.Nat.{ℕ, suc}
use native.Mathlib.Omega.{arith}
use lib.IntN.{ℤ, pos}
use Rattle.geom.specs.declared.parity.Parity.TheVariants.{Even, Odd}
use Rattle.geom.specs.Book.{Kind, cubes, simplices, pair, Book, midpoint}
use Rattle.geom.specs.Elements.{Element, Lists, pick, pairs_of, flat, unless, pieces, assemble}
use Rattle.geom.specs.Cubes.{SQUARE_AXES}
use Rattle.geom.specs.Passes.{passes, lists_after, book_after}
use Rattle.geom.specs.Ledger.{same_list, spread, ledger, refined, Closed, face_pieces, sum_lists}
use Rattle.geom.specs.Between.{Fits, Well}
use Rattle.geom.proofs.Lists.{same_list_same, same_list_other}
use Rattle.geom.proofs.Sums.{lists_one, lists_none}
use Rattle.geom.proofs.Spread.{spread_zero}
use Rattle.geom.proofs.Steps.{passes_add, passes_good}
use Rattle.geom.proofs.Corners.{Entry}
use Rattle.geom.proofs.Closing.{entry_or_zero, passes_close, passes_open}
use Rattle.geom.proofs.Recovery.{areas_back, volumes_back}

-- ── for the sceptical reader: what the refinement sums over ──

-- The sum over all lists of k numbers below n counts each of them once,
pub each_list_once : (n k : ℕ) (d : List ℕ) (z : ℤ) → Fits n k d → sum_lists n k (λ (c : List ℕ). cond (same_list d c) z (pos 0)) ≡ z
each_list_once n k d z fits =
    lists_one n k d (λ (c : List ℕ). cond (same_list d c) z (pos 0)) fits (λ c f ne. rw (same_list_other d c (λ e. ne (sym e))))
    ∙ ap (λ (b : Bool). cond b z (pos 0)) (same_list_same d)

-- and no other list.
pub no_other_list : (n k : ℕ) (d : List ℕ) (z : ℤ) → (Fits n k d → ⊥) → sum_lists n k (λ (c : List ℕ). cond (same_list d c) z (pos 0)) ≡ pos 0
no_other_list n k d z out =
    lists_none n k (λ (c : List ℕ). cond (same_list d c) z (pos 0))
    (λ c f. rw (same_list_other d c (λ e. out (subst (Fits n k) (sym e) f))))

-- An entry 0 adds nothing to its pieces, so it makes no difference whether it is refined.
pub zero_adds_nothing : (fs : List Element) (t : List ℕ) → spread (pos 0) fs t ≡ pos 0
zero_adds_nothing = spread_zero

-- The refinement misses no entry: after k refinements an entry is 0, or its list is among those that the next refinement sums over, its
-- midpoints are all in the book after pass k + 1, and it isn't flat.
pub nothing_missed :
    (kind : Kind) (base : ℕ) (lists : Lists) → Well kind base lists → (k : ℕ) (t : List ℕ)
    → (refined kind base lists k (ledger kind lists.volumes) t ≡ pos 0) ⊎ Entry kind base (book_after kind base lists (suc k)) t
unfolding passes
nothing_missed kind base lists well k t =
    ⊎_elim (λ e. inr e) (λ z. inl (sym (passes_add kind base lists well k t) ∙ z))
    (entry_or_zero kind base (passes kind base lists k) (passes_good kind base lists well k) t)

-- ── for the sceptical reader: the pieces as document 01 prints them ──

abbrev even : List ℕ → Element
even c = record { corners = c; parity = Even }

abbrev odd : List ℕ → Element
odd c = record { corners = c; parity = Odd }

-- the midpoint of [u,v]
abbrev mid : Kind → ℕ → Book → ℕ → ℕ → ℕ
mid kind base book u v = midpoint kind base book (pair u v)

-- a square, left out where it is flat
abbrev keep : List ℕ → List Element → List Element
keep q rest = unless (flat SQUARE_AXES q) (even q) rest

module _ (base : ℕ) (book : Book) (a b c d : ℕ) where
  -- Triangle [a,b,c], p = ab, q = ac, r = bc: [a,p,q], [p,b,r], [q,r,c], then [p,q,r] flipped.
  pub triangle_pieces :
      let p = mid simplices base book a b in
      let q = mid simplices base book a c in
      let r = mid simplices base book b c in
      face_pieces simplices base book (a ∷ b ∷ c ∷ [])
      ≡ even (a ∷ p ∷ q ∷ []) ∷ even (p ∷ b ∷ r ∷ []) ∷ even (q ∷ r ∷ c ∷ []) ∷ odd (p ∷ q ∷ r ∷ []) ∷ []
  unfolding face_pieces assemble pieces flat pick pairs_of
  triangle_pieces = refl

  -- Square [a,b,c,d]: [a,ab,ac,ad], [ab,b,ad,bd], [ac,ad,c,cd], [ad,bd,cd,d], flat ones left out.
  pub square_pieces :
      let ab = mid cubes base book a b in
      let ac = mid cubes base book a c in
      let ad = mid cubes base book a d in
      let bd = mid cubes base book b d in
      let cd = mid cubes base book c d in
      face_pieces cubes base book (a ∷ b ∷ c ∷ d ∷ [])
      ≡ keep (a ∷ ab ∷ ac ∷ ad ∷ []) (keep (ab ∷ b ∷ ad ∷ bd ∷ []) (keep (ac ∷ ad ∷ c ∷ cd ∷ []) (keep (ad ∷ bd ∷ cd ∷ d ∷ []) [])))
  unfolding face_pieces assemble pieces pick pairs_of
  square_pieces = refl

-- ── for the sceptical reader: lists that meet the premise ──

abbrev one_of_each : List ℕ → List ℕ → Lists
one_of_each area volume =
    record {
      lines = even (0 ∷ 1 ∷ []) ∷ [];
      areas = even area ∷ [];
      volumes = odd volume ∷ [];
      curves = record { tag = 7; vertices = 2 ∷ 0 ∷ 1 ∷ []; parities = Even ∷ Odd ∷ [] } ∷ [];
    }

pub well_simplices : Well simplices 4 (one_of_each (0 ∷ 1 ∷ 2 ∷ []) (0 ∷ 1 ∷ 2 ∷ 3 ∷ []))
well_simplices = omega arith

pub well_cubes : Well cubes 8 (one_of_each (0 ∷ 1 ∷ 2 ∷ 3 ∷ []) (0 ∷ 1 ∷ 2 ∷ 3 ∷ 4 ∷ 5 ∷ 6 ∷ 7 ∷ []))
well_cubes = omega arith

-- ── the claims ──

-- 1. The ledger of the mesh left is the original's ledger refined n times, the k-th time over the midpoints after pass k, as the book is
-- made from the lists handed in.
pub ledger_refined :
    (kind : Kind) (base : ℕ) (lists : Lists) → Well kind base lists → (n : ℕ) (t : List ℕ)
    → ledger kind (lists_after kind base lists n).volumes t ≡ refined kind base lists n (ledger kind lists.volumes) t
ledger_refined = passes_add

-- 2. Closed after exactly when closed before, tetrahedra and cubes alike.
pub closed_exactly_when :
    (kind : Kind) (base : ℕ) (lists : Lists) → Well kind base lists → (n : ℕ)
    → Closed (ledger kind lists.volumes) ↔ Closed (ledger kind (lists_after kind base lists n).volumes)
closed_exactly_when kind base lists well n = (passes_close kind base lists well n, passes_open kind base lists well n)

-- 3. Two simplex meshes with equally many whole passes, left with equal triangles and equal tetrahedra (vertex numbers, parities and order),
-- went in with equal ones.
pub recovered :
    (base₁ base₂ : ℕ) (lists₁ lists₂ : Lists) → Well simplices base₁ lists₁ → Well simplices base₂ lists₂ → (n : ℕ)
    → (lists_after simplices base₁ lists₁ n).areas ≡ (lists_after simplices base₂ lists₂ n).areas
    → (lists_after simplices base₁ lists₁ n).volumes ≡ (lists_after simplices base₂ lists₂ n).volumes
    → (lists₁.areas ≡ lists₂.areas) × (lists₁.volumes ≡ lists₂.volumes)
recovered base₁ base₂ lists₁ lists₂ well₁ well₂ n areas volumes =
    (areas_back base₁ base₂ lists₁ lists₂ well₁ well₂ n areas, volumes_back base₁ base₂ lists₁ lists₂ well₁ well₂ n volumes)
