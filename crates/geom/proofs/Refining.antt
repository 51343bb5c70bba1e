-- Entries put on pieces: so a ledger is refined, and so squares are replaced by triangles. Putting adds, and goes face by face over a sum of faces.
-- Assumes nothing.
use mathlib.Core.Path.{◌≡◌, sym, ◌∙◌, ap, ap₂, fun_ext}
use mathlib.Core.List.{List, [], ◌∷◌}
use Prim.Native.Nat.{ℕ, ◌+◌}
use lib.IntN.{ℤ, pos, ◌+ℤ◌}
use lib.ListN.{length}
use Rattle.geom.specs.Book.{Kind, Book}
use Rattle.geom.specs.Elements.{Element}
use Rattle.geom.specs.Ledger.{Ledger, same_list, signed, spread, face_shape, face_pieces, sum_lists, put, refine}
use Rattle.geom.specs.Between.{All, Fits}
use Rattle.geom.proofs.Lists.{same_list_same, same_list_other}
use Rattle.geom.proofs.Sums.{lists_add, lists_none, lists_one}
use Rattle.geom.proofs.Spread.{only, spread_add, spread_zero}

-- ---- entries put on any pieces

module _ (n k : ℕ) (pieces_of : List ℕ → List Element) where
  pub put_add :
      (l m : Ledger) (t : List ℕ) → put n k pieces_of (λ (c : List ℕ). l c +ℤ m c) t ≡ put n k pieces_of l t +ℤ put n k pieces_of m t
  unfolding put
  put_add l m t =
      ap (sum_lists n k) (fun_ext (λ (c : List ℕ). spread_add (l c) (m c) (pieces_of c) t))
      ∙ lists_add n k (λ (c : List ℕ). spread (l c) (pieces_of c) t) (λ (c : List ℕ). spread (m c) (pieces_of c) t)

  pub put_zero : (t : List ℕ) → put n k pieces_of (λ (c : List ℕ). pos 0) t ≡ pos 0
  unfolding put
  put_zero t = lists_none n k (λ (c : List ℕ). spread (pos 0) (pieces_of c) t) (λ c w. spread_zero (pieces_of c) t)

  -- one entry goes to its pieces
  put_one : (z : ℤ) (d t : List ℕ) → Fits n k d → put n k pieces_of (λ (c : List ℕ). only (same_list d c) z) t ≡ spread z (pieces_of d) t
  unfolding put
  put_one z d t w =
      lists_one n k d (λ (c : List ℕ). spread (only (same_list d c) z) (pieces_of c) t) w
      (λ c v ne. rw (same_list_other d c (λ e. ne (sym e))) (spread_zero (pieces_of c) t))
      ∙ rw (same_list_same d)

-- what z adds to t when it is put on the pieces of some faces
unfoldable pub on_each : (List ℕ → List Element) → ℤ → List Element → List ℕ → ℤ
on_each pieces_of z [] t = pos 0
on_each pieces_of z (f ∷ fs) t = spread (signed f.parity z) (pieces_of f.corners) t +ℤ on_each pieces_of z fs t

pub put_faces :
    (n k : ℕ) (pieces_of : List ℕ → List Element) (z : ℤ) (fs : List Element) (t : List ℕ) → All (λ (f : Element). Fits n k f.corners) fs
    → put n k pieces_of (spread z fs) t ≡ on_each pieces_of z fs t
unfolding spread on_each
put_faces n k pieces_of z [] t a = put_zero n k pieces_of t
put_faces n k pieces_of z (f ∷ fs) t a =
    put_add n k pieces_of (λ (c : List ℕ). only (same_list f.corners c) (signed f.parity z)) (spread z fs) t
    ∙ ap₂ (λ (x y : ℤ). x +ℤ y) (put_one n k pieces_of (signed f.parity z) f.corners t a.0) (put_faces n k pieces_of z fs t a.1)

-- ---- the refinement

-- a list that can be a face after the pass
abbrev pub Face : Kind → ℕ → Book → List ℕ → Type 0
Face kind base book c = Fits (base + length book) (face_shape kind).count c

pub refine_add :
    (kind : Kind) (base : ℕ) (book : Book) (l m : Ledger) (t : List ℕ)
    → refine kind base book (λ (c : List ℕ). l c +ℤ m c) t ≡ refine kind base book l t +ℤ refine kind base book m t
unfolding refine
refine_add kind base book = put_add (base + length book) (face_shape kind).count (face_pieces kind base book)

pub refine_zero : (kind : Kind) (base : ℕ) (book : Book) (t : List ℕ) → refine kind base book (λ (c : List ℕ). pos 0) t ≡ pos 0
unfolding refine
refine_zero kind base book = put_zero (base + length book) (face_shape kind).count (face_pieces kind base book)

-- what z adds to t when it is put on the pieces of some faces
abbrev pub on_faces : Kind → ℕ → Book → ℤ → List Element → List ℕ → ℤ
on_faces kind base book = on_each (face_pieces kind base book)

pub refine_faces :
    (kind : Kind) (base : ℕ) (book : Book) (z : ℤ) (fs : List Element) (t : List ℕ)
    → All (λ (f : Element). Face kind base book f.corners) fs → refine kind base book (spread z fs) t ≡ on_faces kind base book z fs t
unfolding refine
refine_faces kind base book = put_faces (base + length book) (face_shape kind).count (face_pieces kind base book)
