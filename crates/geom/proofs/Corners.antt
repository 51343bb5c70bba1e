-- The corner piece [a, ab, ac] of a triangle, or [a, ab, ac, ad] of a square that isn't flat: no other piece of any face equals it, since a
-- midpoint is younger than its ends. So the refined ledger has at the corner piece just the entry that the face had.
-- Assumes nothing.
use mathlib.Core.Path.{◌≡◌, refl, sym, ◌∙◌, ap, subst}
use mathlib.Core.Bool.{Bool, true, false, cond}
use mathlib.Core.Logic.{◌⊎◌, inl, inr, ⊎_elim}
use mathlib.Core.List.{List, [], ◌∷◌}
use Prim.Native.Nat.{ℕ, ◌+◌, ◌<◌, ◌≤◌}
use native.Mathlib.Omega.{arith}
use lib.IntN.{ℤ, pos, neg_ℤ, ◌+ℤ◌, +ℤ_idr}
use lib.ListN.{length}
use Rattle.geom.specs.declared.parity.Parity.TheVariants.{Even}
use Rattle.geom.specs.Book.{Kind, cubes, simplices, Pair, pair, Book, midpoint}
use Rattle.geom.specs.Elements.{Element, point_at, pick, pairs_of, flat}
use Rattle.geom.specs.Cubes.{SQUARE_AXES}
use Rattle.geom.specs.Ledger.{Ledger, same_list, spread, face_shape, face_pieces, put, refine}
use Rattle.geom.specs.Between.{All, Low, Rising}
use Rattle.geom.proofs.Lists.{all_at, spelled, same_list_same, same_list_other}
use Rattle.geom.proofs.Sums.{lists_one}
use Rattle.geom.proofs.Books.{Known, Stands, above, still, midpoint_above, midpoint_stands, midpoint_injective}
use Rattle.geom.proofs.Spread.{only, raw, kept}
use Rattle.geom.proofs.Refining.{Face}
use Rattle.geom.proofs.Cells.{face_points, face_pieces_lem}
use Rattle.geom.proofs.Flats.{flat_abab, flat_aacc, flat_square}

-- the places of the corner piece, the first in the table
abbrev CORNER : Kind → List ℕ
CORNER simplices = 0 ∷ 3 ∷ 4 ∷ []
CORNER cubes = 0 ∷ 4 ∷ 5 ∷ 8 ∷ []

abbrev pub corner : Kind → ℕ → Book → List ℕ → List ℕ
corner kind base book c = pick (face_points kind base book c) (CORNER kind)

-- a face that can have an entry: its midpoints are in the book, and it isn't flat
pub record Entry (kind : Kind) (base : ℕ) (book : Book) (c : List ℕ) : Type 0 where
  pub fits : Face kind base book c
  pub knows : All (Known kind base book) (pairs_of c (face_shape kind).edges)
  pub full : flat (face_shape kind).axes c ≡ false

-- the corner piece of c isn't flat, and is no other piece of any face
record Apart (kind : Kind) (base : ℕ) (book : Book) (c : List ℕ) : Type 0 where
  full : flat (face_shape kind).axes (corner kind base book c) ≡ false
  alone :
      (d : List ℕ) → Face kind base book d → (z : ℤ)
      → raw z (face_points kind base book d) (face_shape kind).table (corner kind base book c)
      ≡ only (same_list (corner kind base book d) (corner kind base book c)) z
  one : (d : List ℕ) → Face kind base book d → corner kind base book d ≡ corner kind base book c → d ≡ c

-- of four pieces only the first counts
first_of_four :
    (s₀ s₁ s₂ s₃ : Bool) (z u : ℤ) → s₁ ≡ false → s₂ ≡ false → s₃ ≡ false
    → only s₀ z +ℤ (only s₁ z +ℤ (only s₂ z +ℤ (only s₃ u +ℤ pos 0))) ≡ only s₀ z
first_of_four s₀ s₁ s₂ s₃ z u e₁ e₂ e₃ = rw (e₁, e₂, e₃) (+ℤ_idr (only s₀ z))

-- a test that isn't true
not_true : (b : Bool) → (b ≡ true → ⊥) → b ≡ false
not_true true f = absurd (f refl)
not_true false f = refl

-- ── triangles ──

module _ (base : ℕ) (book : Book) (rising : Rising base book) where
  abbrev mid : ℕ → ℕ → ℕ
  mid u v = midpoint simplices base book (pair u v)

  abbrev n : ℕ
  n = base + length book

  up : (u v : ℕ) → u < n → v < n → Low (mid u v) (pair u v)
  up u v lu lv = midpoint_above base book (pair u v) rising (record { start = lu; stop = lv })

  module _ (a b c : ℕ) (la : a < n) (lb : b < n) (lc : c < n) (kb : Known simplices base book (pair a b)) (kc : Known simplices base book (pair a c)) where
    -- a pair with the midpoint of [a,v] is [a,v]
    same_end : (u w v : ℕ) → u < n → w < n → v < n → Known simplices base book (pair a v) → mid u w ≡ mid a v → pair u w ≡ pair a v
    same_end u w v lu lw lv k e =
        midpoint_injective simplices base book (pair u w) (pair a v) k (up a v la lv).start (up u w lu lw).start e

    module _ (x y z : ℕ) (lx : x < n) (ly : y < n) (lz : z < n) where
      abbrev t : List ℕ
      t = a ∷ mid a b ∷ mid a c ∷ []

      not_second : mid x y ∷ y ∷ mid y z ∷ [] ≡ t → ⊥
      not_second e =
          let e₀ : mid x y ≡ a = cc in
          let e₁ : y ≡ mid a b = cc in
          omega (arith, (up x y lx ly).stop, (up a b la lb).start)

      not_third : mid x z ∷ mid y z ∷ z ∷ [] ≡ t → ⊥
      not_third e =
          let e₀ : mid x z ≡ a = cc in
          let e₁ : z ≡ mid a c = cc in
          omega (arith, (up x z lx lz).stop, (up a c la lc).start)

      not_fourth : mid x y ∷ mid x z ∷ mid y z ∷ [] ≡ t → ⊥
      not_fourth e =
          let e₀ : mid x y ≡ a = cc in
          let e₁ : mid x z ≡ mid a b = cc in
          let p = same_end x z b lx lz lb kb e₁ in
          let q : x ≡ a = ap (λ (r : Pair). r.first) p in
          omega (arith, (up x y lx ly).start)

      alone_triangle :
          (w : ℤ)
          → raw w (face_points simplices base book (x ∷ y ∷ z ∷ [])) (face_shape simplices).table t
          ≡ only (same_list (x ∷ mid x y ∷ mid x z ∷ []) t) w
      unfolding raw pick pairs_of
      alone_triangle w =
          first_of_four (same_list (x ∷ mid x y ∷ mid x z ∷ []) t) _ _ _ w (neg_ℤ w)
          (same_list_other (mid x y ∷ y ∷ mid y z ∷ []) t not_second)
          (same_list_other (mid x z ∷ mid y z ∷ z ∷ []) t not_third)
          (same_list_other (mid x y ∷ mid x z ∷ mid y z ∷ []) t not_fourth)

      one_triangle : x ∷ mid x y ∷ mid x z ∷ [] ≡ t → x ∷ y ∷ z ∷ [] ≡ a ∷ b ∷ c ∷ []
      one_triangle e =
          let e₀ : x ≡ a = cc in
          let e₁ : mid x y ≡ mid a b = cc in
          let e₂ : mid x z ≡ mid a c = cc in
          let p : y ≡ b = ap (λ (r : Pair). r.second) (same_end x y b lx ly lb kb e₁) in
          let q : z ≡ c = ap (λ (r : Pair). r.second) (same_end x z c lx lz lc kc e₂) in
          cc

  apart_abc : (a b c : ℕ) → Entry simplices base book (a ∷ b ∷ c ∷ []) → Apart simplices base book (a ∷ b ∷ c ∷ [])
  unfolding pick pairs_of flat
  apart_abc a b c e =
      let la = e.fits.below.0 in
      let lb = e.fits.below.1.0 in
      let lc = e.fits.below.1.1.0 in
      let kb = e.knows.0 in
      let kc = e.knows.1.0 in
      let t : List ℕ = a ∷ mid a b ∷ mid a c ∷ [] in
      record {
        full = refl;
        alone = λ d f z.
            let l = all_at n d (omega (arith, la)) f.below in
            subst (λ (x : List ℕ). raw z (face_points simplices base book x) (face_shape simplices).table t ≡ only (same_list (corner simplices base book x) t) z)
            (sym (spelled 3 d f.long))
            (alone_triangle a b c la lb lc kb kc (point_at d 0) (point_at d 1) (point_at d 2) (l 0) (l 1) (l 2) z);
        one = λ d f h.
            let l = all_at n d (omega (arith, la)) f.below in
            let s = spelled 3 d f.long in
            s ∙ one_triangle a b c la lb lc kb kc (point_at d 0) (point_at d 1) (point_at d 2) (l 0) (l 1) (l 2) (sym (ap (corner simplices base book) s) ∙ h);
      }

  apart_triangle : (c : List ℕ) → Entry simplices base book c → Apart simplices base book c
  unfolding pick
  apart_triangle c e =
      let s = spelled 3 c e.fits.long in
      subst (Apart simplices base book) (sym s) (apart_abc (point_at c 0) (point_at c 1) (point_at c 2) (subst (Entry simplices base book) s e))

-- ── squares ──

module _ (base : ℕ) (book : Book) (rising : Rising base book) where
  abbrev middle : ℕ → ℕ → ℕ
  middle u v = midpoint cubes base book (pair u v)

  abbrev count : ℕ
  count = base + length book

  stands : (u v : ℕ) → u < count → v < count → Stands (middle u v) (pair u v)
  stands u v lu lv = midpoint_stands base book (pair u v) rising (record { start = lu; stop = lv })

  -- a midpoint is not below its ends
  no_lower : (u v : ℕ) → u < count → v < count → (u ≤ middle u v) × (v ≤ middle u v)
  no_lower u v lu lv = go (stands u v lu lv)
    where
      go : Stands (middle u v) (pair u v) → (u ≤ middle u v) × (v ≤ middle u v)
      go (above l) = omega (arith, l.start, l.stop)
      go (still e f) = omega arith

  -- a midpoint that is an end is that of [v,v]
  ends_meet : (u v : ℕ) → u < count → v < count → (middle u v ≤ u) ⊎ (middle u v ≤ v) → u ≡ v
  ends_meet u v lu lv h = go (stands u v lu lv)
    where
      go : Stands (middle u v) (pair u v) → u ≡ v
      go (above l) = ⊎_elim (λ k. absurd (omega (arith, l.start))) (λ k. absurd (omega (arith, l.stop))) h
      go (still e f) = e

  module _ (a v : ℕ) (la : a < count) (lv : v < count) (k : Known cubes base book (pair a v)) where
    -- from a, one midpoint has one other end
    fan : (w : ℕ) → w < count → middle a w ≡ middle a v → w ≡ v
    fan w lw e = go (stands a w la lw) (stands a v la lv)
      where
        go : Stands (middle a w) (pair a w) → Stands (middle a v) (pair a v) → w ≡ v
        go (above l) (above m) = ap (λ (r : Pair). r.second) (midpoint_injective cubes base book (pair a w) (pair a v) k m.start l.start e)
        go (above l) (still p q) = absurd (omega (arith, l.start))
        go (still p q) (above m) = absurd (omega (arith, m.start))
        go (still p q) (still p' q') = sym p ∙ p'

    -- towards a, no pair has a midpoint of [a,v], but [a,a]
    back : (w : ℕ) → w < count → middle w a ≡ middle a v → a ≡ v
    back w lw e = go (stands w a lw la) (stands a v la lv)
      where
        go : Stands (middle w a) (pair w a) → Stands (middle a v) (pair a v) → a ≡ v
        go (above l) (above m) = ap (λ (r : Pair). r.second) (midpoint_injective cubes base book (pair w a) (pair a v) k m.start l.start e)
        go (still p q) (above m) = absurd (omega (arith, m.start))
        go (above l) (still p' q') = p'
        go (still p q) (still p' q') = p'

  module _
      (a b c d : ℕ)
      (la : a < count)
      (lb : b < count)
      (lc : c < count)
      (ld : d < count)
      (kd : Known cubes base book (pair a d))
      (kb : Known cubes base book (pair a b))
      (kc : Known cubes base book (pair a c))
      (full : flat SQUARE_AXES (a ∷ b ∷ c ∷ d ∷ []) ≡ false)
    where
      abbrev square : List ℕ
      square = a ∷ middle a b ∷ middle a c ∷ middle a d ∷ []

      -- the square isn't flat
      not_abab : a ≡ c → b ≡ d → ⊥
      not_abab p q = let o : ◌≡◌ {A = ℕ} 0 1 = cc (flat_abab a b) in omega arith

      not_aacc : a ≡ b → c ≡ d → ⊥
      not_aacc p q = let o : ◌≡◌ {A = ℕ} 0 1 = cc (flat_aacc a c) in omega arith

      -- nor is its corner piece
      full_corner : flat SQUARE_AXES square ≡ false
      full_corner =
          not_true (flat SQUARE_AXES square)
          (λ h. ⊎_elim
          (λ (e : square ≡ a ∷ middle a b ∷ a ∷ middle a b ∷ []).
          let e₂ : middle a c ≡ a = cc in
          let e₃ : middle a d ≡ middle a b = cc in
          not_abab (ends_meet a c la lc (inl (omega arith))) (sym (fan a b la lb kb d ld e₃)))
          (λ (e : square ≡ a ∷ a ∷ middle a c ∷ middle a c ∷ []).
          let e₁ : middle a b ≡ a = cc in
          let e₃ : middle a d ≡ middle a c = cc in
          not_aacc (ends_meet a b la lb (inl (omega arith))) (sym (fan a c la lc kc d ld e₃)))
          (flat_square square refl h))

      module _ (x y z w : ℕ) (lx : x < count) (ly : y < count) (lz : z < count) (lw : w < count) where
        second_piece : middle x y ∷ y ∷ middle x w ∷ middle y w ∷ [] ≡ square → ⊥
        second_piece e =
            let e₀ : middle x y ≡ a = cc in
            let e₁ : y ≡ middle a b = cc in
            let e₂ : middle x w ≡ middle a c = cc in
            let e₃ : middle y w ≡ middle a d = cc in
            let i = no_lower x y lx ly in
            let j = no_lower a b la lb in
            let p : y ≡ a = omega arith in
            let q : x ≡ a = ends_meet x y lx ly (inr (omega arith)) ∙ p in
            not_aacc (ends_meet a b la lb (inl (omega arith)))
            (sym (fan a c la lc kc w lw (ap (λ (u : ℕ). middle u w) (sym q) ∙ e₂))
            ∙ fan a d la ld kd w lw (ap (λ (u : ℕ). middle u w) (sym p) ∙ e₃))

        third_piece : middle x z ∷ middle x w ∷ z ∷ middle z w ∷ [] ≡ square → ⊥
        third_piece e =
            let e₀ : middle x z ≡ a = cc in
            let e₁ : middle x w ≡ middle a b = cc in
            let e₂ : z ≡ middle a c = cc in
            let e₃ : middle z w ≡ middle a d = cc in
            let i = no_lower x z lx lz in
            let j = no_lower a c la lc in
            let p : z ≡ a = omega arith in
            let q : x ≡ a = ends_meet x z lx lz (inr (omega arith)) ∙ p in
            not_abab (ends_meet a c la lc (inl (omega arith)))
            (sym (fan a b la lb kb w lw (ap (λ (u : ℕ). middle u w) (sym q) ∙ e₁))
            ∙ fan a d la ld kd w lw (ap (λ (u : ℕ). middle u w) (sym p) ∙ e₃))

        fourth_piece : middle x w ∷ middle y w ∷ middle z w ∷ w ∷ [] ≡ square → ⊥
        fourth_piece e =
            let e₀ : middle x w ≡ a = cc in
            let e₁ : middle y w ≡ middle a b = cc in
            let e₂ : middle z w ≡ middle a c = cc in
            let e₃ : w ≡ middle a d = cc in
            let i = no_lower x w lx lw in
            let j = no_lower a d la ld in
            let p : w ≡ a = omega arith in
            not_abab (back a c la lc kc z lz (ap (middle z) (sym p) ∙ e₂))
            (sym (back a b la lb kb y ly (ap (middle y) (sym p) ∙ e₁)) ∙ ends_meet a d la ld (inl (omega arith)))

        alone_square :
            (v : ℤ)
            → raw v (face_points cubes base book (x ∷ y ∷ z ∷ w ∷ [])) (face_shape cubes).table square
            ≡ only (same_list (x ∷ middle x y ∷ middle x z ∷ middle x w ∷ []) square) v
        unfolding raw pick pairs_of
        alone_square v =
            first_of_four (same_list (x ∷ middle x y ∷ middle x z ∷ middle x w ∷ []) square) _ _ _ v v
            (same_list_other (middle x y ∷ y ∷ middle x w ∷ middle y w ∷ []) square second_piece)
            (same_list_other (middle x z ∷ middle x w ∷ z ∷ middle z w ∷ []) square third_piece)
            (same_list_other (middle x w ∷ middle y w ∷ middle z w ∷ w ∷ []) square fourth_piece)

        one_square : x ∷ middle x y ∷ middle x z ∷ middle x w ∷ [] ≡ square → x ∷ y ∷ z ∷ w ∷ [] ≡ a ∷ b ∷ c ∷ d ∷ []
        one_square e =
            let e₀ : x ≡ a = cc in
            let e₁ : middle a y ≡ middle a b = cc in
            let e₂ : middle a z ≡ middle a c = cc in
            let e₃ : middle a w ≡ middle a d = cc in
            let p = fan a b la lb kb y ly e₁ in
            let q = fan a c la lc kc z lz e₂ in
            let r = fan a d la ld kd w lw e₃ in
            cc

  apart_abcd : (a b c d : ℕ) → Entry cubes base book (a ∷ b ∷ c ∷ d ∷ []) → Apart cubes base book (a ∷ b ∷ c ∷ d ∷ [])
  unfolding pick pairs_of
  apart_abcd a b c d e =
      let la = e.fits.below.0 in
      let lb = e.fits.below.1.0 in
      let lc = e.fits.below.1.1.0 in
      let ld = e.fits.below.1.1.1.0 in
      let kd = e.knows.0 in
      let kb = e.knows.1.0 in
      let kc = e.knows.1.1.0 in
      let t : List ℕ = a ∷ middle a b ∷ middle a c ∷ middle a d ∷ [] in
      record {
        full = full_corner a b c d la lb lc ld kd kb kc e.full;
        alone = λ g f v.
            let l = all_at count g (omega (arith, la)) f.below in
            subst (λ (x : List ℕ). raw v (face_points cubes base book x) (face_shape cubes).table t ≡ only (same_list (corner cubes base book x) t) v)
            (sym (spelled 4 g f.long))
            (alone_square a b c d la lb lc ld kd kb kc e.full (point_at g 0) (point_at g 1) (point_at g 2) (point_at g 3) (l 0) (l 1) (l 2) (l 3) v);
        one = λ g f h.
            let l = all_at count g (omega (arith, la)) f.below in
            let s = spelled 4 g f.long in
            s ∙ one_square a b c d la lb lc ld kd kb kc e.full (point_at g 0) (point_at g 1) (point_at g 2) (point_at g 3) (l 0) (l 1) (l 2) (l 3) (sym (ap (corner cubes base book) s) ∙ h);
      }

  apart_square : (c : List ℕ) → Entry cubes base book c → Apart cubes base book c
  unfolding pick
  apart_square c e =
      let s = spelled 4 c e.fits.long in
      subst (Apart cubes base book) (sym s) (apart_abcd (point_at c 0) (point_at c 1) (point_at c 2) (point_at c 3) (subst (Entry cubes base book) s e))

-- ── both kinds ──

apart : (kind : Kind) (base : ℕ) (book : Book) → Rising base book → (c : List ℕ) → Entry kind base book c → Apart kind base book c
apart simplices = apart_triangle
apart cubes = apart_square

module _ (kind : Kind) (base : ℕ) (book : Book) (c : List ℕ) (part : Apart kind base book c) where
  -- what a face adds to the corner piece of c
  adds_there :
      (d : List ℕ) → Face kind base book d → (z : ℤ)
      → spread z (face_pieces kind base book d) (corner kind base book c)
      ≡ only (same_list (corner kind base book d) (corner kind base book c)) z
  adds_there d f z =
      ap (λ (es : List Element). spread z es (corner kind base book c)) (face_pieces_lem kind base book d)
      ∙ kept (face_shape kind).axes Even z (face_points kind base book d) (face_shape kind).table (corner kind base book c)
      ∙ ap (λ (b : Bool). cond b (pos 0) (raw z (face_points kind base book d) (face_shape kind).table (corner kind base book c))) part.full
      ∙ part.alone d f z

-- The refined ledger has at the corner piece of a face the entry that the face had.
pub refine_corner :
    (kind : Kind) (base : ℕ) (book : Book) → Rising base book → (c : List ℕ) → Entry kind base book c → (l : Ledger)
    → refine kind base book l (corner kind base book c) ≡ l c
unfolding refine put
refine_corner kind base book rising c e l =
    let part = apart kind base book rising c e in
    let t = corner kind base book c in
    lists_one (base + length book) (face_shape kind).count c (λ (d : List ℕ). spread (l d) (face_pieces kind base book d) t) e.fits
    (λ d f ne.
    adds_there kind base book c part d f (l d)
    ∙ ap (λ (b : Bool). only b (l d)) (same_list_other (corner kind base book d) t (λ h. ne (part.one d f h))))
    ∙ adds_there kind base book c part c e.fits (l c)
    ∙ ap (λ (b : Bool). only b (l c)) (same_list_same t)
