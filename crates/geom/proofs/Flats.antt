-- Flat squares and cubes: a flat cube adds nothing to a ledger, and the pieces of a flat square are flat. No simplex is flat.
-- Assumes nothing.
use mathlib.Core.Path.{◌≡◌, refl, sym, ◌∙◌, ap, subst}
use mathlib.Core.Bool.{Bool, true, false, ◌&&◌, ◌||◌, or-true}
use mathlib.Core.Logic.{◌⊎◌, inl, inr, ⊎_elim}
use mathlib.Core.List.{List, [], ◌∷◌}
use Prim.Native.Nat.{ℕ}
use native.Mathlib.Omega.{arith}
use lib.Dec.{eqb}
use lib.IntN.{pos, ◌+ℤ◌}
use lib.ListN.{length}
use Rattle.geom.specs.declared.parity.Parity.{Parity}
use Rattle.geom.specs.declared.parity.Parity.TheVariants.{Even, Odd}
use Rattle.geom.specs.Parity.{times, flipped}
use Rattle.geom.specs.Book.{Kind, cubes, simplices, Pair, Book, pair, seek, midpoint}
use Rattle.geom.specs.Elements.{pick, point_at, pairs_of, shut, flat, unless, pieces, assemble}
use Rattle.geom.specs.Cubes.{SQUARE_AXES}
use Rattle.geom.specs.Ledger.{same_list, signed, spread, CUBE_FACES, face_table, volume_shape, face_shape, face_pieces}
use Rattle.geom.specs.Between.{All}
use Rattle.geom.proofs.Lists.{same_number, eqb_same, and_true_left, and_true_right, spelled}
use Rattle.geom.proofs.Spread.{only}

false_true : {A : Type 0} → false ≡ true → A
false_true e = let z : ◌≡◌ {A = ℕ} 0 1 = cc in absurd (omega arith)

or_cases : (a b : Bool) → (a || b) ≡ true → (a ≡ true) ⊎ (b ≡ true)
or_cases true b e = inl refl
or_cases false b e = inr e

-- [a,a] gives a itself
midpoint_same : (base : ℕ) (book : Book) (a : ℕ) → midpoint cubes base book (pair a a) ≡ a
unfolding midpoint seek
midpoint_same base book a = rw (eqb_same a)

-- ── the two flat squares ──

pub flat_abab : (a b : ℕ) → flat SQUARE_AXES (a ∷ b ∷ a ∷ b ∷ []) ≡ true
unfolding flat shut
flat_abab a b = rw (eqb_same a, eqb_same b)

pub flat_aacc : (a c : ℕ) → flat SQUARE_AXES (a ∷ a ∷ c ∷ c ∷ []) ≡ true
unfolding flat shut
flat_aacc a c = rw (eqb_same a, eqb_same c) (or-true (eqb a c && (eqb a c && true)))

-- the ends of each edge along a shut axis are equal
shut_ends : (c : List ℕ) (axis : List Pair) → shut c axis ≡ true → All (λ (e : Pair). point_at c e.first ≡ point_at c e.second) axis
unfolding shut
shut_ends c [] h = tt
shut_ends c (e ∷ axis) h =
    let a = eqb (point_at c e.first) (point_at c e.second) in
    (same_number (point_at c e.first) (point_at c e.second) (and_true_left a (shut c axis) h), shut_ends c axis (and_true_right a (shut c axis) h))

-- flat along one axis or another
pub flat_cases :
    (axis : List Pair) (axes : List (List Pair)) (c : List ℕ) → flat (axis ∷ axes) c ≡ true
    → All (λ (e : Pair). point_at c e.first ≡ point_at c e.second) axis ⊎ (flat axes c ≡ true)
unfolding flat
flat_cases axis axes c h = ⊎_elim (λ s. inl (shut_ends c axis s)) (λ f. inr f) (or_cases (shut c axis) (flat axes c) h)

pub not_flat : {A : Type 0} (c : List ℕ) → flat [] c ≡ true → A
unfolding flat
not_flat c e = false_true e

-- a flat square is [a,b,a,b] or [a,a,c,c]
pub flat_square :
    (c : List ℕ) → length c ≡ 4 → flat SQUARE_AXES c ≡ true
    → (c ≡ point_at c 0 ∷ point_at c 1 ∷ point_at c 0 ∷ point_at c 1 ∷ []) ⊎ (c ≡ point_at c 0 ∷ point_at c 0 ∷ point_at c 2 ∷ point_at c 2 ∷ [])
unfolding pick
flat_square c l f =
    let s = spelled 4 c l in
    ⊎_elim
    (λ (h : All (λ (e : Pair). point_at c e.first ≡ point_at c e.second) (pair 0 2 ∷ pair 1 3 ∷ [])). inl (s ∙ cc (h.0, h.1.0)))
    (λ g. ⊎_elim
    (λ (h : All (λ (e : Pair). point_at c e.first ≡ point_at c e.second) (pair 0 1 ∷ pair 2 3 ∷ [])). inr (s ∙ cc (h.0, h.1.0)))
    (λ k. not_flat c k)
    (flat_cases (pair 0 1 ∷ pair 2 3 ∷ []) [] c g))
    (flat_cases (pair 0 2 ∷ pair 1 3 ∷ []) ((pair 0 1 ∷ pair 2 3 ∷ []) ∷ []) c f)

-- the pieces of a flat square are flat
pieces_abab : (base : ℕ) (book : Book) (a b : ℕ) → face_pieces cubes base book (a ∷ b ∷ a ∷ b ∷ []) ≡ []
unfolding face_pieces assemble pieces pick pairs_of
pieces_abab base book a b =
    let m = midpoint cubes base book (pair a b) in
    rw (midpoint_same base book a, midpoint_same base book b, flat_abab a m, flat_abab m b)

pieces_aacc : (base : ℕ) (book : Book) (a c : ℕ) → face_pieces cubes base book (a ∷ a ∷ c ∷ c ∷ []) ≡ []
unfolding face_pieces assemble pieces pick pairs_of
pieces_aacc base book a c =
    let m = midpoint cubes base book (pair a c) in
    rw (midpoint_same base book a, midpoint_same base book c, flat_aacc a m, flat_aacc m c)

-- ── the three flat cubes ──

-- two faces with the same corners and opposite signs, both dropped or both kept
pub opposite_faces :
    (b : Bool) (r p : Parity) (c t : List ℕ)
    → spread (pos 1) (unless b (record { corners = c; parity = times r p }) (unless b (record { corners = c; parity = times (flipped r) p }) [])) t
    ≡ pos 0
unfolding spread
opposite_faces true r p c t = refl
opposite_faces false r p c t = go (same_list c t) r p
  where
    go : (s : Bool) (r p : Parity) → only s (signed (times r p) (pos 1)) +ℤ (only s (signed (times (flipped r) p) (pos 1)) +ℤ pos 0) ≡ pos 0
    go true Even Even = refl
    go true Even Odd = refl
    go true Odd Even = refl
    go true Odd Odd = refl
    go false r p = refl

module _ (p : Parity) (t : List ℕ) where
  flat_04 : (a b c d : ℕ) → spread (pos 1) (pieces SQUARE_AXES p (a ∷ b ∷ c ∷ d ∷ a ∷ b ∷ c ∷ d ∷ []) CUBE_FACES) t ≡ pos 0
  unfolding pieces pick
  flat_04 a b c d =
      rw (flat_abab a b, flat_abab a c, flat_abab b d, flat_abab c d)
      (opposite_faces (flat SQUARE_AXES (a ∷ b ∷ c ∷ d ∷ [])) Odd p (a ∷ b ∷ c ∷ d ∷ []) t)

  flat_02 : (a b e f : ℕ) → spread (pos 1) (pieces SQUARE_AXES p (a ∷ b ∷ a ∷ b ∷ e ∷ f ∷ e ∷ f ∷ []) CUBE_FACES) t ≡ pos 0
  unfolding pieces pick
  flat_02 a b e f =
      rw (flat_abab a b, flat_aacc a e, flat_aacc b f, flat_abab e f)
      (opposite_faces (flat SQUARE_AXES (a ∷ b ∷ e ∷ f ∷ [])) Even p (a ∷ b ∷ e ∷ f ∷ []) t)

  flat_01 : (a c e g : ℕ) → spread (pos 1) (pieces SQUARE_AXES p (a ∷ a ∷ c ∷ c ∷ e ∷ e ∷ g ∷ g ∷ []) CUBE_FACES) t ≡ pos 0
  unfolding pieces pick
  flat_01 a c e g =
      rw (flat_aacc a c, flat_aacc a e, flat_aacc c g, flat_aacc e g)
      (opposite_faces (flat SQUARE_AXES (a ∷ c ∷ e ∷ g ∷ [])) Odd p (a ∷ c ∷ e ∷ g ∷ []) t)

-- ── both kinds ──

-- the edges along each axis of a cube
abbrev AXIS_04 : List Pair
AXIS_04 = pair 0 4 ∷ pair 1 5 ∷ pair 2 6 ∷ pair 3 7 ∷ []

abbrev AXIS_02 : List Pair
AXIS_02 = pair 0 2 ∷ pair 1 3 ∷ pair 4 6 ∷ pair 5 7 ∷ []

abbrev AXIS_01 : List Pair
AXIS_01 = pair 0 1 ∷ pair 2 3 ∷ pair 4 5 ∷ pair 6 7 ∷ []

-- A flat volume adds nothing.
pub flat_volume :
    (kind : Kind) (c : List ℕ) (p : Parity) (t : List ℕ) → length c ≡ (volume_shape kind).count → flat (volume_shape kind).axes c ≡ true
    → spread (pos 1) (pieces (face_shape kind).axes p c (face_table kind)) t ≡ pos 0
unfolding pick
flat_volume simplices c p t l f = not_flat c f
flat_volume cubes c p t l f =
    let s = spelled 8 c l in
    let adds : List ℕ → Type 0 = λ (x : List ℕ). spread (pos 1) (pieces SQUARE_AXES p x CUBE_FACES) t ≡ pos 0 in
    let ends : List Pair → Type 0 = All (λ (e : Pair). point_at c e.first ≡ point_at c e.second) in
    ⊎_elim
    (λ (h : ends AXIS_04).
    subst adds (sym (s ∙ cc (h.0, h.1.0, h.1.1.0, h.1.1.1.0)))
    (flat_04 p t (point_at c 0) (point_at c 1) (point_at c 2) (point_at c 3)))
    (λ f₁. ⊎_elim
    (λ (h : ends AXIS_02).
    subst adds (sym (s ∙ cc (h.0, h.1.0, h.1.1.0, h.1.1.1.0)))
    (flat_02 p t (point_at c 0) (point_at c 1) (point_at c 4) (point_at c 5)))
    (λ f₂. ⊎_elim
    (λ (h : ends AXIS_01).
    subst adds (sym (s ∙ cc (h.0, h.1.0, h.1.1.0, h.1.1.1.0)))
    (flat_01 p t (point_at c 0) (point_at c 2) (point_at c 4) (point_at c 6)))
    (λ f₃. not_flat c f₃)
    (flat_cases AXIS_01 [] c f₂))
    (flat_cases AXIS_02 (AXIS_01 ∷ []) c f₁))
    (flat_cases AXIS_04 (AXIS_02 ∷ AXIS_01 ∷ []) c f)

-- A flat face has no pieces.
pub flat_face :
    (kind : Kind) (base : ℕ) (book : Book) (c : List ℕ) → length c ≡ (face_shape kind).count → flat (face_shape kind).axes c ≡ true
    → face_pieces kind base book c ≡ []
flat_face simplices base book c l f = not_flat c f
flat_face cubes base book c l f =
    ⊎_elim
    (λ e. ap (face_pieces cubes base book) e ∙ pieces_abab base book (point_at c 0) (point_at c 1))
    (λ e. ap (face_pieces cubes base book) e ∙ pieces_aacc base book (point_at c 0) (point_at c 2))
    (flat_square c l f)
