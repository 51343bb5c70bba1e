-- One volume: what its pieces add to the ledger is what the refinement makes of what it adds itself.
-- Both sides are sums over places among its corners and midpoints, and their difference cancels by computation.
-- Assumes nothing.
use mathlib.Core.Path.{◌≡◌, refl, sym, ◌∙◌, ap, ap₂, subst}
use mathlib.Core.Bool.{Bool, true, false, cond}
use mathlib.Core.List.{List, [], ◌∷◌, ◌++◌, map}
use Prim.Native.Nat.{ℕ}
use lib.IntN.{ℤ, pos, ◌+ℤ◌, +ℤ_idl}
use lib.ListN.{length, length-map}
use Rattle.geom.specs.declared.parity.Parity.{Parity}
use Rattle.geom.specs.declared.parity.Parity.TheVariants.{Even}
use Rattle.geom.specs.Parity.{times}
use Rattle.geom.specs.Book.{Kind, cubes, simplices, Pair, Book, midpoint}
use Rattle.geom.specs.Elements.{Element, Row, pick, point_at, pairs_of, flat, unless, pieces, assemble}
use Rattle.geom.specs.Rules.{same, turned}
use Rattle.geom.specs.Ledger.{same_list, signed, spread, face_table, volume_shape, face_shape, faces, face_pieces, ledger}
use Rattle.geom.specs.Between.{All}
use Rattle.geom.proofs.Lists.{spelled}
use Rattle.geom.proofs.Integers.{signed_zero, signed_add, signed_times, signed_swap}
use Rattle.geom.proofs.Spread.{raw, kept, spread_signed}
use Rattle.geom.proofs.Chains.{under, over, within, rows_within, seats, raw_under, strike, cancel, negated, same_sum}
use Rattle.geom.proofs.Flats.{flat_volume, flat_face}
use Rattle.geom.proofs.Refining.{on_each, on_faces}

-- the points of a face's table
abbrev pub face_points : Kind → ℕ → Book → List ℕ → List ℕ
face_points kind base book c =
    pick (c ++ map (midpoint kind base book) (pairs_of c (face_shape kind).edges)) (face_shape kind).points

-- the points of a volume's table
abbrev volume_points : Kind → ℕ → Book → List ℕ → List ℕ
volume_points kind base book c =
    pick (c ++ map (midpoint kind base book) (pairs_of c (volume_shape kind).edges)) (volume_shape kind).points

pub face_pieces_lem :
    (kind : Kind) (base : ℕ) (book : Book) (c : List ℕ)
    → face_pieces kind base book c ≡ pieces (face_shape kind).axes Even (face_points kind base book c) (face_shape kind).table
unfolding face_pieces assemble
face_pieces_lem kind base book c = refl

-- rows of k places
abbrev pub Sized : ℕ → List Row → Type 0
Sized k = All (λ (r : Row). length r.places ≡ k)

pub length_pick : (points row : List ℕ) (k : ℕ) → length row ≡ k → length (pick points row) ≡ k
unfolding pick
length_pick points row k e = length-map row (point_at points) ∙ e

pub either : (b : Bool) → cond b (pos 0) (pos 0) ≡ pos 0
either true = refl
either false = refl

pub both_zero : (b : Bool) (x y : ℤ) → cond b (pos 0) x +ℤ cond b (pos 0) y ≡ cond b (pos 0) (x +ℤ y)
both_zero true x y = refl
both_zero false x y = refl

pub signed_cond : (p : Parity) (b : Bool) (x : ℤ) → signed p (cond b (pos 0) x) ≡ cond b (pos 0) (signed p x)
signed_cond p true x = signed_zero p
signed_cond p false x = refl

-- the sign of a row goes in, that of the element out
signs : (r p : Parity) (x y : ℤ) → signed (times r p) x +ℤ signed p y ≡ signed p (signed r x +ℤ y)
signs r p x y =
    ap (λ (z : ℤ). z +ℤ signed p y) (signed_times r p x ∙ signed_swap r p x) ∙ sym (signed_add p (signed r x) y)

-- ── what the rows of a table add ──

-- an element that may be dropped, where it adds nothing if it is
unless_adds :
    (sum : List Element → ℤ) (x : ℤ) (b : Bool) (e : Element) (es : List Element) → sum (e ∷ es) ≡ x +ℤ sum es → (b ≡ true → x ≡ pos 0)
    → sum (unless b e es) ≡ x +ℤ sum es
unless_adds sum x true e es p h = sym (ap (λ (y : ℤ). y +ℤ sum es) (h refl) ∙ +ℤ_idl (sum es))
unless_adds sum x false e es p h = p

-- A sum over the pieces of a table, some of them dropped, where each piece adds what an inner table adds over its corners, or nothing to a flat list.
module _ (axes : List (List Pair)) (inner : List Row) (b : Bool) (t : List ℕ) (sum : List Element → ℤ) where
  abbrev adding : Element → ℤ
  adding e = cond b (pos 0) (signed e.parity (raw (pos 1) e.corners inner t))

  pub table_adds :
      (k : ℕ) → sum [] ≡ pos 0 → ((e : Element) (es : List Element) → sum (e ∷ es) ≡ adding e +ℤ sum es)
      → ((e : Element) → length e.corners ≡ k → flat axes e.corners ≡ true → adding e ≡ pos 0)
      → (p : Parity) (points : List ℕ) (rows : List Row) → Sized k rows
      → sum (pieces axes p points rows) ≡ cond b (pos 0) (signed p (over (pos 1) points rows inner t))
  unfolding pieces over
  table_adds k zero adds none p points [] s = zero ∙ sym (ap (λ (x : ℤ). cond b (pos 0) x) (signed_zero p) ∙ either b)
  table_adds k zero adds none p points (r ∷ rows) s =
      let c = pick points r.places in
      let e : Element = record { corners = c; parity = times r.parity p } in
      let rest = over (pos 1) points rows inner t in
      unless_adds sum (adding e) (flat axes c) e (pieces axes p points rows) (adds e (pieces axes p points rows)) (none e (length_pick points r.places k s.0))
      ∙ ap (λ (x : ℤ). adding e +ℤ x) (table_adds k zero adds none p points rows s.1)
      ∙ both_zero b (signed (times r.parity p) (raw (pos 1) c inner t)) (signed p rest)
      ∙ ap (λ (x : ℤ). cond b (pos 0) x) (signs r.parity p (raw (pos 1) c inner t) rest)

module _ (kind : Kind) where
  -- the pieces of a volume, flat ones dropped
  pub pieces_add :
      (p : Parity) (points : List ℕ) (rows : List Row) (t : List ℕ) → Sized (volume_shape kind).count rows
      → ledger kind (pieces (volume_shape kind).axes p points rows) t
      ≡ cond (flat (face_shape kind).axes t) (pos 0) (signed p (over (pos 1) points rows (face_table kind) t))
  unfolding ledger faces
  pieces_add p points rows t s =
      let face_axes = (face_shape kind).axes in
      let own : (e : Element) → spread (pos 1) (faces kind e) t ≡ cond (flat face_axes t) (pos 0) (signed e.parity (raw (pos 1) e.corners (face_table kind) t)) =
      λ e. kept face_axes e.parity (pos 1) e.corners (face_table kind) t
      in
      table_adds (volume_shape kind).axes (face_table kind) (flat face_axes t) t (λ es. ledger kind es t) (volume_shape kind).count refl
      (λ e es. ap (λ (x : ℤ). x +ℤ ledger kind es t) (own e))
      (λ e l f. sym (own e) ∙ flat_volume kind e.corners e.parity t l f)
      p points rows s

  module _ (base : ℕ) (book : Book) (corners points : List ℕ) where
    -- the faces' own points stand at these places among the volume's
    abbrev Seated : List Row → List Row → Type 0
    Seated [] [] = Unit {0}
    Seated [] (q ∷ qs) = ⊥
    Seated (r ∷ rows) [] = ⊥
    Seated (r ∷ rows) (q ∷ qs) =
        (r.parity ≡ q.parity) × (face_points kind base book (pick corners r.places) ≡ pick points q.places) × Seated rows qs

    -- the pieces of a volume's faces, flat ones dropped
    faces_add :
        (p : Parity) (rows qs : List Row) (t : List ℕ) → Sized (face_shape kind).count rows → Seated rows qs
        → on_faces kind base book (pos 1) (pieces (face_shape kind).axes p corners rows) t
        ≡ cond (flat (face_shape kind).axes t) (pos 0) (signed p (over (pos 1) points qs (face_shape kind).table t))
    unfolding pieces over on_each spread
    faces_add p [] [] t s h = sym (ap (λ (x : ℤ). cond (flat (face_shape kind).axes t) (pos 0) x) (signed_zero p) ∙ either (flat (face_shape kind).axes t))
    faces_add p [] (q ∷ qs) t s h = absurd h
    faces_add p (r ∷ rows) [] t s h = absurd h
    faces_add p (r ∷ rows) (q ∷ qs) t s h =
        let c = pick corners r.places in
        let b = flat (face_shape kind).axes t in
        let table = (face_shape kind).table in
        unless_adds (λ fs. on_faces kind base book (pos 1) fs t) (spread (signed (times r.parity p) (pos 1)) (face_pieces kind base book c) t)
        (flat (face_shape kind).axes c) (record { corners = c; parity = times r.parity p })
        (pieces (face_shape kind).axes p corners rows) refl
        (λ f. ap (λ (es : List Element). spread (signed (times r.parity p) (pos 1)) es t) (flat_face kind base book c (length_pick corners r.places (face_shape kind).count s.0) f))
        ∙ ap₂ (λ (x y : ℤ). x +ℤ y)
        (spread_signed (times r.parity p) (pos 1) (face_pieces kind base book c) t
        ∙ ap (signed (times r.parity p))
        (ap (λ (es : List Element). spread (pos 1) es t) (face_pieces_lem kind base book c)
        ∙ kept (face_shape kind).axes Even (pos 1) (face_points kind base book c) table t
        ∙ ap (λ (l : List ℕ). cond b (pos 0) (raw (pos 1) l table t)) h.1)
        ∙ signed_cond (times r.parity p) b (raw (pos 1) (pick points q.places) table t)
        ∙ ap (λ (z : Parity). cond b (pos 0) (signed (times z p) (raw (pos 1) (pick points q.places) table t))) h.0)
        (faces_add p rows qs t s.1 h.2)
        ∙ both_zero b (signed (times q.parity p) (raw (pos 1) (pick points q.places) table t)) (signed p (over (pos 1) points qs table t))
        ∙ ap (λ (x : ℤ). cond b (pos 0) x) (signs q.parity p (raw (pos 1) (pick points q.places) table t) (over (pos 1) points qs table t))

-- ── the identity of one volume, by computation ──

-- the places of each face's points among the volume's, with the face's sign
abbrev FACE_POINTS : Kind → List Row
FACE_POINTS simplices =
    same (1 ∷ 2 ∷ 3 ∷ 7 ∷ 8 ∷ 9 ∷ []) ∷
    turned (0 ∷ 2 ∷ 3 ∷ 5 ∷ 6 ∷ 9 ∷ []) ∷
    same (0 ∷ 1 ∷ 3 ∷ 4 ∷ 6 ∷ 8 ∷ []) ∷
    turned (0 ∷ 1 ∷ 2 ∷ 4 ∷ 5 ∷ 7 ∷ []) ∷
    []
FACE_POINTS cubes =
    turned (0 ∷ 1 ∷ 2 ∷ 3 ∷ 8 ∷ 9 ∷ 11 ∷ 13 ∷ 20 ∷ []) ∷
    same (0 ∷ 1 ∷ 4 ∷ 5 ∷ 8 ∷ 10 ∷ 12 ∷ 16 ∷ 21 ∷ []) ∷
    turned (0 ∷ 2 ∷ 4 ∷ 6 ∷ 9 ∷ 10 ∷ 14 ∷ 17 ∷ 22 ∷ []) ∷
    same (1 ∷ 3 ∷ 5 ∷ 7 ∷ 11 ∷ 12 ∷ 15 ∷ 18 ∷ 23 ∷ []) ∷
    turned (2 ∷ 3 ∷ 6 ∷ 7 ∷ 13 ∷ 14 ∷ 15 ∷ 19 ∷ 24 ∷ []) ∷
    same (4 ∷ 5 ∷ 6 ∷ 7 ∷ 16 ∷ 17 ∷ 18 ∷ 19 ∷ 25 ∷ []) ∷
    []

-- The faces of a volume's pieces and the pieces of its faces add the same: what lies inside cancels.
cancels :
    (kind : Kind)
    → cancel (under (volume_shape kind).table (face_table kind) ++ negated (under (FACE_POINTS kind) (face_shape kind).table)) ≡ []
unfolding cancel strike under negated pick same_list
cancels simplices = refl
cancels cubes = refl

pieces_seated : (kind : Kind) → seats (volume_shape kind).table (face_table kind) ≡ true
unfolding seats rows_within within
pieces_seated simplices = refl
pieces_seated cubes = refl

faces_seated : (kind : Kind) → seats (FACE_POINTS kind) (face_shape kind).table ≡ true
unfolding seats rows_within within
faces_seated simplices = refl
faces_seated cubes = refl

-- the tables' rows have their shape's number of places
pub sized_pieces : (kind : Kind) → Sized (volume_shape kind).count (volume_shape kind).table
sized_pieces simplices = (refl, (refl, (refl, (refl, (refl, (refl, (refl, (refl, tt))))))))
sized_pieces cubes = (refl, (refl, (refl, (refl, (refl, (refl, (refl, (refl, tt))))))))

pub sized_faces : (kind : Kind) → Sized (face_shape kind).count (face_table kind)
sized_faces simplices = (refl, (refl, (refl, (refl, tt))))
sized_faces cubes = (refl, (refl, (refl, (refl, (refl, (refl, tt))))))

module _ (base : ℕ) (book : Book) where
  seated_tetrahedron :
      (a b c d : ℕ)
      → let corners = a ∷ b ∷ c ∷ d ∷ [] in Seated simplices base book corners (volume_points simplices base book corners) (face_table simplices) (FACE_POINTS simplices)
  unfolding pick pairs_of
  seated_tetrahedron a b c d = (refl, refl, (refl, refl, (refl, refl, (refl, refl, tt))))

  seated_cube :
      (a b c d e f g h : ℕ)
      → let corners = a ∷ b ∷ c ∷ d ∷ e ∷ f ∷ g ∷ h ∷ [] in Seated cubes base book corners (volume_points cubes base book corners) (face_table cubes) (FACE_POINTS cubes)
  unfolding pick pairs_of
  seated_cube a b c d e f g h = (refl, refl, (refl, refl, (refl, refl, (refl, refl, (refl, refl, (refl, refl, tt))))))

  seated :
      (kind : Kind) (c : List ℕ) → length c ≡ (volume_shape kind).count
      → Seated kind base book c (volume_points kind base book c) (face_table kind) (FACE_POINTS kind)
  unfolding pick
  seated simplices c l =
      subst (λ (x : List ℕ). Seated simplices base book x (volume_points simplices base book x) (face_table simplices) (FACE_POINTS simplices))
      (sym (spelled 4 c l)) (seated_tetrahedron (point_at c 0) (point_at c 1) (point_at c 2) (point_at c 3))
  seated cubes c l =
      subst (λ (x : List ℕ). Seated cubes base book x (volume_points cubes base book x) (face_table cubes) (FACE_POINTS cubes))
      (sym (spelled 8 c l))
      (seated_cube (point_at c 0) (point_at c 1) (point_at c 2) (point_at c 3) (point_at c 4) (point_at c 5) (point_at c 6) (point_at c 7))

  pub cell :
      (kind : Kind) (v : Element) (t : List ℕ) → length v.corners ≡ (volume_shape kind).count
      → ledger kind (assemble (volume_shape kind) v.parity v.corners (map (midpoint kind base book) (pairs_of v.corners (volume_shape kind).edges))) t
      ≡ on_faces kind base book (pos 1) (faces kind v) t
  unfolding assemble faces
  cell kind v t l =
      let points = volume_points kind base book v.corners in
      pieces_add kind v.parity points (volume_shape kind).table t (sized_pieces kind)
      ∙ ap (λ (x : ℤ). cond (flat (face_shape kind).axes t) (pos 0) (signed v.parity x))
      (sym (raw_under (pos 1) points (volume_shape kind).table (face_table kind) t (pieces_seated kind))
      ∙ same_sum (under (volume_shape kind).table (face_table kind)) (under (FACE_POINTS kind) (face_shape kind).table) (cancels kind) (pos 1) points t
      ∙ raw_under (pos 1) points (FACE_POINTS kind) (face_shape kind).table t (faces_seated kind))
      ∙ sym (faces_add kind base book v.corners points v.parity (face_table kind) (FACE_POINTS kind) t (sized_faces kind) (seated kind v.corners l))
