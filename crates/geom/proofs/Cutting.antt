-- Document 02, U8: the ledger of the tetrahedra that cubes are cut into, read without triples that have equal neighbours, is the cubes' ledger with
-- each square replaced by its two triangles, read the same way. One cube is an identity of tables, computed; what the triangulation drops and
-- what the ledger of cubes leaves out read as 0.
-- Assumes nothing.
use mathlib.Core.Path.{◌≡◌, refl, sym, ◌∙◌, ap, ap₂, subst, fun_ext}
use mathlib.Core.Bool.{Bool, true, false, cond, not, ◌&&◌, ◌||◌, or-true}
use mathlib.Core.Logic.{⊎_elim}
use mathlib.Core.List.{List, [], ◌∷◌, ◌++◌, flat_map}
use Prim.Native.Nat.{ℕ}
use native.Mathlib.Omega.{arith}
use lib.Dec.{eqb}
use lib.IntN.{ℤ, pos, ◌+ℤ◌}
use lib.ListN.{length}
use Rattle.geom.specs.declared.parity.Parity.{Parity}
use Rattle.geom.specs.declared.parity.Parity.TheVariants.{Even, Odd}
use Rattle.geom.specs.Book.{cubes, simplices, Pair, pair}
use Rattle.geom.specs.Elements.{Element, Row, pick, point_at, shut, flat, pieces}
use Rattle.geom.specs.Cubes.{SQUARE_AXES}
use Rattle.geom.specs.Ledger.{Ledger, same_list, signed, spread, TETRAHEDRON_FACES, CUBE_FACES, faces, ledger, put, Closed}
use Rattle.geom.specs.Triangulation.{TRI_ASSEMBLY_ORDER, TETRA_ASSEMBLY_ORDER, TETRA_NEIGHBOURS, triangulate_cube}
use Rattle.geom.specs.Refusals.{every}
use Rattle.geom.specs.Between.{All, IsVolume}
use Rattle.geom.specs.Cutting.{UNREAD, read, triangles, replaced, LedgerCut, among, different, Different}
use Rattle.geom.proofs.Lists.{all_append, eqb_same, and_true_left, and_true_right, spelled}
use Rattle.geom.proofs.Integers.{signed_zero}
use Rattle.geom.proofs.Spread.{raw, kept, spread_signed, ledger_append}
use Rattle.geom.proofs.Chains.{under, over, within, rows_within, seats, raw_under, strike, cancel, negated, same_sum}
use Rattle.geom.proofs.Refining.{put_add, put_zero, on_each, put_faces}
use Rattle.geom.proofs.Flats.{opposite_faces, flat_cases, not_flat, flat_square}
use Rattle.geom.proofs.Cells.{Sized, either, both_zero, signed_cond, table_adds, sized_faces}
use Rattle.geom.proofs.Well.{some_below, pieces_proper}
use Rattle.geom.proofs.Steps.{faces_fit}
use Rattle.geom.proofs.Closing.{ledger_support}

-- ── reading ──

read_add : (l m : Ledger) (t : List ℕ) → read (λ (c : List ℕ). l c +ℤ m c) t ≡ read l t +ℤ read m t
unfolding read
read_add l m t = sym (both_zero (flat UNREAD t) (l t) (m t))

read_zero : (t : List ℕ) → read (λ (c : List ℕ). pos 0) t ≡ pos 0
unfolding read
read_zero t = either (flat UNREAD t)

-- what a table adds, as it is read
abbrev read_raw : Parity → List ℕ → List Row → List ℕ → ℤ
read_raw p points rows t = cond (flat UNREAD t) (pos 0) (signed p (raw (pos 1) points rows t))

read_pieces : (p : Parity) (points : List ℕ) (rows : List Row) (t : List ℕ) → read (spread (pos 1) (pieces [] p points rows)) t ≡ read_raw p points rows t
unfolding read flat
read_pieces p points rows t = ap (λ (x : ℤ). cond (flat UNREAD t) (pos 0) x) (kept [] p (pos 1) points rows t)

-- ── equal neighbours ──

flat_aab : (a b : ℕ) → flat UNREAD (a ∷ a ∷ b ∷ []) ≡ true
unfolding flat shut
flat_aab a b = rw (eqb_same a)

flat_abb : (a b : ℕ) → flat UNREAD (a ∷ b ∷ b ∷ []) ≡ true
unfolding flat shut
flat_abb a b = rw (eqb_same b) (or-true (eqb a b && true))

-- the faces of a tetrahedron that has equal neighbours: two have equal neighbours themselves, and two are opposite
module _ (p : Parity) (t : List ℕ) where
  drop_01 : (a c d : ℕ) → spread (pos 1) (pieces UNREAD p (a ∷ a ∷ c ∷ d ∷ []) TETRAHEDRON_FACES) t ≡ pos 0
  unfolding pieces pick
  drop_01 a c d =
      rw (flat_aab a d, flat_aab a c) (opposite_faces (flat UNREAD (a ∷ c ∷ d ∷ [])) Even p (a ∷ c ∷ d ∷ []) t)

  drop_12 : (a b d : ℕ) → spread (pos 1) (pieces UNREAD p (a ∷ b ∷ b ∷ d ∷ []) TETRAHEDRON_FACES) t ≡ pos 0
  unfolding pieces pick
  drop_12 a b d =
      rw (flat_aab b d, flat_abb a b) (opposite_faces (flat UNREAD (a ∷ b ∷ d ∷ [])) Odd p (a ∷ b ∷ d ∷ []) t)

  drop_23 : (a b c : ℕ) → spread (pos 1) (pieces UNREAD p (a ∷ b ∷ c ∷ c ∷ []) TETRAHEDRON_FACES) t ≡ pos 0
  unfolding pieces pick
  drop_23 a b c =
      rw (flat_abb b c, flat_abb a c) (opposite_faces (flat UNREAD (a ∷ b ∷ c ∷ [])) Even p (a ∷ b ∷ c ∷ []) t)

-- a tetrahedron that is dropped reads as 0
dropped : (c : List ℕ) (p : Parity) (t : List ℕ) → length c ≡ 4 → flat TETRA_NEIGHBOURS c ≡ true → read_raw p c TETRAHEDRON_FACES t ≡ pos 0
unfolding pick
dropped c p t l f =
    let s = spelled 4 c l in
    let adds : List ℕ → Type 0 = λ (x : List ℕ). spread (pos 1) (pieces UNREAD p x TETRAHEDRON_FACES) t ≡ pos 0 in
    let ends : List Pair → Type 0 = All (λ (e : Pair). point_at c e.first ≡ point_at c e.second) in
    sym (kept UNREAD p (pos 1) c TETRAHEDRON_FACES t)
    ∙ ⊎_elim
    (λ (h : ends (pair 0 1 ∷ [])). subst adds (sym (s ∙ cc h.0)) (drop_01 p t (point_at c 0) (point_at c 2) (point_at c 3)))
    (λ f₁. ⊎_elim
    (λ (h : ends (pair 1 2 ∷ [])). subst adds (sym (s ∙ cc h.0)) (drop_12 p t (point_at c 0) (point_at c 1) (point_at c 3)))
    (λ f₂. ⊎_elim
    (λ (h : ends (pair 2 3 ∷ [])). subst adds (sym (s ∙ cc h.0)) (drop_23 p t (point_at c 0) (point_at c 1) (point_at c 2)))
    (λ f₃. not_flat c f₃)
    (flat_cases (pair 2 3 ∷ []) [] c f₂))
    (flat_cases (pair 1 2 ∷ []) ((pair 2 3 ∷ []) ∷ []) c f₁))
    (flat_cases (pair 0 1 ∷ []) ((pair 1 2 ∷ []) ∷ (pair 2 3 ∷ []) ∷ []) c f)

-- the two triangles of a flat square have equal neighbours
triangles_abab : (a b : ℕ) → pieces UNREAD Even (a ∷ b ∷ a ∷ b ∷ []) TRI_ASSEMBLY_ORDER ≡ []
unfolding pieces pick
triangles_abab a b = rw (flat_abb a b, flat_aab a b)

triangles_aacc : (a c : ℕ) → pieces UNREAD Even (a ∷ a ∷ c ∷ c ∷ []) TRI_ASSEMBLY_ORDER ≡ []
unfolding pieces pick
triangles_aacc a c = rw (flat_aab a c, flat_abb a c)

flat_triangles : (c : List ℕ) → length c ≡ 4 → flat SQUARE_AXES c ≡ true → pieces UNREAD Even c TRI_ASSEMBLY_ORDER ≡ []
flat_triangles c l f =
    ⊎_elim
    (λ e. ap (λ (x : List ℕ). pieces UNREAD Even x TRI_ASSEMBLY_ORDER) e ∙ triangles_abab (point_at c 0) (point_at c 1))
    (λ e. ap (λ (x : List ℕ). pieces UNREAD Even x TRI_ASSEMBLY_ORDER) e ∙ triangles_aacc (point_at c 0) (point_at c 2))
    (flat_square c l f)

-- so a flat square, which the ledger of cubes leaves out, reads as 0
left_out : (c : List ℕ) (q : Parity) (t : List ℕ) → length c ≡ 4 → flat SQUARE_AXES c ≡ true → read_raw q c TRI_ASSEMBLY_ORDER t ≡ pos 0
unfolding spread
left_out c q t l f =
    sym (signed_cond q (flat UNREAD t) (raw (pos 1) c TRI_ASSEMBLY_ORDER t))
    ∙ ap (signed q)
    (sym (kept UNREAD Even (pos 1) c TRI_ASSEMBLY_ORDER t) ∙ ap (λ (es : List Element). spread (pos 1) es t) (flat_triangles c l f))
    ∙ signed_zero q

-- ── one cube ──

-- the tetrahedra of a table, as they are read
tetrahedra_add :
    (p : Parity) (points : List ℕ) (rows : List Row) (t : List ℕ) → Sized 4 rows
    → read (ledger simplices (pieces TETRA_NEIGHBOURS p points rows)) t
    ≡ cond (flat UNREAD t) (pos 0) (signed p (over (pos 1) points rows TETRAHEDRON_FACES t))
unfolding ledger faces
tetrahedra_add p points rows t s =
    table_adds TETRA_NEIGHBOURS TETRAHEDRON_FACES (flat UNREAD t) t (λ es. read (ledger simplices es) t) 4 (read_zero t)
    (λ e es. read_add (spread (pos 1) (faces simplices e)) (ledger simplices es) t
    ∙ ap (λ (x : ℤ). x +ℤ read (ledger simplices es) t) (read_pieces e.parity e.corners TETRAHEDRON_FACES t))
    (λ e l f. dropped e.corners e.parity t l f)
    p points rows s

-- the triangles of one square, as they are read
read_triangles : (q : Parity) (c t : List ℕ) → read (spread (signed q (pos 1)) (triangles c)) t ≡ read_raw q c TRI_ASSEMBLY_ORDER t
unfolding read triangles flat pieces
read_triangles q c t =
    ap (λ (x : ℤ). cond (flat UNREAD t) (pos 0) x)
    (spread_signed q (pos 1) (triangles c) t ∙ ap (signed q) (kept [] Even (pos 1) c TRI_ASSEMBLY_ORDER t))

-- the squares of a table, as their triangles are read
squares_add :
    (p : Parity) (corners : List ℕ) (rows : List Row) (t : List ℕ) → Sized 4 rows
    → read (on_each triangles (pos 1) (pieces SQUARE_AXES p corners rows)) t
    ≡ cond (flat UNREAD t) (pos 0) (signed p (over (pos 1) corners rows TRI_ASSEMBLY_ORDER t))
unfolding on_each
squares_add p corners rows t s =
    table_adds SQUARE_AXES TRI_ASSEMBLY_ORDER (flat UNREAD t) t (λ fs. read (on_each triangles (pos 1) fs) t) 4 (read_zero t)
    (λ f fs. read_add (spread (signed f.parity (pos 1)) (triangles f.corners)) (on_each triangles (pos 1) fs) t
    ∙ ap (λ (x : ℤ). x +ℤ read (on_each triangles (pos 1) fs) t) (read_triangles f.parity f.corners t))
    (λ f l e. left_out f.corners f.parity t l e)
    p corners rows s

-- The faces of a cube's six tetrahedra and the triangles of its six squares add the same: what lies inside cancels.
cut_cancels : cancel (under TETRA_ASSEMBLY_ORDER TETRAHEDRON_FACES ++ negated (under CUBE_FACES TRI_ASSEMBLY_ORDER)) ≡ []
unfolding cancel strike under negated pick same_list
cut_cancels = refl

tetrahedra_seated : seats TETRA_ASSEMBLY_ORDER TETRAHEDRON_FACES ≡ true
unfolding seats rows_within within
tetrahedra_seated = refl

squares_seated : seats CUBE_FACES TRI_ASSEMBLY_ORDER ≡ true
unfolding seats rows_within within
squares_seated = refl

sized_tetrahedra : Sized 4 TETRA_ASSEMBLY_ORDER
sized_tetrahedra = (refl, (refl, (refl, (refl, (refl, (refl, tt))))))

one_cube : (v : Element) (t : List ℕ) → read (ledger simplices (triangulate_cube v)) t ≡ read (on_each triangles (pos 1) (faces cubes v)) t
unfolding triangulate_cube faces
one_cube v t =
    let c = v.corners in
    tetrahedra_add v.parity c TETRA_ASSEMBLY_ORDER t sized_tetrahedra
    ∙ ap (λ (x : ℤ). cond (flat UNREAD t) (pos 0) (signed v.parity x))
    (sym (raw_under (pos 1) c TETRA_ASSEMBLY_ORDER TETRAHEDRON_FACES t tetrahedra_seated)
    ∙ same_sum (under TETRA_ASSEMBLY_ORDER TETRAHEDRON_FACES) (under CUBE_FACES TRI_ASSEMBLY_ORDER) cut_cancels (pos 1) c t
    ∙ raw_under (pos 1) c CUBE_FACES TRI_ASSEMBLY_ORDER t squares_seated)
    ∙ sym (squares_add v.parity c CUBE_FACES t (sized_faces cubes))

-- what cubes are cut into are tetrahedra of the same vertices
pub cut_proper : (n : ℕ) (vs : List Element) → All (IsVolume cubes n) vs → All (IsVolume simplices n) (flat_map triangulate_cube vs)
unfolding flat_map triangulate_cube
cut_proper n [] a = tt
cut_proper n (v ∷ vs) a =
    all_append (IsVolume simplices n) (triangulate_cube v) (flat_map triangulate_cube vs)
    (pieces_proper n 4 TETRA_NEIGHBOURS v.parity v.corners TETRA_ASSEMBLY_ORDER (some_below (omega arith) a.0) a.0.below sized_tetrahedra)
    (cut_proper n vs a.1)

-- ── the claims ──

-- 1. The identity, for any cubes of eight vertices below n, degenerate or not.
pub cut_ledger : (n : ℕ) (vs : List Element) → All (IsVolume cubes n) vs → LedgerCut n vs (flat_map triangulate_cube vs)
unfolding flat_map ledger replaced read
cut_ledger n [] a t = ap (λ (x : ℤ). cond (flat UNREAD t) (pos 0) x) (sym (put_zero n 4 triangles t))
cut_ledger n (v ∷ vs) a t =
    let s = spread (pos 1) (faces cubes v) in
    ap (λ (x : ℤ). cond (flat UNREAD t) (pos 0) x) (ledger_append simplices (triangulate_cube v) (flat_map triangulate_cube vs) t)
    ∙ read_add (ledger simplices (triangulate_cube v)) (ledger simplices (flat_map triangulate_cube vs)) t
    ∙ ap₂ (λ (x y : ℤ). x +ℤ y)
    (one_cube v t
    ∙ ap (λ (x : ℤ). cond (flat UNREAD t) (pos 0) x)
    (sym (put_faces n 4 triangles (pos 1) (faces cubes v) t (faces_fit cubes n n v (omega arith) a.0))))
    (cut_ledger n vs a.1 t)
    ∙ sym (read_add (put n 4 triangles s) (put n 4 triangles (ledger cubes vs)) t)
    ∙ ap (λ (x : ℤ). cond (flat UNREAD t) (pos 0) x) (sym (put_add n 4 triangles s (ledger cubes vs) t))

-- 2. Cubes that close give tetrahedra that close in that reading.
pub cut_closes : (n : ℕ) (vs ts : List Element) → LedgerCut n vs ts → Closed (ledger cubes vs) → Closed (read (ledger simplices ts))
unfolding Closed read replaced
cut_closes n vs ts same closed t =
    same t
    ∙ ap (λ (l : Ledger). cond (flat UNREAD t) (pos 0) (put n 4 triangles l t)) (fun_ext closed)
    ∙ ap (λ (x : ℤ). cond (flat UNREAD t) (pos 0) x) (put_zero n 4 triangles t)
    ∙ either (flat UNREAD t)

-- ── four different corners ──

or_false : (x y : Bool) → not (x || y) ≡ true → (x ≡ false) × (not y ≡ true)
or_false true y e = let z : ◌≡◌ {A = ℕ} 0 1 = cc in absurd (omega arith)
or_false false y e = (refl, e)

-- no face of four different corners has equal neighbours
abbrev Unlike : List Element → Type 0
Unlike = All (λ (f : Element). flat UNREAD f.corners ≡ false)

unlike : (p : Parity) (a b c d : ℕ) → different (a ∷ b ∷ c ∷ d ∷ []) ≡ true → Unlike (pieces [] p (a ∷ b ∷ c ∷ d ∷ []) TETRAHEDRON_FACES)
unfolding different among pieces pick flat shut
unlike p a b c d h =
    let xa = not (eqb a b || (eqb a c || (eqb a d || false))) in
    let xb = not (eqb b c || (eqb b d || false)) in
    let xc = not (eqb c d || false) in
    let ha = and_true_left xa (xb && (xc && true)) h in
    let hb = and_true_left xb (xc && true) (and_true_right xa (xb && (xc && true)) h) in
    let hc = and_true_left xc true (and_true_right xb (xc && true) (and_true_right xa (xb && (xc && true)) h)) in
    let ab = or_false (eqb a b) (eqb a c || (eqb a d || false)) ha in
    let ac = or_false (eqb a c) (eqb a d || false) ab.1 in
    let bc = or_false (eqb b c) (eqb b d || false) hb in
    let bd = or_false (eqb b d) false bc.1 in
    let cd = or_false (eqb c d) false hc in
    (rw (bc.0, cd.0), (rw (ac.0, cd.0), (rw (ab.0, bd.0), (rw (ab.0, bc.0), tt))))

faces_unlike :
    (n : ℕ) (vs : List Element) → All (IsVolume simplices n) vs → Different vs → All (λ (v : Element). Unlike (faces simplices v)) vs
unfolding faces pick every
faces_unlike n [] a h = tt
faces_unlike n (v ∷ vs) a h =
    let c = v.corners in
    let rest = every (λ (v : Element). different v.corners) vs in
    let own = and_true_left (different c) rest h in
    let s = spelled 4 c a.0.long in (
      subst (λ (x : List ℕ). Unlike (pieces [] v.parity x TETRAHEDRON_FACES)) (sym s)
          (unlike v.parity (point_at c 0) (point_at c 1) (point_at c 2) (point_at c 3) (subst (λ (x : List ℕ). different x ≡ true) s own)),
      faces_unlike n vs a.1 (and_true_right (different c) rest h),
    )

-- 3. Where every tetrahedron has four different corners, closed as it is read is closed.
pub read_closes :
    (n : ℕ) (vs : List Element) → All (IsVolume simplices n) vs → Different vs → Closed (read (ledger simplices vs)) → Closed (ledger simplices vs)
unfolding Closed read
read_closes n vs a h closed t =
    ⊎_elim
    (λ (e : flat UNREAD t ≡ false). ap (λ (b : Bool). cond b (pos 0) (ledger simplices vs t)) (sym e) ∙ closed t)
    (λ z. z)
    (ledger_support simplices (λ (x : List ℕ). flat UNREAD x ≡ false) vs t (faces_unlike n vs a h))

-- ── for the sceptical reader: what a square is replaced by, and which triples are not read ──

pub two_triangles :
    (a b c d : ℕ)
    → triangles (a ∷ b ∷ c ∷ d ∷ []) ≡ record { corners = a ∷ b ∷ d ∷ []; parity = Even } ∷ record { corners = a ∷ c ∷ d ∷ []; parity = Odd } ∷ []
unfolding triangles pick
two_triangles a b c d = refl

pub not_read : (l : Ledger) (x y z : ℕ) → read l (x ∷ y ∷ z ∷ []) ≡ cond (eqb x y || eqb y z) (pos 0) (l (x ∷ y ∷ z ∷ []))
unfolding read flat shut
not_read l x y z = go (eqb x y) (eqb y z)
  where
    go : (b c : Bool) → cond ((b && true) || ((c && true) || false)) (pos 0) (l (x ∷ y ∷ z ∷ [])) ≡ cond (b || c) (pos 0) (l (x ∷ y ∷ z ∷ []))
    go true c = refl
    go false true = refl
    go false false = refl
