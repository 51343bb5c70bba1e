-- Closed before and closed after a pass. A list has an entry other than 0 only if it is a face of some volume, and then its midpoints are
-- in the book after the pass; so the refined ledger shows every entry, each at its face's corner piece.
-- Assumes nothing.
use mathlib.Core.Path.{◌≡◌, refl, sym, ◌∙◌, ap, ap₂, subst, fun_ext}
use mathlib.Core.Bool.{Bool, true, false, ◌&&◌, ◌||◌}
use mathlib.Core.Logic.{◌⊎◌, inl, inr, ⊎_elim}
use mathlib.Core.List.{List, [], ◌∷◌}
use Prim.Native.Nat.{ℕ, zero, suc, ◌+◌, ◌<◌, ◌≤◌}
use native.Mathlib.Omega.{arith}
use lib.Dec.{ltb}
use lib.IntN.{ℤ, pos, ◌+ℤ◌}
use lib.ListN.{length}
use Rattle.geom.specs.declared.parity.Parity.{Parity}
use Rattle.geom.specs.Parity.{times}
use Rattle.geom.specs.Book.{Kind, cubes, simplices, Pair, pair, same_pair, Book, each}
use Rattle.geom.specs.Elements.{Element, Row, Lists, point_at, pick, pairs_of, flat, pieces}
use Rattle.geom.specs.Rules.{Went, pass_by}
use Rattle.geom.specs.Passes.{pass, passes}
use Rattle.geom.specs.Ledger.{Ledger, same_list, signed, spread, face_table, volume_shape, face_shape, faces, ledger, refine, Closed}
use Rattle.geom.specs.Between.{area_rule, volume_rule, All, Below, IsVolume, Well, Good}
use Rattle.geom.proofs.Lists.{all_under_map, below_number, and_true_left, and_true_right, same_list_lem}
use Rattle.geom.proofs.Spread.{only}
use Rattle.geom.proofs.Chains.{at_map}
use Rattle.geom.proofs.Books.{Known, same_pair_lem, Grown, grown_trans}
use Rattle.geom.proofs.Refining.{refine_zero}
use Rattle.geom.proofs.Cells.{Sized, length_pick, sized_faces}
use Rattle.geom.proofs.Well.{all_kept, grown_volumes, volume_over, below_more, some_below, pick_below, some_volume, pass_is, after_areas, after_curves, curves_grow, pass_longer, pass_good}
use Rattle.geom.proofs.Steps.{pass_adds, passes_good}
use Rattle.geom.proofs.Corners.{Entry, corner, refine_corner}

-- ── where a ledger can have an entry ──

spread_support :
    (P : List ℕ → Type 0) (z : ℤ) (fs : List Element) (t : List ℕ) → All (λ (f : Element). P f.corners) fs
    → P t ⊎ (spread z fs t ≡ pos 0)
unfolding spread
spread_support P z [] t a = inr refl
spread_support P z (f ∷ fs) t a = go (same_list f.corners t) refl (spread_support P z fs t a.1)
  where
    go :
        (s : Bool) → same_list f.corners t ≡ s → P t ⊎ (spread z fs t ≡ pos 0)
        → P t ⊎ (only s (signed f.parity z) +ℤ spread z fs t ≡ pos 0)
    go true e r = inl (subst P (same_list_lem f.corners t e) a.0)
    go false e r = ⊎_elim (λ p. inl p) (λ q. inr (ap (λ (x : ℤ). pos 0 +ℤ x) q)) r

-- A list is of the sort that all faces of the volumes are, or its entry is 0.
pub ledger_support :
    (kind : Kind) (P : List ℕ → Type 0) (vs : List Element) (t : List ℕ)
    → All (λ (v : Element). All (λ (f : Element). P f.corners) (faces kind v)) vs → P t ⊎ (ledger kind vs t ≡ pos 0)
unfolding ledger
ledger_support kind P [] t a = inr refl
ledger_support kind P (v ∷ vs) t a =
    ⊎_elim (λ p. inl p)
    (λ e. ⊎_elim (λ p. inl p) (λ f. inr (ap₂ (λ (x y : ℤ). x +ℤ y) e f)) (ledger_support kind P vs t a.1))
    (spread_support P (pos 1) (faces kind v) t a.0)

-- ── a face's edges are edges of its volume ──

has : Pair → List Pair → Bool
has e [] = false
has e (x ∷ xs) = same_pair x e || has e xs

-- the edges of a face at these places are among the volume's
covered : List ℕ → List Pair → List Pair → Bool
covered places [] edges = true
covered places (e ∷ es) edges =
    (ltb e.first (length places) && ltb e.second (length places))
    && (has (pair (point_at places e.first) (point_at places e.second)) edges && covered places es edges)

covered_rows : List Row → List Pair → List Pair → Bool
covered_rows [] es edges = true
covered_rows (r ∷ rows) es edges = covered r.places es edges && covered_rows rows es edges

has_all : (K : Pair → Type 0) (e : Pair) (edges : List Pair) → has e edges ≡ true → All K edges → K e
unfolding has
has_all K e [] h a = let z : ◌≡◌ {A = ℕ} 0 1 = cc in absurd (omega arith)
has_all K e (x ∷ edges) h a = go (same_pair x e) refl h (has_all K e edges)
  where
    go : (s : Bool) → same_pair x e ≡ s → (s || has e edges) ≡ true → (has e edges ≡ true → All K edges → K e) → K e
    go true p q ih = subst K (same_pair_lem x e p) a.0
    go false p q ih = ih q a.1

covered_all :
    (K : Pair → Type 0) (c places : List ℕ) (es edges : List Pair) → covered places es edges ≡ true → All K (pairs_of c edges)
    → All K (pairs_of (pick c places) es)
unfolding covered pairs_of pick
covered_all K c places [] edges h a = tt
covered_all K c places (e ∷ es) edges h a =
    let x = ltb e.first (length places) in
    let y = ltb e.second (length places) in
    let q = pair (point_at places e.first) (point_at places e.second) in
    let l = and_true_left (x && y) (has q edges && covered places es edges) h in
    let r = and_true_right (x && y) (has q edges && covered places es edges) h in
    let at : Pair → Pair = λ (p : Pair). pair (point_at c p.first) (point_at c p.second) in (
      subst K
          (ap₂ pair
          (sym (at_map c places e.first (below_number e.first (length places) (and_true_left x y l))))
          (sym (at_map c places e.second (below_number e.second (length places) (and_true_right x y l)))))
          (has_all (λ (p : Pair). K (at p)) q edges (and_true_left (has q edges) (covered places es edges) r) (all_under_map K at edges a)),
      covered_all K c places es edges (and_true_right (has q edges) (covered places es edges) r) a,
    )

faces_covered : (kind : Kind) → covered_rows (face_table kind) (face_shape kind).edges (volume_shape kind).edges ≡ true
unfolding covered_rows covered has
faces_covered simplices = refl
faces_covered cubes = refl

-- ── the faces of the volumes have their midpoints in the book after the pass ──

module _
    (kind : Kind)
    (base : ℕ)
    (later : Book)
    (c : List ℕ)
    (p : Parity)
    (some : zero < base + length later)
    (below : Below (base + length later) c)
    (knows : All (Known kind base later) (pairs_of c (volume_shape kind).edges))
  where
    faces_enter :
        (rows : List Row) → Sized (face_shape kind).count rows → covered_rows rows (face_shape kind).edges (volume_shape kind).edges ≡ true
        → All (λ (f : Element). Entry kind base later f.corners) (pieces (face_shape kind).axes p c rows)
    unfolding pieces covered_rows
    faces_enter [] s h = tt
    faces_enter (r ∷ rows) s h =
        let places = r.places in
        let x = covered places (face_shape kind).edges (volume_shape kind).edges in
        let y = covered_rows rows (face_shape kind).edges (volume_shape kind).edges in
        all_kept (λ (f : Element). Entry kind base later f.corners) (flat (face_shape kind).axes (pick c places))
        (record { corners = pick c places; parity = times r.parity p })
        (pieces (face_shape kind).axes p c rows)
        (λ e. record {
          fits = record { long = length_pick c places (face_shape kind).count s.0; below = pick_below (base + length later) c places some below };
          knows = covered_all (Known kind base later) c places (face_shape kind).edges (volume_shape kind).edges (and_true_left x y h) knows;
          full = e;
        })
        (faces_enter rows s.1 (and_true_right x y h))

volumes_enter :
    (kind : Kind) (base m : ℕ) (later : Book) → m ≤ base + length later → (vs : List Element) → All (IsVolume kind m) vs
    → (book : Book) → Grown base m (each (volume_rule kind base) book vs).book later
    → All (λ (v : Element). All (λ (f : Element). Entry kind base later f.corners) (faces kind v)) vs
unfolding each faces
volumes_enter kind base m later h [] a book g = tt
volumes_enter kind base m later h (v ∷ vs) a book g =
    let next = (volume_rule kind base book v).book in
    let rest = grown_volumes kind base m vs a.1 next in
    let z : zero < m = some_below (some_volume kind) a.0 in (
      faces_enter kind base later v.corners v.parity (omega arith) (below_more h v.corners a.0.below)
          (volume_over kind base m later book v a.0 (grown_trans rest g)).knows
          (face_table kind) (sized_faces kind) (faces_covered kind),
      volumes_enter kind base m later h vs a.1 next g,
    )

pass_enters :
    (kind : Kind) (base : ℕ) (w : Went) → Good kind base w
    → All (λ (v : Element). All (λ (f : Element). Entry kind base (pass kind base w).book f.corners) (faces kind v)) w.lists.volumes
unfolding pass_by
pass_enters kind base w good =
    subst (λ (x : Went). All (λ (v : Element). All (λ (f : Element). Entry kind base x.book f.corners) (faces kind v)) w.lists.volumes)
    (sym (pass_is kind base w)) by_rules
  where
    by_rules :
        All (λ (v : Element). All (λ (f : Element). Entry kind base (pass_by kind (area_rule kind) (volume_rule kind) base w).book f.corners) (faces kind v)) w.lists.volumes
    by_rules =
        volumes_enter kind base (base + length w.book) (after_curves kind base w).book (pass_longer kind base w good)
        w.lists.volumes good.well.volumes (after_areas kind base w).book (curves_grow kind base w good)

-- Every list with an entry other than 0 is a face whose midpoints are in the book after the pass.
pub entry_or_zero :
    (kind : Kind) (base : ℕ) (w : Went) → Good kind base w → (t : List ℕ)
    → Entry kind base (pass kind base w).book t ⊎ (ledger kind w.lists.volumes t ≡ pos 0)
entry_or_zero kind base w good t =
    ledger_support kind (Entry kind base (pass kind base w).book) w.lists.volumes t (pass_enters kind base w good)

-- ── closed ──

pass_closes :
    (kind : Kind) (base : ℕ) (w : Went) → Good kind base w → Closed (ledger kind w.lists.volumes)
    → Closed (ledger kind (pass kind base w).lists.volumes)
unfolding Closed
pass_closes kind base w good closed t =
    pass_adds kind base w good t
    ∙ ap (λ (l : Ledger). refine kind base (pass kind base w).book l t) (fun_ext closed)
    ∙ refine_zero kind base (pass kind base w).book t

pass_opens :
    (kind : Kind) (base : ℕ) (w : Went) → Good kind base w → Closed (ledger kind (pass kind base w).lists.volumes)
    → Closed (ledger kind w.lists.volumes)
unfolding Closed
pass_opens kind base w good closed t =
    let later = (pass kind base w).book in
    ⊎_elim
    (λ e.
    sym (refine_corner kind base later (pass_good kind base w good).rising t e (ledger kind w.lists.volumes))
    ∙ sym (pass_adds kind base w good (corner kind base later t))
    ∙ closed (corner kind base later t))
    (λ z. z)
    (entry_or_zero kind base w good t)

pub passes_close :
    (kind : Kind) (base : ℕ) (lists : Lists) → Well kind base lists → (n : ℕ) → Closed (ledger kind lists.volumes)
    → Closed (ledger kind (passes kind base lists n).lists.volumes)
unfolding passes
passes_close kind base lists well zero closed = closed
passes_close kind base lists well (suc n) closed =
    pass_closes kind base (passes kind base lists n) (passes_good kind base lists well n) (passes_close kind base lists well n closed)

pub passes_open :
    (kind : Kind) (base : ℕ) (lists : Lists) → Well kind base lists → (n : ℕ)
    → Closed (ledger kind (passes kind base lists n).lists.volumes) → Closed (ledger kind lists.volumes)
unfolding passes
passes_open kind base lists well zero closed = closed
passes_open kind base lists well (suc n) closed =
    passes_open kind base lists well n (pass_opens kind base (passes kind base lists n) (passes_good kind base lists well n) closed)
