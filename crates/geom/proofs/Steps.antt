-- One pass and the ledger: the ledger of the volumes after a pass is the ledger before, refined over the book after the pass.
-- Then any number of passes.
-- Assumes nothing.
use mathlib.Core.Path.{◌≡◌, refl, sym, ◌∙◌, ap, ap₂, subst, fun_ext}
use mathlib.Core.List.{List, [], ◌∷◌}
use Prim.Native.Nat.{ℕ, zero, suc, ◌+◌, ◌<◌, ◌≤◌}
use native.Mathlib.Omega.{arith}
use lib.IntN.{ℤ, pos, ◌+ℤ◌}
use lib.ListN.{length}
use Rattle.geom.specs.Book.{Kind, Book, each}
use Rattle.geom.specs.Elements.{Element, Lists, pairs_of, assemble}
use Rattle.geom.specs.Rules.{divide, Went, pass_by}
use Rattle.geom.specs.Passes.{pass, passes}
use Rattle.geom.specs.Ledger.{Ledger, spread, face_table, volume_shape, face_shape, faces, ledger, refine, refined}
use Rattle.geom.specs.Between.{area_rule, volume_rule, All, IsArea, IsVolume, Well, Good}
use Rattle.geom.proofs.Books.{Grown, grown_trans}
use Rattle.geom.proofs.Spread.{ledger_append}
use Rattle.geom.proofs.Refining.{refine_add, refine_zero, refine_faces}
use Rattle.geom.proofs.Cells.{sized_faces, cell}
use Rattle.geom.proofs.Well.{grown_volumes, volume_over, below_more, some_below, pieces_proper, some_volume, pass_is, after_curves, curves_grow, pass_longer, pass_good}

-- the faces of a volume of vertices are lists that the refinement sums over
pub faces_fit :
    (kind : Kind) (n m : ℕ) (v : Element) → m ≤ n → IsVolume kind m v
    → All (IsArea kind n) (faces kind v)
unfolding faces
faces_fit kind n m v h f =
    let z : zero < m = some_below (some_volume kind) f in
    pieces_proper n (face_shape kind).count (face_shape kind).axes v.parity v.corners (face_table kind) (omega arith)
    (below_more h v.corners f.below) (sized_faces kind)

-- one volume
volume_adds :
    (kind : Kind) (base m : ℕ) (later book : Book) (v : Element) (t : List ℕ) → m ≤ base + length later
    → IsVolume kind m v → Grown base m (volume_rule kind base book v).book later
    → ledger kind (volume_rule kind base book v).made t ≡ refine kind base later (spread (pos 1) (faces kind v)) t
unfolding divide
volume_adds kind base m later book v t h f g =
    let qs = pairs_of v.corners (volume_shape kind).edges in
    ap (λ (l : List ℕ). ledger kind (assemble (volume_shape kind) v.parity v.corners l) t)
    (volume_over kind base m later book v f g).are
    ∙ cell base later kind v t f.long
    ∙ sym (refine_faces kind base later (pos 1) (faces kind v) t (faces_fit kind (base + length later) m v h f))

volumes_add :
    (kind : Kind) (base m : ℕ) (later : Book) → m ≤ base + length later → (vs : List Element) → All (IsVolume kind m) vs
    → (book : Book) → Grown base m (each (volume_rule kind base) book vs).book later → (t : List ℕ)
    → ledger kind (each (volume_rule kind base) book vs).made t ≡ refine kind base later (ledger kind vs) t
unfolding each ledger
volumes_add kind base m later h [] a book g t = sym (refine_zero kind base later t)
volumes_add kind base m later h (v ∷ vs) a book g t =
    let made = volume_rule kind base book v in
    let rest = each (volume_rule kind base) made.book vs in
    ledger_append kind made.made rest.made t
    ∙ ap₂ (λ (x y : ℤ). x +ℤ y)
    (volume_adds kind base m later book v t h a.0
    (grown_trans (grown_volumes kind base m vs a.1 made.book) g))
    (volumes_add kind base m later h vs a.1 made.book g t)
    ∙ sym (refine_add kind base later (spread (pos 1) (faces kind v)) (ledger kind vs) t)

pass_by_adds :
    (kind : Kind) (base : ℕ) (w : Went) → Good kind base w → (t : List ℕ)
    → ledger kind (pass_by kind (area_rule kind) (volume_rule kind) base w).lists.volumes t
    ≡ refine kind base (pass_by kind (area_rule kind) (volume_rule kind) base w).book (ledger kind w.lists.volumes) t
unfolding pass_by
pass_by_adds kind base w good t =
    volumes_add kind base (base + length w.book) (after_curves kind base w).book (pass_longer kind base w good)
    w.lists.volumes good.well.volumes _ (curves_grow kind base w good) t

-- one pass
pub pass_adds :
    (kind : Kind) (base : ℕ) (w : Went) → Good kind base w → (t : List ℕ)
    → ledger kind (pass kind base w).lists.volumes t ≡ refine kind base (pass kind base w).book (ledger kind w.lists.volumes) t
pass_adds kind base w good t =
    subst (λ (x : Went). ledger kind x.lists.volumes t ≡ refine kind base x.book (ledger kind w.lists.volumes) t)
    (sym (pass_is kind base w)) (pass_by_adds kind base w good t)

-- between any two passes
pub passes_good : (kind : Kind) (base : ℕ) (lists : Lists) → Well kind base lists → (n : ℕ) → Good kind base (passes kind base lists n)
unfolding passes
passes_good kind base lists well zero =
    record { rising = tt; well = subst (λ (k : ℕ). Well kind k lists) (omega arith) well }
passes_good kind base lists well (suc n) = pass_good kind base (passes kind base lists n) (passes_good kind base lists well n)

-- n passes
pub passes_add :
    (kind : Kind) (base : ℕ) (lists : Lists) → Well kind base lists → (n : ℕ) (t : List ℕ)
    → ledger kind (passes kind base lists n).lists.volumes t ≡ refined kind base lists n (ledger kind lists.volumes) t
unfolding passes refined
passes_add kind base lists well zero t = refl
passes_add kind base lists well (suc n) t =
    pass_adds kind base (passes kind base lists n) (passes_good kind base lists well n) t
    ∙ ap (λ (l : Ledger). refine kind base (pass kind base (passes kind base lists n)).book l t) (fun_ext (passes_add kind base lists well n))
