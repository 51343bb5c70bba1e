-- Document 02, U5, for the normals that the entries leave of every accepted simplex mesh: with every parity changed a Flat normal stays Flat, and elsewhere each
-- component whose sum isn't zero changes its sign bit alone, and the others are +0 both times.
-- Assumes nothing.
use mathlib.Core.Path.{◌≡◌, refl, sym, ap, ap₂, ◌∙◌, subst}
use mathlib.Core.Logic.{⊎_elim}
use mathlib.Core.Bool.{true, false, true≢false}
use mathlib.Core.List.{List, [], ◌∷◌, flat_map}
use Prim.Native.Nat.{ℕ, ◌/◌, ◌^◌, ◌≤◌, ◌<◌}
use lib.Dec.{T, lit<}
use lib.Ieee.{Float, neg, eq, binary32}
use lib.ListN.{length}
use Rattle.numbers.specs.declared.vec3.Vec3.{Vec3}
use Rattle.numbers.specs.declared.vec4.Vec4.{Vec4}
use Rattle.std.specs.Prelude.{Option}
use Rattle.numbers.specs.Binary32.{◌⊕◌, ◌⊗◌, ◌⊘◌, zero, one}
use Rattle.numbers.specs.Points3 as Points3
use Rattle.numbers.specs.Points4 as Points4
use Rattle.numbers.specs.Root.{root}
use Rattle.numbers.specs.Normal.{flat, unit, cells, flat3, flat4, unit3, unit4, normalised3, normalised4, cells3, cells4}
use Rattle.numbers.proofs.Normals.{flat_is_Flat3, else_a_direction3, flat_is_Flat4, else_a_direction4, wide3, wide4}
use Rattle.numbers.proofs.Negation.{mul_neg, sign_bit}
use Rattle.numbers.proofs.Mirror.{nonzero, square_same, nonzero_differs}
use Rattle.numbers.proofs.Inverse.{Plus, plus_zero, product_number, Dot, first_square, next_square, dot_inverse}
use Rattle.geom.specs.declared.answer.Sizes.{Sizes}
use Rattle.geom.specs.Book.{simplices}
use Rattle.geom.specs.Mesh.{Mesh, sizes_of}
use Rattle.geom.specs.Answers.{Verdict, accepted, refused, first_due}
use Rattle.geom.specs.Refinement.{LIMITS}
use Rattle.geom.specs.Memory.{Bench, first_of, rows_of, mesh_of}
use Rattle.geom.specs.Refusals.{handed_in, StandsFor}
use Rattle.geom.specs.Between.{Well}
use Rattle.geom.specs.Normals.{normals3, normals4, Shaded, shaded_by, shading_verdict, shading3, shading4}
use Rattle.geom.specs.Turning.{flipped_mesh, SignChanged, Turned, Turns, Dimension, sum3, sum4, three, four, cell_at, flat_cell, Mirrors, Shades}
use Rattle.geom.proofs.Within.{Within, within_facts}
use Rattle.geom.proofs.Accepted.{vertex_count}
use Rattle.geom.proofs.Steady.{placed_at}
use Rattle.geom.proofs.Stays.{position_good, steady_binary32}
use Rattle.geom.proofs.Again.{limits_hold, accepted_in_order}
use Rattle.geom.proofs.Flipped.{flipped_accepted, flipped_mesh_lem, cell_of, shading_judged, shading_accepted}
use Rattle.geom.proofs.Summing.{Placed, Side, Sides3, Sides4, sums3_sides, sums4_sides}

-- ---- one component

turned : (r s t : Float) → Plus r → Side s t → Turned s (r ⊗ s) (r ⊗ t)
unfolding eq
turned r s t p h =
    record {
      sign = λ e.
          ⊎_elim
          (λ (m : (s ≡ zero) × (t ≡ zero)). absurd (true≢false (sym (ap (λ (x : Float). eq x zero) m.0) ∙ e)))
          (λ (m : T (nonzero s) × (t ≡ neg s)).
          subst (λ (x : Float). SignChanged (r ⊗ s) x) (sym (ap (λ (x : Float). r ⊗ x) m.1 ∙ mul_neg binary32 r s)) (sign_bit (r ⊗ s) (product_number r s (2 ^ 58) p h.small)))
          h.mirrored;
      none = λ e.
          ⊎_elim
          (λ (m : (s ≡ zero) × (t ≡ zero)). (ap (λ (x : Float). r ⊗ x) m.0 ∙ plus_zero r p, ap (λ (x : Float). r ⊗ x) m.1 ∙ plus_zero r p))
          (λ (m : T (nonzero s) × (t ≡ neg s)). absurd (true≢false (sym e ∙ nonzero_differs s m.0)))
          h.mirrored;
    }

-- ---- a normal in three dimensions

module _ (u v : Vec3) (h : Sides3 u v) where
  same_dot3 : Points3.dot v v ≡ Points3.dot u u
  unfolding Points3.dot
  same_dot3 =
      ap₂ ◌⊕◌ (ap₂ ◌⊕◌ (square_same u.x v.x h.on_x.mirrored) (square_same u.y v.y h.on_y.mirrored)) (square_same u.z v.z h.on_z.mirrored)

  same_flat3 : flat3 v ≡ flat3 u
  unfolding flat flat3
  same_flat3 = ap (λ (d : Float). eq d zero) same_dot3

  dot3 : Dot 3 (Points3.dot u u)
  unfolding Points3.dot
  dot3 = next_square 2 _ u.z (lit< tt) (next_square 1 _ u.y (lit< tt) (first_square u.x h.on_x.small) h.on_y.small) h.on_z.small

  none3 : flat3 u ≡ true → (cells3 (normalised3 u) ≡ flat_cell (u.x ∷ u.y ∷ u.z ∷ [])) × (cells3 (normalised3 v) ≡ flat_cell (u.x ∷ u.y ∷ u.z ∷ []))
  unfolding cells cells3
  none3 e = (ap cells3 (flat_is_Flat3 u e), ap cells3 (flat_is_Flat3 v (same_flat3 ∙ e)))

  turns3 : flat3 u ≡ false → Turns (u.x ∷ u.y ∷ u.z ∷ []) (cells3 (normalised3 u)) (cells3 (normalised3 v))
  unfolding Turns cells cells3 unit unit3 Points3.scaled
  turns3 e =
      let r = one ⊘ root (Points3.dot u u) in
      let p : Plus r = dot_inverse 3 (Points3.dot u u) dot3 (unfold flat flat3 in e) in
      let q : one ⊘ root (Points3.dot v v) ≡ r = ap (λ (d : Float). one ⊘ root d) same_dot3 in
      rw (else_a_direction3 u e, else_a_direction3 v (same_flat3 ∙ e), q)
      (turned r u.x v.x p h.on_x, (turned r u.y v.y p h.on_y, (turned r u.z v.z p h.on_z, tt)))

-- ---- and in four

module _ (u v : Vec4) (h : Sides4 u v) where
  same_dot4 : Points4.dot v v ≡ Points4.dot u u
  unfolding Points4.dot
  same_dot4 =
      ap₂ ◌⊕◌
      (ap₂ ◌⊕◌ (ap₂ ◌⊕◌ (square_same u.x v.x h.on_x.mirrored) (square_same u.y v.y h.on_y.mirrored)) (square_same u.z v.z h.on_z.mirrored))
      (square_same u.w v.w h.on_w.mirrored)

  same_flat4 : flat4 v ≡ flat4 u
  unfolding flat flat4
  same_flat4 = ap (λ (d : Float). eq d zero) same_dot4

  dot4 : Dot 4 (Points4.dot u u)
  unfolding Points4.dot
  dot4 =
      next_square 3 _ u.w (lit< tt)
      (next_square 2 _ u.z (lit< tt) (next_square 1 _ u.y (lit< tt) (first_square u.x h.on_x.small) h.on_y.small) h.on_z.small) h.on_w.small

  none4 : flat4 u ≡ true → (cells4 (normalised4 u) ≡ flat_cell (u.x ∷ u.y ∷ u.z ∷ u.w ∷ [])) × (cells4 (normalised4 v) ≡ flat_cell (u.x ∷ u.y ∷ u.z ∷ u.w ∷ []))
  unfolding cells cells4 Points4.origin
  none4 e = (ap cells4 (flat_is_Flat4 u e), ap cells4 (flat_is_Flat4 v (same_flat4 ∙ e)))

  turns4 : flat4 u ≡ false → Turns (u.x ∷ u.y ∷ u.z ∷ u.w ∷ []) (cells4 (normalised4 u)) (cells4 (normalised4 v))
  unfolding Turns cells cells4 unit unit4 Points4.scaled
  turns4 e =
      let r = one ⊘ root (Points4.dot u u) in
      let p : Plus r = dot_inverse 4 (Points4.dot u u) dot4 (unfold flat flat4 in e) in
      let q : one ⊘ root (Points4.dot v v) ≡ r = ap (λ (d : Float). one ⊘ root d) same_dot4 in
      rw (else_a_direction4 u e, else_a_direction4 v (same_flat4 ∙ e), q)
      (turned r u.x v.x p h.on_x, (turned r u.y v.y p h.on_y, (turned r u.z v.z p h.on_z, (turned r u.w v.w p h.on_w, tt))))

-- ---- the entries

-- what the entry of a dimension writes: a cell for each vertex's normal; and what becomes of the normals of a mesh
record Writes (d : Dimension) (N : Type 0) : Type 0 where
  cells : N → List Float
  normal : Mesh → ℕ → N
  wide : (n : N) → length (cells n) ≡ d.width
  shaded :
      (s : Sizes) (b : Bench) (out : List Float) → let m = mesh_of (rows_of simplices s b) in
      d.shading s b out ≡ shaded_by (shading_verdict d.width s b out) (flat_map cells (first_of (normal m) (length m.vertices))) out
  flat : (s : Sizes) (b : Bench) → first_due (handed_in true true simplices s b) ≡ accepted → (v : ℕ) → let m = mesh_of (rows_of simplices s b) in
      d.flat (flipped_mesh m) v ≡ d.flat m v
  none : (s : Sizes) (b : Bench) → first_due (handed_in true true simplices s b) ≡ accepted → (v : ℕ) → let m = mesh_of (rows_of simplices s b) in
      d.flat m v ≡ true → (cells (normal m v) ≡ flat_cell (d.sum m v)) × (cells (normal (flipped_mesh m) v) ≡ flat_cell (d.sum m v))
  turns : (s : Sizes) (b : Bench) → first_due (handed_in true true simplices s b) ≡ accepted → (v : ℕ) → let m = mesh_of (rows_of simplices s b) in
      d.flat m v ≡ false → Turns (d.sum m v) (cells (normal m v)) (cells (normal (flipped_mesh m) v))

module _ {d : Dimension} {N : Type 0} (writes : Writes d N) where
  verdict_is : (s : Sizes) (b : Bench) (out : List Float) → (d.shading s b out).verdict ≡ shading_verdict d.width s b out
  verdict_is s b out = ap (λ (t : Shaded). t.verdict) (writes.shaded s b out) ∙ go (shading_verdict d.width s b out) _
    where
      go : (x : Verdict) (words : List Float) → (shaded_by x words out).verdict ≡ x
      go accepted words = refl
      go (refused n) words = refl

  cell : (s : Sizes) (b : Bench) (out : List Float) → shading_verdict d.width s b out ≡ accepted → (v : ℕ) → v < s.vertices
      → cell_at d.width (d.shading s b out).out v ≡ writes.cells (writes.normal (mesh_of (rows_of simplices s b)) v)
  cell s b out e v h =
      let m = mesh_of (rows_of simplices s b) in
      let words = flat_map writes.cells (first_of (writes.normal m) (length m.vertices)) in
      ap (λ (t : Shaded). cell_at d.width t.out v) (writes.shaded s b out ∙ ap (λ (x : Verdict). shaded_by x words out) e)
      ∙ cell_of writes.cells d.width writes.wide (writes.normal m) (length m.vertices) v
      (subst (λ (n : ℕ). v < n) (sym (vertex_count simplices s b)) h) out

  module _ (s : Sizes) (b : Bench) (lent : List Float) (ok : shading_verdict d.width s b lent ≡ accepted) where
    abbrev mesh : Mesh
    mesh = mesh_of (rows_of simplices s b)

    judged : first_due (handed_in true true simplices s b) ≡ accepted
    judged = shading_judged d.width s b lent ok

    mirrors_of : (other : Bench) (other_lent : List Float) → StandsFor simplices other (flipped_mesh mesh) → s.vertices ≤ length other_lent / d.width
        → Mirrors d s mesh (d.shading s b lent).out other other_lent
    mirrors_of other other_lent stand room =
        let a = shading_accepted d.width s other other_lent (flipped_accepted s b judged other stand) room in
        record {
          accepts = verdict_is s other other_lent ∙ a;
          opposite = λ v h.
              record {
                flat = writes.flat s b judged v;
                none = λ f.
                    rw (cell s b lent ok v h, cell s other other_lent a v h, flipped_mesh_lem s b judged other stand)
                    (writes.none s b judged v f);
                turns = λ f.
                    rw (cell s b lent ok v h, cell s other other_lent a v h, flipped_mesh_lem s b judged other stand)
                    (writes.turns s b judged v f);
              };
        }

  -- the claim, from the equation that the entry promised before
  shades : (s : Sizes) (b : Bench) (lent : List Float) (t : Shaded) → t ≡ d.shading s b lent → Shades d s b lent t
  shades s b lent t e =
      record {
        answer = e;
        mirrors = λ a other other_lent stand room.
            subst (λ (x : Shaded). Mirrors d s (mesh_of (rows_of simplices s b)) x.out other other_lent) (sym e)
            (mirrors_of s b lent (sym (verdict_is s b lent) ∙ sym (ap (λ (x : Shaded). x.verdict) e) ∙ a) other other_lent stand room);
      }

-- ---- in three dimensions, and in four

module _ (s : Sizes) (b : Bench) (e : first_due (handed_in true true simplices s b) ≡ accepted) (v : ℕ) where
  abbrev given : Mesh
  given = mesh_of (rows_of simplices s b)

  placed : Placed given.vertices
  placed i = position_good _ (placed_at steady_binary32 given.vertices i (accepted_in_order true true simplices s b e).positions)

  within_limits : Within (sizes_of given) LIMITS
  within_limits = within_facts (sizes_of given) LIMITS (limits_hold true true simplices s b e)

  well : Well simplices (length given.vertices) given.lists
  well = (accepted_in_order true true simplices s b e).well

  sides3 : Sides3 (sum3 given v) (sum3 (flipped_mesh given) v)
  unfolding flipped_mesh sizes_of
  sides3 = sums3_sides given.vertices placed (length given.vertices) v given.lists.areas within_limits.areas well.areas

  sides4 : Sides4 (sum4 given v) (sum4 (flipped_mesh given) v)
  unfolding flipped_mesh sizes_of
  sides4 = sums4_sides given.vertices placed (length given.vertices) v given.lists.volumes within_limits.volumes well.volumes

writes3 : Writes three (Option Vec3)
unfolding shading3 normals3
writes3 =
    record {
      cells = cells3;
      normal = λ m v. normalised3 (sum3 m v);
      wide = wide3;
      shaded = λ s b out. refl;
      flat = λ s b e v. same_flat3 _ _ (sides3 s b e v);
      none = λ s b e v. none3 _ _ (sides3 s b e v);
      turns = λ s b e v. turns3 _ _ (sides3 s b e v);
    }

writes4 : Writes four (Option Vec4)
unfolding shading4 normals4
writes4 =
    record {
      cells = cells4;
      normal = λ m v. normalised4 (sum4 m v);
      wide = wide4;
      shaded = λ s b out. refl;
      flat = λ s b e v. same_flat4 _ _ (sides4 s b e v);
      none = λ s b e v. none4 _ _ (sides4 s b e v);
      turns = λ s b e v. turns4 _ _ (sides4 s b e v);
    }

pub shades3 : (s : Sizes) (b : Bench) (lent : List Float) (t : Shaded) → t ≡ shading3 s b lent → Shades three s b lent t
shades3 = shades writes3

pub shades4 : (s : Sizes) (b : Bench) (lent : List Float) (t : Shaded) → t ≡ shading4 s b lent → Shades four s b lent t
shades4 = shades writes4
