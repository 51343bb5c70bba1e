-- The entry's door: what holds once a mesh is accepted, and what the answer means in each case.
-- Assumes nothing.
use mathlib.Core.Path.{◌≡◌, refl, sym, ◌∙◌, ap, ap₂}
use mathlib.Core.Bool.{Bool, true, false, not, cond, ◌&&◌}
use mathlib.Core.List.{List, [], ◌∷◌}
use Prim.Native.Nat.{ℕ, ◌*◌, ◌/◌, ◌≤◌}
use native.Mathlib.Omega.{arith}
use lib.Dec.{leb}
use lib.ListN.{length}
use borrow.Author.Tests.{not-false, leb-true}
use Rattle.geom.specs.declared.answer.Sizes.{Sizes}
use Rattle.std.specs.Prelude.{Result, Ok, Err}
use Rattle.geom.specs.declared.refusal.Refusal.{Refusal}
use Rattle.geom.specs.declared.refusal.Refusal.TheVariants.{Room}
use Rattle.geom.specs.Answers.{Verdict, accepted, refused, verdict_of, outcome_of, due, first_due, number_of}
use Rattle.geom.specs.Book.{cubes}
use Rattle.geom.specs.Mesh.{sizes_of}
use Rattle.geom.specs.Memory.{Bench, rows_of, mesh_of, element_words, over}
use Rattle.geom.specs.Refinement.{LIMIT, LIMITS}
use Rattle.geom.specs.Refusals.{counts_hold, handed_in}
use Rattle.geom.specs.Triangulation.{triangulated, Cuts, cuts_hold, triangulation_verdict, triangulated_by, triangulation}
use Rattle.geom.proofs.Lists.{and_true_left, and_true_right}
use Rattle.geom.proofs.Accepted.{none_due, refused_before, accepted_before}
use Rattle.geom.proofs.Within.{Within, within_facts}
use Rattle.judge.proofs.Verdicts.{counts_marked}
use Rattle.triangulation.specs.Entry.{triangles_of, tetrahedra_of, lengths_hold, cuts, answered}
use Rattle.triangulation.proofs.Sizing.{sizes_cut}

-- ---- 10 for what is to be written

-- rows that fit have their words
pub room_areas : (t : Sizes) (triangles tetrahedra : ℕ) → lengths_hold triangles tetrahedra t ≡ true → 4 * t.areas ≤ triangles
unfolding lengths_hold
room_areas t triangles tetrahedra e =
    let a = leb t.areas (triangles / 4) in
    let b = leb t.areas LIMIT in
    let c = leb t.volumes (tetrahedra / 5) in
    let h = and_true_left (a && b && c) (leb t.volumes LIMIT) e in
    omega (arith, leb-true t.areas (triangles / 4) (and_true_left a b (and_true_left (a && b) c h)))

pub room_volumes : (t : Sizes) (triangles tetrahedra : ℕ) → lengths_hold triangles tetrahedra t ≡ true → 5 * t.volumes ≤ tetrahedra
unfolding lengths_hold
room_volumes t triangles tetrahedra e =
    let a = leb t.areas (triangles / 4) in
    let b = leb t.areas LIMIT in
    let c = leb t.volumes (tetrahedra / 5) in
    let h = and_true_left (a && b && c) (leb t.volumes LIMIT) e in
    omega (arith, leb-true t.volumes (tetrahedra / 5) (and_true_right (a && b) c h))

holds_by : (out : Cuts) (t : Sizes) → cuts_hold out t ≡ lengths_hold (length out.areas) (length out.volumes) t
unfolding cuts_hold lengths_hold
holds_by out t = refl

-- ---- the answer

module _ (s : Sizes) (b : Bench) (out : Cuts) where
  -- refused by the judge
  pub refuses :
      {ended : Result Unit Refusal} {n : Refusal} → verdict_of ended ≡ first_due (handed_in true true cubes s b) → ended ≡ Err n
      → answered (record { sizes = s; ended = ended }) out.areas out.volumes ≡ triangulation s b out
  unfolding outcome_of verdict_of triangulation triangulation_verdict
  refuses {ended} {n} j e =
      let m = triangulated (mesh_of (rows_of cubes s b)) in
      let v : triangulation_verdict s b out ≡ refused (number_of n) =
      refused_before (handed_in true true cubes s b) (due 10 (not (cuts_hold out (sizes_of m))) ∷ []) _ (sym j ∙ ap verdict_of e)
      in
      ap (λ (v : Verdict). record { outcome = record { sizes = s; verdict = v }; out = out }) (ap verdict_of e)
      ∙ ap (λ (v : Verdict). triangulated_by v s m out) (sym v)

  -- accepted by the judge
  module _ (e : first_due (handed_in true true cubes s b) ≡ accepted) where
    counts : counts_hold cubes s b ≡ true
    unfolding handed_in
    counts = and_true_left (counts_hold cubes s b) true (not-false _ (none_due (handed_in true true cubes s b) e).0)

    limits : Within s LIMITS
    unfolding handed_in
    limits = within_facts s LIMITS (not-false _ (none_due (handed_in true true cubes s b) e).1.1.1.1.1.0)

    pub areas_lie : 5 * s.areas ≤ length b.areas
    areas_lie = (counts_marked cubes s b counts).listed.area.room

    pub volumes_lie : 9 * s.volumes ≤ length b.volumes
    volumes_lie = (counts_marked cubes s b counts).listed.volume.room

    pub areas_few : s.areas ≤ LIMIT
    areas_few = limits.areas

    pub volumes_few : s.volumes ≤ LIMIT
    volumes_few = limits.volumes

    module _ {a v : ℕ} (ea : a ≡ length (triangles_of b.areas s.areas)) (ev : v ≡ length (tetrahedra_of b.volumes s.volumes)) where
      -- the sizes afterwards
      abbrev sizes : Sizes
      sizes =
          record {
            vertices = s.vertices;
            points = s.points;
            lines = s.lines;
            areas = a;
            volumes = v;
            curves = s.curves;
            curve_vertices = s.curve_vertices;
          }

      sizes_are : sizes_of (triangulated (mesh_of (rows_of cubes s b))) ≡ sizes
      sizes_are = sizes_cut s b ea ev (counts_marked cubes s b counts).parts.sum

      -- only 10 is left
      verdict_by_lem : {t : Bool} → lengths_hold (length out.areas) (length out.volumes) sizes ≡ t → triangulation_verdict s b out ≡ cond (not t) (refused 10) accepted
      unfolding triangulation_verdict first_due
      verdict_by_lem h =
          accepted_before (handed_in true true cubes s b) (due 10 (not (cuts_hold out (sizes_of (triangulated (mesh_of (rows_of cubes s b)))))) ∷ []) e
          ∙ ap (λ (t : Bool). cond (not t) (refused 10) accepted) (ap (cuts_hold out) sizes_are ∙ holds_by out sizes ∙ h)

      -- no cells for what is to be written
      pub full :
          lengths_hold (length out.areas) (length out.volumes) sizes ≡ false
          → answered (record { sizes = s; ended = Err Room }) out.areas out.volumes ≡ triangulation s b out
      unfolding outcome_of verdict_of triangulation
      full h = ap (λ (v : Verdict). triangulated_by v s (triangulated (mesh_of (rows_of cubes s b))) out) (sym (verdict_by_lem h))

      -- both lists written
      pub done :
          {triangles tetrahedra : List ℕ} → lengths_hold (length out.areas) (length out.volumes) sizes ≡ true
          → triangles ≡ over out.areas (element_words (triangles_of b.areas s.areas))
          → tetrahedra ≡ over out.volumes (element_words (tetrahedra_of b.volumes s.volumes))
          → answered (record { sizes = sizes; ended = Ok tt }) triangles tetrahedra ≡ triangulation s b out
      unfolding outcome_of verdict_of triangulation triangulated mesh_of rows_of
      done h p q =
          let m = triangulated (mesh_of (rows_of cubes s b)) in
          let left = cuts (over out.areas (element_words (triangles_of b.areas s.areas))) (over out.volumes (element_words (tetrahedra_of b.volumes s.volumes))) in
          ap₂ (λ (x y : List ℕ). record { outcome = record { sizes = sizes; verdict = accepted }; out = cuts x y }) p q
          ∙ ap (λ (z : Sizes). record { outcome = record { sizes = z; verdict = accepted }; out = left }) (sym sizes_are)
          ∙ ap (λ (v : Verdict). triangulated_by v s m out) (sym (verdict_by_lem h))
