-- The ledger of the words that are left, from the answer: the words of the lent list are those of the tetrahedra that the definition gives.
-- Assumes nothing.
use mathlib.Core.Path.{◌≡◌, refl, sym, ◌∙◌, ap, subst}
use mathlib.Core.Bool.{true}
use mathlib.Core.List.{map, flat_map}
use Rattle.geom.specs.declared.answer.Sizes.{Sizes}
use Rattle.geom.specs.Answers.{Verdict, accepted}
use Rattle.geom.specs.Book.{cubes}
use Rattle.geom.specs.Mesh.{Mesh, sizes_of}
use Rattle.geom.specs.Memory.{Bench, element_of, rows_of, mesh_of, element_words}
use Rattle.geom.specs.Refusals.{handed_in}
use Rattle.geom.specs.Between.{All, IsVolume}
use Rattle.geom.specs.Triangulation.{triangulate_cube, triangulated, Cuts, triangulation_verdict, Triangulated, triangulated_by, triangulation}
use Rattle.geom.specs.Cutting.{LedgerCut}
use Rattle.geom.proofs.Lists.{all_map}
use Rattle.geom.proofs.Accepted.{accepted_first, judged_well}
use Rattle.geom.proofs.Back.{elements_own}
use Rattle.geom.proofs.Standing.{over_begins, elements_read}
use Rattle.geom.proofs.Cutting.{cut_proper, cut_ledger}
use Rattle.triangulation.specs.Entry.{cubes_handed, tetrahedra_left, Triangulates}

module _ (s : Sizes) (b : Bench) (lent : Cuts) {t : Triangulated} (answer : t ≡ triangulation s b lent) where
  module _ (e : triangulation_verdict s b lent ≡ accepted) where
    abbrev mesh : Mesh
    mesh = mesh_of (rows_of cubes s b)

    solid : All (IsVolume cubes s.vertices) (cubes_handed s b)
    unfolding triangulation_verdict
    solid = (judged_well true true cubes s b (accepted_first (handed_in true true cubes s b) _ e)).volumes

    -- the words left are the tetrahedra that the cubes are cut into
    pub left_are : tetrahedra_left t ≡ flat_map triangulate_cube (cubes_handed s b)
    unfolding triangulation triangulated sizes_of
    left_are =
        let ts = flat_map triangulate_cube (cubes_handed s b) in
        ap tetrahedra_left answer
        ∙ ap (λ (v : Verdict). tetrahedra_left (triangulated_by v s (triangulated mesh) lent)) e
        ∙ ap (map element_of) (elements_read 4 ts (over_begins lent.volumes (element_words ts) refl) (all_map (λ v p. p.long) ts (cut_proper s.vertices (cubes_handed s b) solid)))
        ∙ elements_own ts

    ledger : LedgerCut s.vertices (cubes_handed s b) (tetrahedra_left t)
    ledger = subst (LedgerCut s.vertices (cubes_handed s b)) (sym left_are) (cut_ledger s.vertices (cubes_handed s b) solid)

  pub triangulates : Triangulates s b lent t
  triangulates = record { answer = answer; ledger = ledger }
