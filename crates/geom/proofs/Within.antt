-- Sizes that are within others: the test that the definitions make, and the seven facts that it is made of.
-- Assumes nothing.
use mathlib.Core.Path.{◌≡◌, refl}
use mathlib.Core.Bool.{true, ◌&&◌}
use Prim.Native.Nat.{◌≤◌}
use lib.Dec.{leb}
use borrow.Author.Tests.{leb-true, le-leb}
use Rattle.geom.specs.declared.answer.Sizes.{Sizes}
use Rattle.geom.specs.Refinement.{within}
use Rattle.geom.proofs.Lists.{and_true_left, and_true_right}

pub record Within (s t : Sizes) : Type 0 where
  pub vertices : s.vertices ≤ t.vertices
  pub points : s.points ≤ t.points
  pub lines : s.lines ≤ t.lines
  pub areas : s.areas ≤ t.areas
  pub volumes : s.volumes ≤ t.volumes
  pub curves : s.curves ≤ t.curves
  pub curve_vertices : s.curve_vertices ≤ t.curve_vertices

pub within_facts : (s t : Sizes) → within s t ≡ true → Within s t
unfolding within
within_facts s t e =
    let v = leb s.vertices t.vertices in
    let p = leb s.points t.points in
    let l = leb s.lines t.lines in
    let a = leb s.areas t.areas in
    let o = leb s.volumes t.volumes in
    let c = leb s.curves t.curves in
    let k = leb s.curve_vertices t.curve_vertices in
    let e6 : (v && p && l && a && o && c) ≡ true = and_true_left (v && p && l && a && o && c) k e in
    let e5 : (v && p && l && a && o) ≡ true = and_true_left (v && p && l && a && o) c e6 in
    let e4 : (v && p && l && a) ≡ true = and_true_left (v && p && l && a) o e5 in
    let e3 : (v && p && l) ≡ true = and_true_left (v && p && l) a e4 in
    let e2 : (v && p) ≡ true = and_true_left (v && p) l e3 in
    record {
      vertices = leb-true _ _ (and_true_left v p e2);
      points = leb-true _ _ (and_true_right v p e2);
      lines = leb-true _ _ (and_true_right (v && p) l e3);
      areas = leb-true _ _ (and_true_right (v && p && l) a e4);
      volumes = leb-true _ _ (and_true_right (v && p && l && a) o e5);
      curves = leb-true _ _ (and_true_right (v && p && l && a && o) c e6);
      curve_vertices = leb-true _ _ (and_true_right (v && p && l && a && o && c) k e);
    }

pub within_holds : (s t : Sizes) → Within s t → within s t ≡ true
unfolding within
within_holds s t w =
    rw (
      le-leb _ _ w.vertices,
      le-leb _ _ w.points,
      le-leb _ _ w.lines,
      le-leb _ _ w.areas,
      le-leb _ _ w.volumes,
      le-leb _ _ w.curves,
      le-leb _ _ w.curve_vertices,
    )
    refl
