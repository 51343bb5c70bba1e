-- Equal benches: the test that the definitions make, and the eight facts that it is made of.
-- Says nothing of the words on them.
-- Assumes nothing.
use mathlib.Core.Path.{◌≡◌, refl}
use mathlib.Core.Bool.{true, ◌&&◌}
use lib.Dec.{eqb}
use lib.ListN.{length}
use borrow.Author.Tests.{eqb-true, eq-eqb}
use Rattle.geom.specs.Form.{Form}
use Rattle.geom.specs.Memory.{BenchIn, AsLong}
use Rattle.geom.specs.Refusals.{benches_equal}
use Rattle.geom.proofs.Lists.{and_true_left, and_true_right}

pub equal_facts : {F : Form} (x y : BenchIn F) → benches_equal x y ≡ true → AsLong x y
unfolding benches_equal
equal_facts x y e =
    let q = eqb (length x.positions) (length y.positions) in
    let m = eqb (length x.marks) (length y.marks) in
    let p = eqb (length x.points) (length y.points) in
    let l = eqb (length x.lines) (length y.lines) in
    let a = eqb (length x.areas) (length y.areas) in
    let o = eqb (length x.volumes) (length y.volumes) in
    let c = eqb (length x.curves) (length y.curves) in
    let k = eqb (length x.curve_vertices) (length y.curve_vertices) in
    let e7 : (q && m && p && l && a && o && c) ≡ true = and_true_left (q && m && p && l && a && o && c) k e in
    let e6 : (q && m && p && l && a && o) ≡ true = and_true_left (q && m && p && l && a && o) c e7 in
    let e5 : (q && m && p && l && a) ≡ true = and_true_left (q && m && p && l && a) o e6 in
    let e4 : (q && m && p && l) ≡ true = and_true_left (q && m && p && l) a e5 in
    let e3 : (q && m && p) ≡ true = and_true_left (q && m && p) l e4 in
    let e2 : (q && m) ≡ true = and_true_left (q && m) p e3 in
    record {
      positions = eqb-true _ _ (and_true_left q m e2);
      marks = eqb-true _ _ (and_true_right q m e2);
      points = eqb-true _ _ (and_true_right (q && m) p e3);
      lines = eqb-true _ _ (and_true_right (q && m && p) l e4);
      areas = eqb-true _ _ (and_true_right (q && m && p && l) a e5);
      volumes = eqb-true _ _ (and_true_right (q && m && p && l && a) o e6);
      curves = eqb-true _ _ (and_true_right (q && m && p && l && a && o) c e7);
      curve_vertices = eqb-true _ _ (and_true_right (q && m && p && l && a && o && c) k e);
    }

pub equal_holds : {F : Form} {x y : BenchIn F} → AsLong x y → benches_equal x y ≡ true
unfolding benches_equal
equal_holds s =
    rw (
      eq-eqb _ _ s.positions,
      eq-eqb _ _ s.marks,
      eq-eqb _ _ s.points,
      eq-eqb _ _ s.lines,
      eq-eqb _ _ s.areas,
      eq-eqb _ _ s.volumes,
      eq-eqb _ _ s.curves,
      eq-eqb _ _ s.curve_vertices,
    )
    refl
