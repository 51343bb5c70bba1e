-- `vertices::gather::Gathered::gather` meets its contract: each vertex has what the elements passed give it. Assumes nothing.
use mathlib.Core.Path.{◌≡◌, refl, ◌∙◌, ap}
use mathlib.Core.List.{List}
use Prim.Native.Nat.{ℕ, ◌+◌, ◌-◌, ◌*◌}
use lib.ListN.{take, drop}
use native.Mathlib.Omega.{arith}
use Rattle.geom.specs.Floats.{binary32}
use Rattle.vertices.proofs.Gathering.{length_part, elements_corners, corners_alone, collecting_start, collecting_light, collecting_on}
use Rattle.vertices.proofs.Kept.{kept_same, kept_on, kept_holds}
use Rattle.vertices.proofs.gather.Gathered.gather.Goals as goal

pub loop-i-init : goal.loop-i-init
loop-i-init g c = record { kept = kept_same _; told = collecting_start binary32 _ _ _ _ _ _ _ _ }

-- a range that begins at a start, as long as it is
range : (words : List ℕ) (start n : ℕ) → take (start + n - start) (drop start words) ≡ take n (drop start words)
range words start n = let e : start + n - start ≡ n = omega arith in rw e refl

pub points-requires : goal.points-requires
points-requires g c =
    let cs = elements_corners _ _ _ _ _ c.requires.elements c.loop-i-test.true in
    let e = range c.args.list.words.now ((g.row.N + 1) * c.loop-i.i) g.row.N in
    (omega (arith, c.requires.few), (c.requires.count_in_bounds, (rw e (length_part _ _ _ cs.room), rw e (corners_alone cs))))

pub to_corners-requires : goal.to_corners-requires
to_corners-requires g c =
    let i = c.loop-i.invariant in
    let cs = elements_corners _ _ _ _ _ c.requires.elements c.loop-i-test.true in
    let e = range c.args.list.words.now ((g.row.N + 1) * c.loop-i.i) g.row.N in
    record {
      lent = kept_holds i.kept _ c.requires.lent;
      corners = rw e (corners_alone cs);
      by_index = rw (e, length_part _ _ _ cs.room) (collecting_light binary32 _ _ _ _ _ _ _ _ _ c.requires.elements _ _ _ i.told c.loop-i-test.true c.requires.by_index);
    }

pub loop-i-preserved : goal.loop-i-preserved
loop-i-preserved g c =
    let i = c.loop-i.invariant in
    let e = range c.args.list.words.now ((g.row.N + 1) * c.loop-i.i) g.row.N in
    record {
      kept = kept_on i.kept c.to_corners.ensures.kept;
      told = collecting_on binary32 _ _ _ _ _ _ _ _ _ c.requires.elements _ _ _ i.told c.loop-i-test.true _ _ _ (c.result-p.ensures ∙ ap g.R.Rule.gives (rw e at c.points.ensures)) (rw e at c.to_corners.ensures.rows);
    }
