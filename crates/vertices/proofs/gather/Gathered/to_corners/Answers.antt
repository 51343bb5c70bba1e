-- `vertices::gather::Gathered::to_corners` meets its contract: each vertex has what the corners passed give it. Assumes nothing.
use Rattle.geom.specs.Floats.{binary32}
use Rattle.vertices.proofs.Gathering.{spread_none, spread_lent, spread_light, spread_on}
use Rattle.vertices.proofs.Kept.{kept_same, kept_on, kept_holds}
use Rattle.vertices.proofs.gather.Gathered.to_corners.Goals as goal

pub loop-v-init : goal.loop-v-init
loop-v-init c = record { kept = kept_same _; told = spread_none binary32 _ _ c.args.corners.now _ _ }

pub update-requires : goal.update-requires
update-requires c =
    let i = c.loop-v.invariant in
    record {
      lent = spread_lent binary32 _ _ _ _ _ _ _ _ _ i.told c.loop-v-test.true c.requires.corners (kept_holds i.kept _ c.requires.lent);
      v_bound = spread_light binary32 _ _ _ _ _ _ _ _ _ i.told c.loop-v-test.true c.requires.corners c.requires.by_index;
    }

pub loop-v-preserved : goal.loop-v-preserved
loop-v-preserved c =
    let i = c.loop-v.invariant in
    record {
      kept = kept_on i.kept c.update.ensures.kept;
      told = spread_on binary32 _ _ _ _ _ _ _ _ _ i.told c.loop-v-test.true c.requires.corners _ _ c.update.ensures.rows;
    }
