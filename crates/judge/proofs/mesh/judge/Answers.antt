-- `judge::mesh::judge` meets its contract: what a refinement asks beyond the mesh at 9 and at 5, and the tests of the mesh.
-- Assumes nothing.
use Rattle.geom.specs.Kinds.{kind_of}
use Rattle.geom.specs.Refusals.{good_parity}
use Rattle.geom.specs.Lent.{words_of}
use Rattle.judge.specs.Counts.{benches_of}
use mathlib.Core.Path.{◌∙◌, ap}
use Rattle.judge.proofs.Verdicts.{told}
use Rattle.judge.proofs.mesh.judge.Goals as goal

pub returns : goal.returns
unfolding good_parity
returns c =
    told (kind_of c.args.kind) c.args.sizes c.args.time (words_of c.args.bench.now) c.args.second c.args.sums c.args.tallies _ (c.benches_hold-nine.ensures ∙ ap (λ first. benches_of (kind_of c.args.kind) first c.args.second c.args.sums c.args.tallies) c.of.ensures) _ c.handed_in.ensures
