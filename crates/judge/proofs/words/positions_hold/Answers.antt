-- `judge::words::positions_hold` meets its contract: it is known whether the coordinates passed are within. Assumes nothing.
use native.Mathlib.Omega.{arith}
use Prim.Native.Nat.{◌*◌, ◌<◌}
use mathlib.Core.Path.{sym, ◌∙◌, ap}
use lib.ListN.{length-take}
use lib.Ieee.{nan}
use Rattle.std.proofs.lemmas.List.{get_or-take, get_or_default}
use Rattle.numbers.specs.Binary32 as Binary32
use Rattle.geom.specs.Floats.{binary32}
use Rattle.geom.specs.Refusals.{good_coordinate}
use Rattle.judge.proofs.Every.{every_start, every_with, every_done, positions_words_lem}
use Rattle.judge.proofs.words.positions_hold.Goals as goal

pub loop-coordinate-init : goal.loop-coordinate-init
loop-coordinate-init c = sym (every_start _ _)

pub loop-coordinate-preserved : goal.loop-coordinate-preserved
loop-coordinate-preserved c =
    let within : c.loop-coordinate.coordinate-index < 4 * c.args.vertices = omega (arith, length-take (4 * c.args.vertices) c.args.positions.now, c.requires, c.loop-coordinate-test.true) in
    let its = get_or-take (4 * c.args.vertices) c.args.positions.now c.loop-coordinate.coordinate-index nan within ∙ get_or_default c.args.positions.now c.loop-coordinate.coordinate-index nan Binary32.zero (omega (arith, c.requires, within)) in
    every_with _ _ _ _ _ c.loop-coordinate.invariant (c.coordinate_holds-all.ensures ∙ ap good_coordinate its)

pub returns : goal.returns
returns c = λ marks. every_done _ _ _ _ _ (omega (arith, length-take (4 * c.args.vertices) c.args.positions.now, c.requires, c.loop-coordinate.auto.coordinate-index-end)) (omega (arith, length-take (4 * c.args.vertices) c.args.positions.now, c.requires, c.loop-coordinate-test.false)) c.loop-coordinate.invariant ∙ positions_words_lem binary32 _ marks _
