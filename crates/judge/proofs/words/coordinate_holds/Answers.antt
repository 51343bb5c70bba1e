-- `judge::words::coordinate_holds` meets its contract. Assumes nothing.
use mathlib.Core.Path.{refl}
use lib.Ieee.{neg, of_bits}
use Rattle.geom.specs.Refusals.{good_coordinate}
use Rattle.judge.proofs.words.coordinate_holds.Goals as goal

pub returns : goal.returns
unfolding good_coordinate neg of_bits
returns c = refl
