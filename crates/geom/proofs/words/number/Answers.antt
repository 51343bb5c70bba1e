-- `geom::words::number` meets its contract. Assumes nothing.
use lib.Ieee.{nan}
use Rattle.numbers.specs.Binary32 as Binary32
use Rattle.geom.proofs.Rows.{get_d_any}
use Rattle.geom.proofs.words.number.Goals as goal

pub returns : goal.returns
returns c = get_d_any c.args.words.now c.args.i nan Binary32.zero c.requires
