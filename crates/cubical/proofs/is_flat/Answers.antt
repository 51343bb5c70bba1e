-- `cubical::is_flat` meets its contract. Assumes nothing.
use Rattle.cubical.proofs.Squared.{flat_is}
use Rattle.cubical.proofs.is_flat.Goals as goal

pub returns : goal.returns
returns c = flat_is c.args.a c.args.b c.args.c c.args.d
