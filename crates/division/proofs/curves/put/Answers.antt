-- `division::curves::put` meets its contract: two words, one behind the other. Assumes nothing.
use Rattle.division.proofs.Threading.{put_written}
use Rattle.division.proofs.curves.put.Goals as goal

pub returns : goal.returns
returns c =
    put_written c.args.new.now c.args.row c.args.first c.args.second c.requires
