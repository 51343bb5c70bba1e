-- `figure::writing::put_numbers` meets its contract: the numbers passed were written. Assumes nothing.
use Rattle.figure.proofs.Elements.{numbers_start, numbers_on}
use Rattle.figure.proofs.writing.put_numbers.Goals as goal

pub loop-i-init : goal.loop-i-init
loop-i-init c = numbers_start _ _ _ _ _

pub loop-i-preserved : goal.loop-i-preserved
loop-i-preserved c = rw c.big_endian.ensures (numbers_on _ _ _ _ _ _ _ c.loop-i.invariant)
