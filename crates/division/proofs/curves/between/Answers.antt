-- `division::curves::between` meets its contract: the pair goes by the parity. Assumes nothing.
use Rattle.division.proofs.curves.between.Goals as goal

pub returns-in-Even : goal.returns-in-Even
returns-in-Even c = rw c.in-Even.is c.middle.ensures

pub returns-in-Odd : goal.returns-in-Odd
returns-in-Odd c = rw c.in-Odd.is c.middle-in-Odd.ensures
