-- Document 01, section 2: parity, over the enum that src/parity.rt declares.
-- Says nothing of the byte that stands for a parity in a file (section 8).
-- Assumes nothing.
use Rattle.geom.specs.declared.parity.Parity.{Parity}
use Rattle.geom.specs.declared.parity.Parity.TheVariants.{Even, Odd}

-- the other parity
abbrev pub flipped : Parity → Parity
flipped Even = Odd
flipped Odd = Even

-- Product: even when both are equal. So an even factor changes nothing and an odd one flips.
abbrev pub times : Parity → Parity → Parity
times Even q = q
times Odd q = flipped q
