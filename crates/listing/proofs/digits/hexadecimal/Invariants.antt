-- `listing::digits::hexadecimal` meets its contract: eight digits, the highest first. Assumes nothing.
use Rattle.division.proofs.Rows.{Copying}
use Rattle.listing.proofs.Numerals.{nibble}
use Rattle.listing.proofs.digits.hexadecimal.Given as goal

abbrev pub invariant-loop-i : goal.invariant-loop-i
invariant-loop-i l = Copying l.initial.out l.at (nibble l.bits) 8 l.i l.out
