-- `listing::lines::Text::decimal` ends: each number that it goes on with is less. Assumes nothing.
use Rattle.listing.proofs.lines.Text.+decimal.Given as goal

abbrev pub decreases-decimal : goal.decreases-decimal
decreases-decimal l = l.n
