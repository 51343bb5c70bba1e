-- `listing::digits::glyph` meets its contract: a digit from 0 to 9, or from A to F. Assumes nothing.
use Rattle.listing.proofs.Numerals.{digit_low, digit_high}
use Rattle.listing.proofs.digits.glyph.Goals as goal

pub returns-then-value-lt10 : goal.returns-then-value-lt10
returns-then-value-lt10 c = digit_low _ c.if-value-lt10.true

pub returns : goal.returns
returns c = digit_high _ c.if-value-lt10.false
