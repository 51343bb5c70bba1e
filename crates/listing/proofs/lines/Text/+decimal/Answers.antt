-- `listing::lines::Text::decimal` meets its contract: the digits before the last, and the last. Assumes nothing.
use mathlib.Core.Path.{refl}
use native.Mathlib.Omega.{arith}
use Rattle.listing.proofs.Parts.{digit_part, decimal_parts}
use Rattle.listing.proofs.Texts.{going_start, going_room, going_on, going_done}
use Rattle.listing.proofs.lines.Text.+decimal.Goals as goal

pub byte-requires : goal.byte-requires
byte-requires t c = going_room (going_start c.args.self.now (digit_part _ _ c.if-n-lt10.true c.glyph.ensures) c.requires)

pub returns-then-n-lt10 : goal.returns-then-n-lt10
returns-then-n-lt10 t c =
    going_done (going_on (going_start c.args.self.now (digit_part _ _ c.if-n-lt10.true c.glyph.ensures) c.requires) c.byte.ensures)

pub decimal-requires : goal.decimal-requires
decimal-requires t c =
    (omega arith, going_room (going_start c.args.self.now (decimal_parts c.args.n _ c.if-n-lt10.false refl) c.requires))

pub byte-requires-else-n-lt10 : goal.byte-requires-else-n-lt10
byte-requires-else-n-lt10 t c =
    let g = going_start c.args.self.now (decimal_parts _ _ c.if-n-lt10.false c.glyph-else-n-lt10.ensures) c.requires in
    going_room (going_on g c.decimal.ensures)

pub returns-else-n-lt10 : goal.returns-else-n-lt10
returns-else-n-lt10 t c =
    let g = going_start c.args.self.now (decimal_parts _ _ c.if-n-lt10.false c.glyph-else-n-lt10.ensures) c.requires in
    going_done (going_on (going_on g c.decimal.ensures) c.byte-else-n-lt10.ensures)
