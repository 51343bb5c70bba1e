-- `listing::lines::Text::coordinate` meets its contract: a space, and the bits behind it. Assumes nothing.
use mathlib.Core.Path.{refl}
use native.Mathlib.Omega.{arith}
use Rattle.listing.proofs.Parts.{bits_parts, length_hexadecimal}
use Rattle.listing.proofs.Texts.{going_start, going_room, going_on, going_done}
use Rattle.listing.proofs.lines.Text.coordinate.Goals as goal

pub hexadecimal-self-requires : goal.hexadecimal-self-requires
hexadecimal-self-requires c =
    let g = going_on (going_start _ (bits_parts c.args.c _ c.pattern.ensures) c.requires) c.byte.ensures in
    omega (arith, going_room g, length_hexadecimal c.pattern.result)

pub returns : goal.returns
returns c =
    let g = going_on (going_start _ (bits_parts c.args.c _ c.pattern.ensures) c.requires) c.byte.ensures in
    going_done (going_on g (record { same = refl; put = c.hexadecimal-self.ensures }))
