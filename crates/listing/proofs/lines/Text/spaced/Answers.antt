-- `listing::lines::Text::spaced` meets its contract: a space, and the number behind it. Assumes nothing.
use Rattle.geom.specs.Listing.{decimal}
use Rattle.listing.proofs.Parts.{spaced_parts}
use Rattle.listing.proofs.Texts.{going_start, going_room, going_on, going_done}
use Rattle.listing.proofs.lines.Text.spaced.Goals as goal

pub decimal-requires : goal.decimal-requires
decimal-requires c =
    let g = going_on (going_start _ (spaced_parts (decimal c.args.n)) c.requires) c.byte.ensures in
    going_room g

pub returns : goal.returns
returns c =
    let g = going_on (going_start _ (spaced_parts (decimal c.args.n)) c.requires) c.byte.ensures in
    going_done (going_on g c.decimal.ensures)
