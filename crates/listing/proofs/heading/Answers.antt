-- `listing::heading` meets its contract: the texts of the line one after the other. Assumes nothing.
use Rattle.listing.proofs.Whole.{heading_parts}
use Rattle.listing.proofs.Texts.{going_start, going_room, going_on, going_done}
use Rattle.listing.proofs.heading.Goals as goal

pub spaced-requires : goal.spaced-requires
spaced-requires c =
    let g0 = going_start c.args.text.now (heading_parts c.args.count) c.requires in
    going_room (going_on g0 c.say.ensures)

pub byte-requires : goal.byte-requires
byte-requires c =
    let g0 = going_start c.args.text.now (heading_parts c.args.count) c.requires in
    going_room (going_on (going_on g0 c.say.ensures) c.spaced.ensures)

pub returns : goal.returns
returns c =
    let g0 = going_start c.args.text.now (heading_parts c.args.count) c.requires in
    going_done (going_on (going_on (going_on g0 c.say.ensures) c.spaced.ensures) c.byte.ensures)
