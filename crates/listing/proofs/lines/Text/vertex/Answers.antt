-- `listing::lines::Text::vertex` meets its contract: its texts one after the other. Assumes nothing.
use Rattle.listing.proofs.Parts.{vertex_parts}
use Rattle.listing.proofs.Texts.{going_start, going_room, going_on, going_done}
use Rattle.listing.proofs.lines.Text.vertex.Goals as goal

pub byte-requires : goal.byte-requires
byte-requires c =
    let g0 = going_start c.args.self.now (vertex_parts c.args.positions.now c.args.i) c.requires.room in
    going_room g0

pub spaced-requires : goal.spaced-requires
spaced-requires c =
    let g0 = going_start c.args.self.now (vertex_parts c.args.positions.now c.args.i) c.requires.room in
    going_room (going_on g0 c.byte.ensures)

pub byte-requires-2 : goal.byte-requires-2
byte-requires-2 c =
    let g0 = going_start c.args.self.now (vertex_parts c.args.positions.now c.args.i) c.requires.room in
    going_room (going_on (going_on (going_on g0 c.byte.ensures) c.spaced.ensures) c.position.ensures)

pub returns : goal.returns
returns c =
    let g0 = going_start c.args.self.now (vertex_parts c.args.positions.now c.args.i) c.requires.room in
    going_done (going_on (going_on (going_on (going_on g0 c.byte.ensures) c.spaced.ensures) c.position.ensures) c.byte-2.ensures)

pub position-requires-clause-room : goal.position-requires-clause-room
position-requires-clause-room c =
    let g0 = going_start c.args.self.now (vertex_parts c.args.positions.now c.args.i) c.requires.room in
    going_room (going_on (going_on g0 c.byte.ensures) c.spaced.ensures)
