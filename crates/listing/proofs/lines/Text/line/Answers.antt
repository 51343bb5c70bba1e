-- `listing::lines::Text::line` meets its contract: its texts one after the other. Assumes nothing.
use Rattle.listing.proofs.Parts.{line_parts}
use Rattle.listing.proofs.Texts.{going_start, going_room, going_on, going_done}
use Rattle.listing.proofs.lines.Text.line.Goals as goal

pub byte-requires : goal.byte-requires
byte-requires c =
    let g0 = going_start c.args.self.now (line_parts c.args.name c.args.words.now c.args.width c.args.column c.args.vertices c.args.mark c.args.parities) c.requires.room in
    going_room g0

pub column-requires-clause-room : goal.column-requires-clause-room
column-requires-clause-room c =
    let g0 = going_start c.args.self.now (line_parts c.args.name c.args.words.now c.args.width c.args.column c.args.vertices c.args.mark c.args.parities) c.requires.room in
    going_room (going_on g0 c.byte.ensures)

pub column-requires-2-clause-room : goal.column-requires-2-clause-room
column-requires-2-clause-room c =
    let g0 = going_start c.args.self.now (line_parts c.args.name c.args.words.now c.args.width c.args.column c.args.vertices c.args.mark c.args.parities) c.requires.room in
    going_room (going_on (going_on g0 c.byte.ensures) c.column.ensures)

pub byte-requires-2 : goal.byte-requires-2
byte-requires-2 c =
    let g0 = going_start c.args.self.now (line_parts c.args.name c.args.words.now c.args.width c.args.column c.args.vertices c.args.mark c.args.parities) c.requires.room in
    going_room (going_on (going_on (going_on g0 c.byte.ensures) c.column.ensures) c.column-2.ensures)

pub returns : goal.returns
returns c =
    let g0 = going_start c.args.self.now (line_parts c.args.name c.args.words.now c.args.width c.args.column c.args.vertices c.args.mark c.args.parities) c.requires.room in
    going_done (going_on (going_on (going_on (going_on g0 c.byte.ensures) c.column.ensures) c.column-2.ensures) c.byte-2.ensures)
