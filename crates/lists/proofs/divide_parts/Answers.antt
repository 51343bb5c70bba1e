-- `lists::divide_parts` meets its contract: a list without entries makes nothing, and else the parts are divided. Assumes nothing.
use Rattle.geom.specs.Kinds.{kind_of}
use Rattle.geom.specs.Memory.{element_row}
use Rattle.division.proofs.Listing.{listed_none}
use Rattle.lists.proofs.divide_parts.Goals as goal

pub returns-then-count-eq0-clause-passed : goal.returns-then-count-eq0-clause-passed
returns-then-count-eq0-clause-passed g c =
    listed_none c.args.book.now.base c.args.book.now.room c.args.cells (g.P.Parts.rule (kind_of c.args.kind) c.args.book.now.base) (element_row (g.P.Parts.corners (kind_of c.args.kind)) c.args.old.now) c.if-count-eq0.true c.requires.begun.ready
