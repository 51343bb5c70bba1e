-- `listing::lines::Text::vertex_lines` meets its contract. The invariant: the lines of the vertices so far were added. Assumes nothing.
use mathlib.Core.Path.{refl}
use native.Mathlib.Omega.{arith}
use Rattle.listing.proofs.Texts.{lining_start, lining_room, lining_on}
use Rattle.listing.proofs.lines.Text.vertex_lines.Goals as goal

pub loop-i-init : goal.loop-i-init
loop-i-init c = lining_start _ _ _ c.requires.room

pub vertex-requires : goal.vertex-requires
vertex-requires c = record { i_in_bounds = omega arith; room = lining_room _ c.loop-i.invariant c.loop-i-test.true refl }

pub loop-i-preserved : goal.loop-i-preserved
loop-i-preserved c = lining_on _ c.loop-i.invariant c.loop-i-test.true refl c.vertex.ensures
