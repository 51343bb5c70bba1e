-- `listing::lines::Text::position` meets its contract. The invariant: the texts of the coordinates so far were added. Assumes nothing.
use mathlib.Core.Path.{sym, ap}
use lib.Ieee.{Float}
use Rattle.geom.specs.Listing.{bits}
use Rattle.listing.proofs.Texts.{lining_start, lining_room, lining_on}
use Rattle.listing.proofs.lines.Text.position.Goals as goal

pub loop-i-init : goal.loop-i-init
loop-i-init c = lining_start _ _ _ c.requires.room

pub coordinate-requires : goal.coordinate-requires
coordinate-requires c = lining_room _ c.loop-i.invariant c.loop-i-test.true (ap (λ (x : Float). bits x) (sym c.number.ensures))

pub loop-i-preserved : goal.loop-i-preserved
loop-i-preserved c = lining_on _ c.loop-i.invariant c.loop-i-test.true (ap (λ (x : Float). bits x) (sym c.number.ensures)) c.coordinate.ensures
