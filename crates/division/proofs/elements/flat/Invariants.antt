-- `division::elements::flat` meets its contract: an axis a turn (`Flattening`). Assumes nothing.
use Prim.Native.Nat.{◌-◌}
use lib.ListN.{length, take, drop}
use Rattle.geom.specs.Elements.{pick}
use Rattle.division.proofs.Flats.{Flattening}
use Rattle.division.proofs.elements.flat.Given as goal

abbrev pub invariant-loop-axis : goal.invariant-loop-axis
invariant-loop-axis l = Flattening (pick l.points (take l.corners (drop l.from l.table))) l.axes l.corners l.axis

abbrev pub decreases-loop-axis : goal.decreases-loop-axis
decreases-loop-axis l = length l.axes - l.axis
