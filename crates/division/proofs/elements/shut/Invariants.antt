-- `division::elements::shut` meets its contract: an edge a turn (`Shutting`). Assumes nothing.
use Prim.Native.Nat.{◌-◌}
use lib.ListN.{take, drop}
use Rattle.geom.specs.Elements.{pick}
use Rattle.division.proofs.Flats.{Shutting}
use Rattle.division.proofs.elements.shut.Given as goal

abbrev pub invariant-loop-i : goal.invariant-loop-i
invariant-loop-i l = Shutting (pick l.points (take l.corners (drop l.from l.table))) l.axes l.corners l.axis l.i

abbrev pub decreases-loop-i : goal.decreases-loop-i
decreases-loop-i l = l.count - l.i
