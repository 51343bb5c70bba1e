-- `vertices::gather::Gathered::to_corners` meets its contract: each vertex has what the corners passed give it. Assumes nothing.
use Rattle.geom.specs.Floats.{binary32}
use Rattle.vertices.specs.Gathered.{Kept}
use Rattle.vertices.proofs.Gathering.{Spread}
use Rattle.vertices.proofs.gather.Gathered.to_corners.Given as goal

abbrev pub invariant-loop-v : goal.invariant-loop-v
invariant-loop-v l = record { kept : Kept l.initial.self l.self; told : Spread binary32 l.initial.self.sums.now l.initial.self.tallies.now l.corners l.p l.rank l.self.sums.now l.self.tallies.now l.v-index }
