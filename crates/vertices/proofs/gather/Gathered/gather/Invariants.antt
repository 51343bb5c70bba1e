-- `vertices::gather::Gathered::gather` meets its contract: each vertex has what the elements passed give it. Assumes nothing.
use Rattle.geom.specs.Floats.{binary32}
use Rattle.vertices.specs.Gathered.{Kept}
use Rattle.vertices.proofs.Gathering.{Collecting}
use Rattle.vertices.proofs.gather.Gathered.gather.Given as goal

abbrev pub invariant-loop-i : goal.invariant-loop-i
invariant-loop-i g l = record {
  kept : Kept l.initial.self l.self;
  told : Collecting binary32 l.rank g.R.Rule.gives l.positions l.list.words.now g.row.N l.count l.initial.self.sums.now l.initial.self.tallies.now l.self.sums.now l.self.tallies.now l.i;
}
