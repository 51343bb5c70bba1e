-- `roots::walk::at_field_ends` meets its contract. The invariant: each turn has visited two patterns. Assumes nothing.
use Rattle.std.proofs.Common.{◌*◌}
use Rattle.roots.specs.Counts.{Visited}
use Rattle.roots.proofs.walk.at_field_ends.Given as goal

abbrev pub invariant-loop-field : goal.invariant-loop-field
invariant-loop-field l = Visited l.initial.done l.done (2 * l.field)
