-- `judge::mesh::counts_hold` meets its contract, from that of `counts_within`. Assumes nothing.
use mathlib.Core.Path.{sym, ◌∙◌, ap}
use Rattle.judge.specs.declared.counts.Lengths.{Lengths}
use Rattle.judge.proofs.mesh.counts_hold.Goals as goal

pub counts_within-requires : goal.counts_within-requires
counts_within-requires c = ap (λ (l : Lengths). l.curves) c.of.ensures

pub returns : goal.returns
returns c = λ n b e q. c.counts_within.ensures n b (e ∙ sym c.of.ensures) q
