-- `run::run` meets its contract: a pass a turn (`Lending`). Assumes nothing.
use Rattle.geom.specs.Kinds.{kind_of}
use Rattle.run.proofs.Going.{Lending}
use Rattle.run.proofs.run.Given as goal

abbrev pub invariant-loop-passes : goal.invariant-loop-passes
invariant-loop-passes l = Lending (kind_of l.terms.kind) l.terms.time l.terms.base l.terms.room l.terms.cells l.depth l.initial.sizes l.initial.first l.initial.second l.initial.work l.first l.second l.work l.passes l.sizes l.made
