-- `judge::mesh::counts_within` meets its contract. Assumes nothing.
use mathlib.Core.Path.{◌∙◌}
use Rattle.judge.proofs.Verdicts.{lent_told, curves_room, counts_off, counts_on}
use Rattle.judge.proofs.mesh.counts_within.Goals as goal

pub returns-then-not-within : goal.returns-then-not-within
returns-then-not-within c = λ F b e q. counts_off _ _ _ _ b e q (lent_told _ _ _ _ c.cells.ensures _ c.within.ensures ∙ c.if-not-within.true)

pub lengths_hold-requires : goal.lengths_hold-requires
lengths_hold-requires c = curves_room _ _ _ _ (lent_told _ _ _ _ c.cells.ensures _ c.within.ensures ∙ c.if-not-within.false) c.requires

pub returns : goal.returns
returns c = λ F b e q. counts_on _ _ _ _ b e q _ (lent_told _ _ _ _ c.cells.ensures _ c.within.ensures ∙ c.if-not-within.false) c.lengths_hold.ensures
