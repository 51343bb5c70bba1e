-- `left::left` meets its contract: the first items of the side that the pass count picks. Assumes nothing.
use mathlib.Core.Path.{refl, ◌∙◌, ap}
use lib.ListN.{take}
use Rattle.left.proofs.Picked.{picked}
use Rattle.left.proofs.left.Goals as goal

pub returns-then-wrote_first : goal.returns-then-wrote_first
returns-then-wrote_first g c = c.at_most.ensures ∙ ap (take c.args.words) (picked c.args.passes c.args.first.now c.args.second.now c.wrote_first.ensures c.if-wrote_first.true refl)

pub returns : goal.returns
returns g c = c.at_most-2.ensures ∙ ap (take c.args.words) (picked c.args.passes c.args.first.now c.args.second.now c.wrote_first.ensures c.if-wrote_first.false refl)
