-- `division::elements::turned` meets its contract. Assumes nothing.
use mathlib.Core.Path.{◌∙◌, ap}
use Rattle.geom.specs.declared.parity.Parity.{Parity}
use Rattle.geom.specs.Parity.{times}
use Rattle.geom.proofs.Rows.{parity_odd}
use Rattle.division.proofs.elements.turned.Goals as goal

pub returns : goal.returns
returns c =
    c.flip.ensures ∙ ap (λ (q : Parity). times q c.args.parity) (parity_odd c.args.flip c.if-flip-eq0.false)
