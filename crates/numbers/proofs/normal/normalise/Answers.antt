-- `numbers::normal::normalise` meets its contract: what it gives where the test for Flat holds, and where it fails. Assumes nothing.
use Rattle.std.proofs.Common.{Some, sym, ap, ◌∙◌}
use Rattle.numbers.proofs.Normals.{flat_is_Flat, else_a_direction}
use Rattle.numbers.proofs.normal.normalise.Goals as goal

pub returns-then-is_flat : goal.returns-then-is_flat
returns-then-is_flat g c = sym (flat_is_Flat _ _ _ (sym c.is_flat.ensures ∙ c.if-is_flat.true))

pub returns : goal.returns
returns g c = ap Some c.unit.ensures ∙ sym (else_a_direction _ _ _ (sym c.is_flat.ensures ∙ c.if-is_flat.false))
