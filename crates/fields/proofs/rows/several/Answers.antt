-- `fields::rows::several` meets its contract: the rows passed were judged. Assumes nothing.
use native.Mathlib.Omega.{arith}
use Rattle.fields.proofs.Refused.{handed_on}
use Rattle.fields.proofs.rows.several.Goals as goal

pub returns-in_err-row : goal.returns-in_err-row
returns-in_err-row g c = rw (handed_on _ _ c.from_residual.ensures.1) (record { passed = c.loop-i.i; stands = c.loop-i.invariant.0; rows = c.loop-i.invariant.1; behind = (c.loop-i-test.true, c.in_err-row.ensures) })

pub returns : goal.returns
returns g c = record { passed = c.loop-i.i; stands = c.loop-i.invariant.0; rows = c.loop-i.invariant.1; behind = omega arith }
