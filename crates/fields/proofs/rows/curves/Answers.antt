-- `fields::rows::curves` meets its contract: the curves passed were read, and the next begins behind them. Assumes nothing.
use Rattle.fields.proofs.Refused.{handed_on}
use Rattle.fields.proofs.Curves.{winding_start, winding_on, winding_off}
use Rattle.fields.proofs.rows.curves.Goals as goal

pub loop-i-init : goal.loop-i-init
loop-i-init c = winding_start _ _ _ _ _ c.requires

pub returns-in_err-some : goal.returns-in_err-some
returns-in_err-some c = rw (handed_on _ _ c.from_residual.ensures.1) (winding_off _ _ _ _ _ _ _ _ c.loop-i.invariant _ c.loop-i-test.true c.in_err-some.ensures)

pub loop-i-preserved : goal.loop-i-preserved
loop-i-preserved c = winding_on _ _ _ _ _ _ _ _ c.loop-i.invariant _ c.loop-i-test.true c.in_ok-some.ensures
