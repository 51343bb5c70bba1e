-- `fields::listed::listed` meets its contract: a count, then the rows. Assumes nothing.
use mathlib.Core.Path.{refl}
use Rattle.std.specs.Prelude.{Ok, Err}
use Rattle.fields.proofs.Refused.{handed_on}
use Rattle.fields.proofs.listed.listed.Goals as goal

pub returns-in_err-n : goal.returns-in_err-n
returns-in_err-n g c = rw (handed_on _ _ c.from_residual.ensures.1) (record { count = Err c.in_err-n.field-0.0; counts = c.in_err-n.ensures; behind = refl })

pub returns-in_err-several : goal.returns-in_err-several
returns-in_err-several g c = rw (handed_on _ _ c.from_residual-in_err-several.ensures.1) (record { count = Ok c.in_ok-n.n; counts = c.in_ok-n.ensures; behind = c.in_err-several.ensures })

pub returns : goal.returns
returns g c = record { count = Ok c.in_ok-n.n; counts = c.in_ok-n.ensures; behind = (refl, c.in_ok-several.ensures) }
