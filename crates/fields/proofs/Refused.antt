-- A refusal that `?` hands on is the refusal that came.
-- Assumes nothing.
use mathlib.Core.Path.{◌≡◌, ◌∙◌, ap}
use Rattle.std.specs.Prelude.{Result, Err}
use Rattle.std.specs.Result.{IsErrAnd}
use Rattle.std.proofs.lemmas.Result.{err_from_is_err_and}
use Rattle.geom.specs.declared.refusal.Refusal.{Refusal}

pub handed_on : {A : Type 0} (r : Result A Refusal) (n : Refusal) → IsErrAnd r (λ (m : Refusal). m ≡ n) → r ≡ Err n
handed_on r n e = let p = err_from_is_err_and r e in p.1 ∙ ap Err p.2
