-- `told::opening::refusal` meets its contract. Assumes nothing.
use mathlib.Core.Path.{sym, ◌∙◌, ap}
use Rattle.geom.specs.Answers.{judgement_of}
use Rattle.told.specs.Told.{refusal_of}
use Rattle.told.proofs.opening.refusal.Goals as goal

pub returns-in-Ok : goal.returns-in-Ok
unfolding judgement_of
returns-in-Ok c = sym (ap (λ o. refusal_of (judgement_of o)) c.in-Ok.is)

pub returns-in-Err : goal.returns-in-Err
unfolding judgement_of
returns-in-Err c = c.from.ensures ∙ sym (ap (λ o. refusal_of (judgement_of o)) c.in-Err.is)
