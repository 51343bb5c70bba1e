-- `told::opening::kind_word` meets its contract. Assumes nothing.
use mathlib.Core.Path.{sym, ◌∙◌, ap}
use Rattle.geom.specs.Answers.{judgement_of}
use Rattle.told.specs.Told.{kind_word}
use Rattle.told.proofs.Saying.{kind_said}
use Rattle.told.proofs.opening.kind_word.Goals as goal

pub returns-in-Ok : goal.returns-in-Ok
unfolding judgement_of
returns-in-Ok c = kind_said c.in-Ok.kind ∙ sym (ap (λ o. kind_word (judgement_of o)) c.in-Ok.is)

pub returns-in-Err : goal.returns-in-Err
unfolding judgement_of
returns-in-Err c = sym (ap (λ o. kind_word (judgement_of o)) c.in-Err.is)
