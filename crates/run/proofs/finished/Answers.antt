-- `run::finished` meets its contract: by computation. Assumes nothing.
use mathlib.Core.Path.{refl}
use Rattle.geom.specs.Answers.{verdict_of, told}
use Rattle.run.proofs.finished.Goals as goal

pub returns : goal.returns
unfolding told verdict_of
returns c = refl
