-- `told::words::stated` meets its contract. Assumes nothing.
use mathlib.Core.Path.{refl}
use Rattle.told.specs.Told.{sizes_from}
use Rattle.told.proofs.words.stated.Goals as goal

pub returns : goal.returns
unfolding sizes_from
returns c = refl
