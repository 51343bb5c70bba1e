-- `told::words::tell_sizes` meets its contract: the words say the answer (`outcome_by`). Assumes nothing.
use Rattle.told.proofs.Saying.{sizes_words, outcome_by}
use Rattle.told.proofs.words.tell_sizes.Goals as goal

pub returns : goal.returns
unfolding sizes_words
returns c = outcome_by _ _ c.number.ensures
