-- `told::opening::tell_reading` meets its contract: the words say the answer (`opening_by`). Assumes nothing.
use Rattle.told.proofs.Saying.{sizes_words, opening_by}
use Rattle.told.proofs.opening.tell_reading.Goals as goal

pub returns : goal.returns
unfolding sizes_words
returns c = opening_by _ _ _ c.refusal.ensures c.kind_word.ensures
