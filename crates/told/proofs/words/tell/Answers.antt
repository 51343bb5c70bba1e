-- `told::words::tell` meets its contract: the words say the answer (`told_by_lem`). Assumes nothing.
use Rattle.told.proofs.Saying.{sizes_words, told_by_lem}
use Rattle.told.proofs.words.tell.Goals as goal

pub returns : goal.returns
unfolding sizes_words
returns c = told_by_lem _ _ c.number.ensures
