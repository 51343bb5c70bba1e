-- `index::names` meets its contract. Assumes nothing.
use Rattle.index.proofs.Pairs.{named}
use Rattle.index.proofs.names.Goals as goal

pub returns : goal.returns
returns c = named c.args.words.now _ _ _ _ _ _ _ c.if-made-link.false c.word_at.ensures c.word_at-2.ensures c.same.ensures
