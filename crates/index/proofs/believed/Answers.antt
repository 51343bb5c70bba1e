-- `index::believed` meets its contract. Assumes nothing.
use mathlib.Core.Path.{refl}
use Rattle.index.proofs.Pairs.{bucketed}
use Rattle.index.proofs.believed.Goals as goal

pub returns : goal.returns
returns c = bucketed c.args.words.now _ _ _ _ c.if-made-link.false c.word_at.ensures c.word_at-2.ensures c.bucket-its.ensures refl
