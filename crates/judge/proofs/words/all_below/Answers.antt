-- `judge::words::all_below` meets its contract: a bound that fits a word is compared, and no word reaches another. Assumes nothing.
use Rattle.judge.proofs.Every.{words_narrow}
use Rattle.judge.proofs.words.all_below.Goals as goal

pub returns : goal.returns
returns c = words_narrow c.args.words.now c.args.end _ _ (λ i. (c.type_inv.words i).fits) c.if-bound-lt4294967296.false
