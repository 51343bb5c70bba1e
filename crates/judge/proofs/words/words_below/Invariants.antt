-- `judge::words::words_below` meets its contract: it is known whether the words passed are below the bound. Assumes nothing.
use mathlib.Core.Path.{◌≡◌}
use Rattle.judge.specs.Words.{words_below}
use Rattle.judge.proofs.words.words_below.Given as goal

abbrev pub invariant-loop-word : goal.invariant-loop-word
invariant-loop-word l = l.all ≡ words_below l.words l.word-index l.bound
