-- `judge::words::words_below` meets its contract: it is known whether the words passed are below the bound. Assumes nothing.
use native.Mathlib.Omega.{arith}
use mathlib.Core.Path.{sym}
use lib.ListN.{length-take}
use Rattle.std.proofs.lemmas.List.{get_or-take}
use Rattle.judge.proofs.Every.{every_start, every_with, every_done, number_below}
use Rattle.judge.proofs.words.words_below.Goals as goal

pub loop-word-init : goal.loop-word-init
loop-word-init c = sym (every_start _ _)

pub loop-word-preserved : goal.loop-word-preserved
loop-word-preserved c =
    every_with _ _ _ _ _ c.loop-word.invariant (number_below _ _ _ (get_or-take c.args.end c.args.words.now c.loop-word.word-index 0 (omega (arith, length-take c.args.end c.args.words.now, c.requires, c.loop-word-test.true))))

pub returns : goal.returns
returns c = every_done _ _ _ _ _ (omega (arith, length-take c.args.end c.args.words.now, c.requires, c.loop-word.auto.word-index-end)) (omega (arith, length-take c.args.end c.args.words.now, c.requires, c.loop-word-test.false)) c.loop-word.invariant
