-- `figure::load` meets its contract: 9, the judgement, and the mesh on the first bench. Assumes nothing.
use mathlib.Core.Path.{◌≡◌, ◌∙◌, sym, ap}
use mathlib.Core.Bool.{Bool}
use Rattle.judge.specs.Counts.{lengths_of, equal_of}
use Rattle.judge.specs.declared.counts.Lengths.{Lengths}
use Rattle.figure.proofs.Benches.{load_nine, load_refused, load_ready, load_read}
use Rattle.figure.proofs.load.Goals as goal

-- lengths that were compared are those of the lists that they were read off
compared : {r : Bool} {a b x y : Lengths} → r ≡ equal_of a b → a ≡ x → b ≡ y → r ≡ equal_of x y
compared e f g = rw (sym f, sym g) e

pub returns-then-not-benches_equal-clause-loaded : goal.returns-then-not-benches_equal-clause-loaded
returns-then-not-benches_equal-clause-loaded c =
    let e = compared c.benches_equal.ensures (c.of-first.ensures ∙ ap lengths_of c.read.ensures) c.of-second.ensures in
    load_nine _ _ _ _ (sym e ∙ c.if-not-benches_equal.true) c.refused.ensures

pub write-requires : goal.write-requires
write-requires c =
    let first = c.of-first.ensures ∙ ap lengths_of c.read.ensures in
    let e = compared c.benches_equal.ensures first c.of-second.ensures in
    load_ready _ _ _ (sym e ∙ c.if-not-benches_equal.false) _ _ (rw first at c.in-Ok.ensures)

pub returns-in-Err-clause-loaded : goal.returns-in-Err-clause-loaded
returns-in-Err-clause-loaded c =
    let first = c.of-first.ensures ∙ ap lengths_of c.read.ensures in
    let e = compared c.benches_equal.ensures first c.of-second.ensures in
    load_refused _ _ _ (sym e ∙ c.if-not-benches_equal.false) _ _ (rw first at c.in-Err.ensures) c.refused-in-Err.ensures

pub returns-in-Ok-clause-loaded : goal.returns-in-Ok-clause-loaded
returns-in-Ok-clause-loaded c =
    let first = c.of-first.ensures ∙ ap lengths_of c.read.ensures in
    let e = compared c.benches_equal.ensures first c.of-second.ensures in
    load_read _ _ _ (sym e ∙ c.if-not-benches_equal.false) _ _ (rw first at c.in-Ok.ensures) _ _ c.write.ensures.written c.read-in-Ok.ensures
