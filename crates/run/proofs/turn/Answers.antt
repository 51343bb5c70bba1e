-- `run::turn` meets its contract: the pass is made from the side that the count picks to the other. Assumes nothing.
use mathlib.Core.Path.{sym, ◌∙◌, subst}
use Rattle.geom.specs.Kinds.{kind_of}
use Rattle.geom.specs.Lent.{words_on}
use Rattle.geom.specs.Memory.{Bench}
use Rattle.geom.specs.Refusals.{side}
use Rattle.pass.specs.Benches.{Held, Lends}
use Rattle.run.proofs.Going.{side_even, side_odd, other_even, other_odd, turned}
use Rattle.run.proofs.turn.Goals as goal

pub pass-requires : goal.pass-requires
pass-requires c =
    let a = c.args in
    let here = side_even a.passes (words_on a.first.now) (words_on a.second.now) c.if-passes-eq0.true ∙ sym c.read.ensures in
    let there = other_even a.passes (words_on a.first.now) (words_on a.second.now) c.if-passes-eq0.true in
    record {
      held = subst (λ (x : Bench). Held (kind_of a.terms.kind) a.terms.base a.s x a.work.now.book.now a.made) here c.requires.held;
      lends =
          subst (λ (x : Bench). Lends (kind_of a.terms.kind) a.terms.base a.terms.room a.terms.cells x (words_on a.second.now) a.work.now.book.now a.work.now.sums.now a.work.now.tallies.now) here
          (subst (λ (y : Bench). Lends (kind_of a.terms.kind) a.terms.base a.terms.room a.terms.cells (side a.passes (words_on a.first.now) (words_on a.second.now)) y a.work.now.book.now a.work.now.sums.now a.work.now.tallies.now) there c.requires.lends);
    }

pub returns-then-passes-eq0-clause-stays : goal.returns-then-passes-eq0-clause-stays
returns-then-passes-eq0-clause-stays c =
    let e = c.if-passes-eq0.true in
    side_even c.args.passes _ _ e ∙ sym (side_even c.args.passes _ _ e)

pub returns-then-passes-eq0-clause-passed : goal.returns-then-passes-eq0-clause-passed
returns-then-passes-eq0-clause-passed c =
    let e = c.if-passes-eq0.true in
    turned c.args.terms.time c.args.s c.args.made c.args.work.now.book.now (c.read.ensures ∙ sym (side_even c.args.passes _ _ e)) (sym (other_even c.args.passes _ _ e)) c.pass.ensures.passed

pub pass-requires-2 : goal.pass-requires-2
pass-requires-2 c =
    let a = c.args in
    let here = side_odd a.passes (words_on a.first.now) (words_on a.second.now) c.if-passes-eq0.false ∙ sym c.read-2.ensures in
    let there = other_odd a.passes (words_on a.first.now) (words_on a.second.now) c.if-passes-eq0.false in
    record {
      held = subst (λ (x : Bench). Held (kind_of a.terms.kind) a.terms.base a.s x a.work.now.book.now a.made) here c.requires.held;
      lends =
          subst (λ (x : Bench). Lends (kind_of a.terms.kind) a.terms.base a.terms.room a.terms.cells x (words_on a.first.now) a.work.now.book.now a.work.now.sums.now a.work.now.tallies.now) here
          (subst (λ (y : Bench). Lends (kind_of a.terms.kind) a.terms.base a.terms.room a.terms.cells (side a.passes (words_on a.first.now) (words_on a.second.now)) y a.work.now.book.now a.work.now.sums.now a.work.now.tallies.now) there c.requires.lends);
    }

pub returns-clause-stays : goal.returns-clause-stays
returns-clause-stays c =
    let e = c.if-passes-eq0.false in
    side_odd c.args.passes _ _ e ∙ sym (side_odd c.args.passes _ _ e)

pub returns-clause-passed : goal.returns-clause-passed
returns-clause-passed c =
    let e = c.if-passes-eq0.false in
    turned c.args.terms.time c.args.s c.args.made c.args.work.now.book.now (c.read-2.ensures ∙ sym (side_odd c.args.passes _ _ e)) (sym (other_odd c.args.passes _ _ e)) c.pass-2.ensures.passed
