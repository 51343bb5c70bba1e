-- `index::find` meets its contract. The invariant: the way of [a,b] has come to `link` at level `depth`, and its entry is no higher. The measure is what is
-- left of the 64 levels that an entry of another key can have. Assumes nothing.
use mathlib.Core.Path.{refl, sym, ◌∙◌, subst}
use mathlib.Core.List.{[], ◌∷◌}
use native.Mathlib.Numerals.{add-one}
use native.Mathlib.Omega.{arith}
use Rattle.index.specs.Answers.{Names, Believed}
use Rattle.index.proofs.Ways.{on, ends_bare, ends_under}
use Rattle.index.proofs.Pairs.{found, other, begin, shallow}
use Rattle.index.proofs.find.Goals as goal

pub returns-then-cells-eq0 : goal.returns-then-cells-eq0
returns-then-cells-eq0 c = record { absent = λ e l same. omega (arith, c.requires.room); hangs = λ l. absurd (omega arith) }

pub overflow_mul-home : goal.overflow_mul-home
overflow_mul-home c = omega (arith, c.bucket-home.ensures.below)

pub overflow_add-home : goal.overflow_add-home
overflow_add-home c = omega (arith, c.bucket-home.ensures.below)

pub word_at-recent-requires : goal.word_at-recent-requires
word_at-recent-requires c = omega (arith, c.bucket-home.ensures.below)

pub names-requires : goal.names-requires
names-requires c = c.requires.room

pub returns-then-names : goal.returns-then-names
returns-then-names c =
    let s = c.args in
    subst (Names s.words.now s.made (s.a ∷ s.b ∷ []) c.word_at-recent.result) c.if-names.true c.names.ensures

pub overflow_mul-home-2 : goal.overflow_mul-home-2
overflow_mul-home-2 c = omega (arith, c.bucket-home.ensures.below)

pub word_at-root-requires : goal.word_at-root-requires
word_at-root-requires c = omega (arith, c.bucket-home.ensures.below)

pub believed-requires : goal.believed-requires
believed-requires c = c.requires.room

pub overflow_mul-result : goal.overflow_mul-result
overflow_mul-result c = omega (arith, c.bucket-home.ensures.below)

pub overflow_mul-result-then-not-believed : goal.overflow_mul-result-then-not-believed
overflow_mul-result-then-not-believed c = omega (arith, c.bucket-home.ensures.below)

pub overflow_add-result : goal.overflow_add-result
overflow_add-result c = omega (arith, c.bucket-home.ensures.below)

pub returns-then-not-believed : goal.returns-then-not-believed
returns-then-not-believed c =
    let s = c.args in
    let p = c.requires in
    let h = c.bucket-home in
    let r = c.word_at-root in
    let t = c.believed in
    ends_bare p h.ensures r.ensures (subst (Believed s.words.now s.made h.result r.result) (c.if-not-believed.true) t.ensures)

pub loop-first-init : goal.loop-first-init
loop-first-init c =
    let s = c.args in
    let p = c.requires in
    let h = c.bucket-home in
    let r = c.word_at-root in
    let t = c.believed in
    let n = subst (Believed s.words.now s.made h.result r.result) (c.if-not-believed.false) t.ensures in
    begin p h.ensures r.ensures n.0 n.1

pub word_at-first-requires : goal.word_at-first-requires
word_at-first-requires c = let g = c.loop-first.invariant in omega (arith, g.at.below, g.at.linked.room)

pub word_at-second-requires : goal.word_at-second-requires
word_at-second-requires c = let g = c.loop-first.invariant in omega (arith, g.at.below, g.at.linked.room)

pub word_at-next-requires : goal.word_at-next-requires
word_at-next-requires c = let g = c.loop-first.invariant in omega (arith, g.at.below, g.at.linked.room)

pub overflow_mul-answer : goal.overflow_mul-answer
overflow_mul-answer c = let g = c.loop-first.invariant in omega (arith, g.at.below, g.at.linked.room)

pub overflow_add-answer : goal.overflow_add-answer
overflow_add-answer c = let g = c.loop-first.invariant in omega (arith, g.at.below, g.at.linked.room)

pub overflow_add-answer-then-next-eq-NONE : goal.overflow_add-answer-then-next-eq-NONE
overflow_add-answer-then-next-eq-NONE c = let g = c.loop-first.invariant in omega (arith, g.at.below, g.at.linked.room)

pub overflow_add-depth : goal.overflow_add-depth
overflow_add-depth c = omega (arith, c.loop-first.invariant.shallow)

pub loop-first-smaller : goal.loop-first-smaller
loop-first-smaller c =
    let g = c.loop-first.invariant in
    let x = c.word_at-first in
    let y = c.word_at-second in
    let no = sym c.same.ensures ∙ c.if-same.false in
    let z = c.ranges in
    omega (arith, shallow g z.a.fits z.b.fits (omega (arith, x.type_inv)) (omega (arith, y.type_inv)) x.ensures y.ensures no)

pub loop-first-preserved : goal.loop-first-preserved
loop-first-preserved c =
    let s = c.args in
    let g = c.loop-first.invariant in
    let x = c.word_at-first in
    let y = c.word_at-second in
    let no = sym c.same.ensures ∙ c.if-same.false in
    let z = c.ranges in
    rw add-one (on g (other s.words.now c.loop-first.link x.ensures y.ensures no) (shallow g z.a.fits z.b.fits (omega (arith, x.type_inv)) (omega (arith, y.type_inv)) x.ensures y.ensures no) refl c.word_at-next.ensures c.if-next-eq-NONE.false)

pub returns-then-same : goal.returns-then-same
returns-then-same c =
    let g = c.loop-first.invariant in
    let yes = sym c.same.ensures ∙ c.if-same.true in
    found c.args.words.now c.loop-first.link g.at.below c.word_at-first.ensures c.word_at-second.ensures yes

pub returns-then-next-eq-NONE : goal.returns-then-next-eq-NONE
returns-then-next-eq-NONE c =
    let s = c.args in
    let g = c.loop-first.invariant in
    let x = c.word_at-first in
    let y = c.word_at-second in
    let no = sym c.same.ensures ∙ c.if-same.false in
    ends_under g (other s.words.now c.loop-first.link x.ensures y.ensures no) refl c.word_at-next.ensures c.if-next-eq-NONE.true (omega arith)
