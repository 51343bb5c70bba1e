-- `index::enter` meets its contract: what it stores is the new entry. Assumes nothing.
use native.Mathlib.Omega.{arith}
use lib.ListN.{length-set}
use Rattle.index.proofs.Pairs.{open_fits, stored}
use Rattle.index.proofs.enter.Goals as goal

pub bounds-words-made-2 : goal.bounds-words-made-2
bounds-words-made-2 c = simp length-set (omega (arith, c.requires.lent, c.bucket-home.ensures.below))

pub bounds-words-made-3 : goal.bounds-words-made-3
bounds-words-made-3 c = simp length-set (omega (arith, c.requires.lent, c.bucket-home.ensures.below))

pub bounds-words-made-4 : goal.bounds-words-made-4
bounds-words-made-4 c = simp length-set (omega (arith, c.requires.lent, c.bucket-home.ensures.below))

pub offset_bounds-words-at : goal.offset_bounds-words-at
offset_bounds-words-at c = omega (arith, open_fits c.requires)

pub bounds-words-at : goal.bounds-words-at
bounds-words-at c = simp length-set (omega (arith, open_fits c.requires))

pub bounds-words-cells : goal.bounds-words-cells
bounds-words-cells c = simp length-set (omega (arith, c.requires.lent, c.bucket-home.ensures.below))

pub returns : goal.returns
returns c =
    let s = c.args in
    stored s.words.now s.made s.at s.a s.b c.requires c.bucket-home.ensures
