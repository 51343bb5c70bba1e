-- `judge::words::part_holds` meets its contract. Assumes nothing.
use native.Mathlib.Omega.{arith}
use mathlib.Core.Path.{sym, ◌∙◌}
use Rattle.judge.proofs.Parts.{steps_parities, no_steps}
use Rattle.judge.proofs.words.part_holds.Goals as goal

pub returns-then-count-eq0 : goal.returns-then-count-eq0
returns-then-count-eq0 c = λ total h. sym (no_steps _ _ c.if-count-eq0.true)

pub column_below-requires : goal.column_below-requires
column_below-requires c = record { column = record { stands = λ i h. omega arith }; width_bound = omega arith }

pub returns : goal.returns
returns c = λ total h. c.column_below.ensures ∙ steps_parities _ _ _ total (omega arith) h
