-- `vertices::gather::Gathered::update` meets its contract. Assumes nothing.
use native.Mathlib.Omega.{arith}
use mathlib.Core.Path.{refl, sym, ◌∙◌}
use Rattle.vertices.specs.Cells.{gathered_row_in}
use Rattle.geom.specs.Floats.{binary32}
use Rattle.vertices.proofs.Gathering.{update_off, update_on}
use Rattle.vertices.proofs.gather.Gathered.update.Goals as goal

pub returns-then-ignored-clause-rows : goal.returns-then-ignored-clause-rows
returns-then-ignored-clause-rows c = update_off binary32 _ _ _ _ _ _ refl (sym c.ignored.ensures ∙ c.if-ignored.true)

pub overflow_add-count : goal.overflow_add-count
unfolding gathered_row_in
overflow_add-count c = omega arith

pub returns-clause-rows : goal.returns-clause-rows
returns-clause-rows c = update_on binary32 _ _ _ _ _ _ _ _ c.sum-sum.ensures refl refl (sym c.ignored.ensures ∙ c.if-ignored.false) _ c.add.ensures _ _ c.put.ensures.rows
