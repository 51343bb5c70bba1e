-- `lists::copy_points` meets its contract: a copy. Assumes nothing.
use mathlib.Core.Path.{◌∙◌, sym, ap}
use Rattle.geom.specs.Memory.{over}
use Rattle.division.proofs.Rows.{first_of_taken}
use Rattle.lists.proofs.copy_points.Goals as goal

pub returns : goal.returns
returns c = c.copy.ensures ∙ ap (over c.args.new.now) (sym (first_of_taken 0 c.args.old.now c.args.count c.requires.count_in_bounds))
