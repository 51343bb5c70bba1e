-- `figure::writing::put_elements` meets its contract: the elements passed were written. Assumes nothing.
use mathlib.Core.Path.{refl}
use Rattle.figure.proofs.Elements.{elements_start, elements_on, elements_done}
use Rattle.figure.proofs.writing.put_elements.Goals as goal

pub loop-i-init : goal.loop-i-init
loop-i-init c = elements_start _ _ _ _ _

pub loop-i-preserved : goal.loop-i-preserved
loop-i-preserved c = elements_on _ _ _ _ _ _ _ c.loop-i.invariant _ c.put_element.ensures

pub returns : goal.returns
returns c = (refl, elements_done _ _ _ _ _ _ _ c.loop-i.invariant c.loop-i.auto.i-end c.loop-i-test.false c.requires.room)
