-- `figure::writing::put_steps` meets its contract: the vertices passed were written. Assumes nothing.
use Rattle.figure.proofs.Strings.{stepping_start, stepping_on, stepping_done}
use Rattle.figure.proofs.writing.put_steps.Goals as goal

pub loop-j-init : goal.loop-j-init
loop-j-init c = stepping_start _ _ _ _ _

pub loop-j-preserved : goal.loop-j-preserved
loop-j-preserved c = stepping_on _ _ _ _ _ _ _ c.loop-j.invariant _ _ c.big_endian.ensures c.step_word-word.ensures

pub returns : goal.returns
returns c = stepping_done _ _ _ _ _ _ _ c.loop-j.invariant c.loop-j.auto.j-end c.loop-j-test.false c.requires.steps.some
