-- `page::answer` meets its contract: what is worked out for the bytes that were read is the text of every input of which so much was read. Assumes nothing.
use Rattle.page.proofs.Pages.{answered}
use Rattle.page.proofs.answer.Goals as goal

pub returns : goal.returns
returns c = answered c.args.buffer.now c.args.n c.requires.longer c.sheet.ensures
