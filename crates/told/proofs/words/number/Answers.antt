-- `told::words::number` meets its contract: the number says the whole verdict. Assumes nothing.
use Rattle.told.proofs.Saying.{finished_by, refused_by}
use Rattle.told.proofs.words.number.Goals as goal

pub returns-in-Ok : goal.returns-in-Ok
returns-in-Ok c = finished_by c.in-Ok.is

pub returns-in-Err : goal.returns-in-Err
returns-in-Err c = refused_by _ c.from.ensures c.in-Err.is
