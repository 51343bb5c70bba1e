-- `loading::on_both` meets its contract: what was read is the definition's figure, and its refinement the definition's text. Assumes nothing.
use Rattle.loading.proofs.Opening.{found_handed, found_text, found_refused}
use Rattle.printing.proofs.Texts.{printed_as}
use Rattle.loading.proofs.on_both.Goals as goal

pub refined-requires : goal.refined-requires
refined-requires c =
    found_handed c.load-reading.result c.requires c.load-reading.ensures.loaded c.read.ensures c.in-Ok.is c.load-reading.ensures.same.long

pub returns-in-Ok : goal.returns-in-Ok
returns-in-Ok c =
    printed_as (found_text c.load-reading.result c.requires c.load-reading.ensures.loaded c.read.ensures c.in-Ok.is c.load-reading.ensures.same.long c.args.depth) c.refined.ensures

pub returns-in-Err : goal.returns-in-Err
returns-in-Err c =
    printed_as (found_refused c.load-reading.result c.requires c.load-reading.ensures.loaded c.read.ensures c.args.depth c.in-Err.is c.from.ensures) c.refusal.ensures
