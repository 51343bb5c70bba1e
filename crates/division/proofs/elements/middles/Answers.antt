-- `division::elements::middles` meets its contract: the midpoints by the book's parts. Assumes nothing.
use Rattle.std.proofs.lemmas.Result.{err_from_is_err_and}
use Rattle.division.proofs.elements.middles.Goals as goal

pub returns-in_err-made-clause-made : goal.returns-in_err-made-clause-made
returns-in_err-made-clause-made c =
    rw (err_from_is_err_and c.from_residual.result c.from_residual.ensures.1).1 (rw c.in_err-made.was at c.make_middles.ensures)

pub returns-clause-made : goal.returns-clause-made
returns-clause-made c = rw c.in_ok-made.was at c.make_middles.ensures
