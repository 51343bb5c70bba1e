-- `division::elements::load` meets its contract: a copy. Assumes nothing.
use native.Mathlib.Nat.{add-sub_cancel_left}
use native.Mathlib.Omega.{arith}
use lib.ListN.{drop, length-drop}
use lib.Seq.{length-take-le}
use Rattle.division.proofs.Rows.{written_copy}
use Rattle.division.proofs.elements.load.Goals as goal

pub returns : goal.returns
returns c =
    let rest = drop c.args.from c.args.old.now in
    rw (c.copy_from_slice.ensures.after, add-sub_cancel_left c.args.from c.args.count)
    (written_copy _ _ c.args.count (length-take-le c.args.count rest (omega (arith, length-drop c.args.from c.args.old.now, c.requires.count_in_bounds))))
