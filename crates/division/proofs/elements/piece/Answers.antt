-- `division::elements::piece` meets its contract: a copy of the points at the places, word by word. Assumes nothing.
use mathlib.Core.Path.{refl}
use lib.ListN.{length}
use Rattle.division.proofs.Rows.{first_of_pick, copying_start, copying_on, copying_done}
use Rattle.division.proofs.Tables.{below_at}
use native.Mathlib.Omega.{arith}
use Rattle.division.proofs.elements.piece.Goals as goal

pub loop-i-init : goal.loop-i-init
loop-i-init c = copying_start _ (omega (arith, c.requires))

pub point_at-requires : goal.point_at-requires
point_at-requires c =
    record { at_in_bounds = omega (arith, c.requires); at_in_bounds_2 = below_at (length c.args.points.now) c.args.table.now c.requires.table_value _ (omega (arith, c.requires)) }

pub loop-i-preserved : goal.loop-i-preserved
loop-i-preserved c = rw c.point_at.ensures (copying_on _ c.loop-i.invariant c.loop-i-test.true refl)

pub returns : goal.returns
returns c =
    copying_done _ c.loop-i.invariant c.loop-i-test.false
    (first_of_pick c.args.points.now c.args.table.now c.args.from c.args.count c.requires.count_in_bounds)
