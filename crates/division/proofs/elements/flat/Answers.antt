-- `division::elements::flat` meets its contract: an axis a turn (`Flattening`). Assumes nothing.
use mathlib.Core.Path.{sym, ◌∙◌}
use Rattle.division.proofs.Flats.{flattening_start, flattening_on, flattening_found, flattening_done}
use native.Mathlib.Omega.{arith}
use Rattle.division.proofs.elements.flat.Goals as goal

pub loop-axis-init : goal.loop-axis-init
loop-axis-init c = flattening_start

pub shut-requires : goal.shut-requires
shut-requires c = record { tabled = c.requires.tabled; corners_in_bounds = c.requires.corners_in_bounds; corners_in_bounds_2 = omega (arith, c.loop-axis.invariant.within, c.loop-axis-test.true) }

pub returns-then-shut : goal.returns-then-shut
returns-then-shut c = flattening_found c.loop-axis.invariant c.requires.tabled.some c.loop-axis-test.true (sym c.if-shut.true ∙ c.shut.ensures)

pub loop-axis-preserved : goal.loop-axis-preserved
loop-axis-preserved c = flattening_on c.loop-axis.invariant c.loop-axis-test.true (sym c.if-shut.false ∙ c.shut.ensures)

pub returns : goal.returns
returns c = flattening_done c.loop-axis.invariant c.loop-axis-test.false
