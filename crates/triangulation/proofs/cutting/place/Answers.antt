-- `triangulation::cutting::place` meets its contract: the rows stay, or there is one more. Assumes nothing.
use mathlib.Core.Path.{refl, sym, ◌∙◌, ap}
use Rattle.geom.specs.Memory.{parity_word}
use Rattle.triangulation.proofs.Pieces.{place_none, place_one}
use Rattle.triangulation.proofs.cutting.place.Goals as goal

pub returns-then-meets : goal.returns-then-meets
returns-then-meets c =
    place_none c.args.size c.args.table.now c.args.from c.args.parity c.args.points.now (sym c.if-meets.true ∙ c.meets.ensures) c.requires.points_in_bounds

pub returns : goal.returns
returns c =
    place_one c.args.size c.args.table.now c.args.from c.args.parity c.args.points.now (sym c.if-meets.false ∙ c.meets.ensures) c.requires.points_in_bounds c.requires.size_in_bounds refl
    c.piece.ensures (c.from-word.ensures ∙ ap parity_word c.turned.ensures)
