-- `vertices::rules::points` meets its contract: the corners passed have their points. Assumes nothing.
use Rattle.std.proofs.Common.{◌≡◌, sym, ◌∙◌, ℕ, ◌<◌, List, length, get_or, map, arith}
use Rattle.std.proofs.Math.ListN.{length-map, get_or-map}
use Rattle.std.proofs.Math.Seq.{ext_get_or}
use lib.Ieee.{Float}
use Rattle.numbers.specs.declared.vec4.Vec4.{Vec4}
use Rattle.numbers.specs.Points4.{origin}
use Rattle.geom.proofs.Rows.{get_d_any}
use Rattle.vertices.specs.Cells.{point_row}
use Rattle.vertices.proofs.rules.points.Goals as goal

-- points that are read one by one are those of the corners
read_all : (positions : List Float) (corners : List ℕ) (ps : List Vec4) → length ps ≡ length corners
    → ((j : ℕ) → j < length corners → get_or ps j origin ≡ point_row positions (get_or corners j 0)) → ps ≡ map (point_row positions) corners
read_all positions corners ps e read =
    let long = length-map corners (point_row positions) in
    ext_get_or origin ps (map (point_row positions) corners) (e ∙ sym long)
    (λ j l.
    read j (omega arith)
    ∙ sym (get_or-map (point_row positions) corners j 0)
    ∙ get_d_any (map (point_row positions) corners) j (point_row positions 0) origin (omega arith))

pub returns : goal.returns
returns g c =
    let i = c.loop-k.invariant in
    let n : c.loop-k.k ≡ length c.args.corners.now = omega arith in
    read_all c.args.positions.now c.args.corners.now c.loop-k.points (omega arith) (rw n at i.read)
