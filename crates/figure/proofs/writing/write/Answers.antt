-- `figure::writing::write` meets its contract: each list is written where the one before it ended (`Benches`). Assumes nothing.
use mathlib.Core.Path.{◌≡◌, ◌∙◌, ap}
use native.Mathlib.Omega.{arith}
use Rattle.geom.specs.Kinds.{kind_of}
use Rattle.reading.specs.Places.{points_place, lines_place, areas_place, volumes_place, curves_place}
use Rattle.figure.proofs.Benches.{vertices_stand, vertices_room, points_ready, lines_ready, areas_ready, volumes_ready, curves_ready, written}
use Rattle.figure.proofs.writing.write.Goals as goal

pub put_vertices-requires : goal.put_vertices-requires
put_vertices-requires c =
    let src = ap (λ x. x.now) c.new-r.ensures.0 in
    rw (src, c.new-r.ensures.1) (vertices_stand _ _ _ _ c.requires, vertices_room _ _ _ _ c.requires)

pub put_points-requires : goal.put_points-requires
put_points-requires c =
    let src = ap (λ x. x.now) c.new-r.ensures.0 in
    let points : c.put_vertices.result ≡ points_place c.args.s = omega (arith, c.new-r.ensures.1, c.put_vertices.ensures.0) in
    rw (points, src) (points_ready _ _ _ _ c.requires)

pub put_elements-requires : goal.put_elements-requires
put_elements-requires c =
    let src = ap (λ x. x.now) c.new-r.ensures.0 in
    let lines : c.put_points.result ≡ lines_place c.args.s =
    omega (arith, c.new-r.ensures.1, c.put_vertices.ensures.0, c.put_points.ensures.0) in
    rw (lines, src) (lines_ready _ _ _ _ c.requires)

pub put_elements-requires-2 : goal.put_elements-requires-2
put_elements-requires-2 c =
    let src = ap (λ x. x.now) c.new-r.ensures.0 in
    let areas : c.put_elements.result ≡ areas_place c.args.s =
    omega (arith, c.new-r.ensures.1, c.put_vertices.ensures.0, c.put_points.ensures.0, c.put_elements.ensures.0) in
    rw (areas, src, c.area_corners.ensures) (areas_ready _ _ _ _ c.requires)

-- where the volumes' count stands
pub put_elements-requires-3 : goal.put_elements-requires-3
put_elements-requires-3 c =
    let src = ap (λ x. x.now) c.new-r.ensures.0 in
    let areas : c.put_elements.result ≡ areas_place c.args.s =
    omega (arith, c.new-r.ensures.1, c.put_vertices.ensures.0, c.put_points.ensures.0, c.put_elements.ensures.0) in
    let volumes : c.put_elements-2.result ≡ volumes_place (kind_of c.args.kind) c.args.s =
    c.put_elements-2.ensures.0 ∙ rw (areas, c.area_corners.ensures) in
    rw (volumes, src, c.volume_corners.ensures) (volumes_ready _ _ _ _ c.requires)

pub put_curves-requires : goal.put_curves-requires
put_curves-requires c =
    let src = ap (λ x. x.now) c.new-r.ensures.0 in
    let areas : c.put_elements.result ≡ areas_place c.args.s =
    omega (arith, c.new-r.ensures.1, c.put_vertices.ensures.0, c.put_points.ensures.0, c.put_elements.ensures.0) in
    let volumes : c.put_elements-2.result ≡ volumes_place (kind_of c.args.kind) c.args.s =
    c.put_elements-2.ensures.0 ∙ rw (areas, c.area_corners.ensures) in
    let curves : c.put_elements-3.result ≡ curves_place (kind_of c.args.kind) c.args.s =
    c.put_elements-3.ensures.0 ∙ rw (volumes, c.volume_corners.ensures) in
    rw (curves, src) (curves_ready _ _ _ _ c.requires)

pub returns-clause-written : goal.returns-clause-written
returns-clause-written c =
    let src = ap (λ x. x.now) c.new-r.ensures.0 in
    let first = c.new-r.ensures.1 in
    let points : c.put_vertices.result ≡ points_place c.args.s = omega (arith, first, c.put_vertices.ensures.0) in
    let lines : c.put_points.result ≡ lines_place c.args.s = omega (arith, points, c.put_points.ensures.0) in
    let areas : c.put_elements.result ≡ areas_place c.args.s = omega (arith, lines, c.put_elements.ensures.0) in
    let volumes : c.put_elements-2.result ≡ volumes_place (kind_of c.args.kind) c.args.s =
    c.put_elements-2.ensures.0 ∙ rw (areas, c.area_corners.ensures) in
    let curves : c.put_elements-3.result ≡ curves_place (kind_of c.args.kind) c.args.s =
    c.put_elements-3.ensures.0 ∙ rw (volumes, c.volume_corners.ensures) in
    written _ _ _ _ c.requires _ _ _ _ _ _ _ _
    (rw (first, src) at c.put_vertices.ensures.1)
    (rw (points, src) at c.put_points.ensures.1)
    (rw (lines, src) at c.put_elements.ensures.1)
    (rw (areas, src, c.area_corners.ensures) at c.put_elements-2.ensures.1)
    (rw (volumes, src, c.volume_corners.ensures) at c.put_elements-3.ensures.1)
    (rw (curves, src) at c.put_curves.ensures)
