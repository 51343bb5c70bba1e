-- `triangulation::triangulate` meets its contract: judged at the door, its pieces counted and judged, and written (`Door`, `Keeping`). Assumes nothing.
use mathlib.Core.Path.{sym, ◌∙◌}
use lib.ListN.{length}
use Rattle.geom.specs.Lent.{words_of}
use Rattle.triangulation.specs.Entry.{cuts}
use Rattle.geom.proofs.Accepted.{accepted_by}
use Rattle.triangulation.proofs.Keeping.{triangulates}
use Rattle.triangulation.proofs.Door.{room_areas, room_volumes, refuses, areas_lie, volumes_lie, areas_few, volumes_few, full, done}
use native.Mathlib.Omega.{arith}
use Rattle.triangulation.proofs.triangulate.Goals as goal

pub returns-in_default : goal.returns-in_default
returns-in_default c =
    triangulates c.args.sizes (words_of c.args.bench.now) (cuts c.args.triangles.now c.args.tetrahedra.now)
    (refuses c.args.sizes (words_of c.args.bench.now) (cuts c.args.triangles.now c.args.tetrahedra.now) c.handed_in-ended.ensures c.in_default.is)

pub count-requires : goal.count-requires
count-requires c =
    let e = accepted_by c.handed_in-ended.ensures c.in-Ok.is in
    record { rows_in_bounds = areas_lie c.args.sizes (words_of c.args.bench.now) (cuts c.args.triangles.now c.args.tetrahedra.now) e; rows_bound = areas_few c.args.sizes (words_of c.args.bench.now) (cuts c.args.triangles.now c.args.tetrahedra.now) e }

pub count-requires-2 : goal.count-requires-2
count-requires-2 c =
    let e = accepted_by c.handed_in-ended.ensures c.in-Ok.is in
    record { rows_in_bounds = volumes_lie c.args.sizes (words_of c.args.bench.now) (cuts c.args.triangles.now c.args.tetrahedra.now) e; rows_bound = volumes_few c.args.sizes (words_of c.args.bench.now) (cuts c.args.triangles.now c.args.tetrahedra.now) e }

pub returns-then-not-cuts_hold : goal.returns-then-not-cuts_hold
returns-then-not-cuts_hold c =
    let e = accepted_by c.handed_in-ended.ensures c.in-Ok.is in
    triangulates c.args.sizes (words_of c.args.bench.now) (cuts c.args.triangles.now c.args.tetrahedra.now)
    (full c.args.sizes (words_of c.args.bench.now) (cuts c.args.triangles.now c.args.tetrahedra.now) e c.count.ensures c.count-2.ensures (sym c.cuts_hold.ensures ∙ c.if-not-cuts_hold.true))

pub write-requires : goal.write-requires
write-requires c =
    let e = accepted_by c.handed_in-ended.ensures c.in-Ok.is in
    let h = sym c.cuts_hold.ensures ∙ c.if-not-cuts_hold.false in
    record { rows_in_bounds = areas_lie c.args.sizes (words_of c.args.bench.now) (cuts c.args.triangles.now c.args.tetrahedra.now) e; rows_in_bounds_2 = omega (arith, room_areas _ (length c.args.triangles.now) (length c.args.tetrahedra.now) h, c.count.ensures) }

pub write-requires-2 : goal.write-requires-2
write-requires-2 c =
    let e = accepted_by c.handed_in-ended.ensures c.in-Ok.is in
    let h = sym c.cuts_hold.ensures ∙ c.if-not-cuts_hold.false in
    record { rows_in_bounds = volumes_lie c.args.sizes (words_of c.args.bench.now) (cuts c.args.triangles.now c.args.tetrahedra.now) e; rows_in_bounds_2 = omega (arith, room_volumes _ (length c.args.triangles.now) (length c.args.tetrahedra.now) h, c.count-2.ensures) }

pub returns : goal.returns
returns c =
    let e = accepted_by c.handed_in-ended.ensures c.in-Ok.is in
    let h = sym c.cuts_hold.ensures ∙ c.if-not-cuts_hold.false in
    triangulates c.args.sizes (words_of c.args.bench.now) (cuts c.args.triangles.now c.args.tetrahedra.now)
    (done c.args.sizes (words_of c.args.bench.now) (cuts c.args.triangles.now c.args.tetrahedra.now) e c.count.ensures c.count-2.ensures h c.write.ensures c.write-2.ensures)
