-- `normals::faces::compute` meets its contract, refused or accepted: what the elements owe is a law of theirs (`Entry`). Assumes nothing.
use mathlib.Core.Path.{refl}
use Rattle.std.proofs.lemmas.Result.{err_from_is_err_and}
use Rattle.geom.specs.Lent.{words_of}
use Rattle.geom.proofs.Accepted.{accepted_by}
use Rattle.normals.proofs.Door.{positions_stand, refuses, short, fits}
use Rattle.normals.proofs.faces.compute.Goals as goal

pub returns-in_err-handed_in : goal.returns-in_err-handed_in
returns-in_err-handed_in g c =
    let p = err_from_is_err_and c.from_residual.result c.from_residual.ensures.1 in
    rw (p.1, p.2)
    (g.met.F.Faces.entry.shades c.args.sizes (words_of c.args.bench.now) c.args.normals.now _
    (refuses _ c.args.sizes (words_of c.args.bench.now) _ c.args.normals.now c.in_err-handed_in.ensures refl))

pub returns-then-normals-WIDTH : goal.returns-then-normals-WIDTH
returns-then-normals-WIDTH g c =
    let a = accepted_by c.in_ok-handed_in.ensures refl in
    g.met.F.Faces.entry.shades c.args.sizes (words_of c.args.bench.now) c.args.normals.now _
    (short _ c.args.sizes (words_of c.args.bench.now) _ c.args.normals.now a (rw c.WIDTH.ensures at c.if-normals-WIDTH.true))

pub shade-requires-clause-count_in_bounds : goal.shade-requires-clause-count_in_bounds
shade-requires-clause-count_in_bounds g c = positions_stand c.args.sizes (words_of c.args.bench.now) (accepted_by c.in_ok-handed_in.ensures refl)

pub shade-requires-clause-signed : goal.shade-requires-clause-signed
shade-requires-clause-signed g c =
    rw (c.list.ensures, c.stated.ensures)
    (g.met.F.Faces.entry.stand c.args.sizes (words_of c.args.bench.now) (accepted_by c.in_ok-handed_in.ensures refl))

pub returns : goal.returns
returns g c =
    let a = accepted_by c.in_ok-handed_in.ensures refl in
    g.met.F.Faces.entry.shades c.args.sizes (words_of c.args.bench.now) c.args.normals.now _
    (fits _ c.args.sizes (words_of c.args.bench.now) _ c.args.normals.now a (rw c.WIDTH.ensures at c.if-normals-WIDTH.false) _
    (rw (c.list.ensures, c.stated.ensures) at (c.shade.ensures c.args.bench.now.marks.now)))
