-- `division::elements::divide` meets its contract: corners, midpoints, all points in order, pieces. Assumes nothing.
use Rattle.std.proofs.lemmas.Result.{err_from_is_err_and}
use mathlib.Core.Path.{◌≡◌, sym, ◌∙◌, ap, subst}
use mathlib.Core.Bool.{true}
use Prim.Native.Nat.{ℕ, ◌+◌, ◌*◌, ◌/◌}
use native.Mathlib.Numerals.{add-one}
use lib.ListN.{length, get_or}
use lib.Seq.{length-take-le}
use Rattle.geom.specs.Kinds.{kind_of}
use Rattle.geom.specs.Memory.{parity_of}
use Rattle.book.specs.Answers.{pairs_in}
use Rattle.division.specs.Shapes.{below}
use Rattle.division.proofs.Divided.{loaded, ordered_is, divided_crowded, divided_full, divided_extends}
use native.Mathlib.Omega.{arith}
use Rattle.division.proofs.Assembling.{ends_as}
use Rattle.division.proofs.elements.divide.Goals as goal

pub middles-requires : goal.middles-requires
middles-requires c =
    record { ready = c.requires.begun.ready; edges_value = c.requires.shaped.ends; edges_in_bounds = omega (arith, c.load.auto.points, c.requires.shaped.few) }

pub returns-in_err-middles-clause-extended : goal.returns-in_err-middles-clause-extended
returns-in_err-middles-clause-extended c =
    let l = loaded c.args.corners c.args.row c.args.old.now _ c.load.new.points c.requires.row_in_bounds c.load.ensures in
    rw (err_from_is_err_and c.from_residual.result c.from_residual.ensures.1).1
    (divided_crowded (kind_of c.args.kind) c.args.corners c.args.book.now.base c.args.row c.args.old.now c.args.edges.now c.args.order.now c.args.table.now c.args.axes.now (pairs_in c.args.book.now) c.load.new.points l c.args.book.now.room c.args.cells c.args.rows (rw c.in_err-middles.was at c.middles.ensures.made))

pub arrange-requires : goal.arrange-requires
arrange-requires c =
    let m = c.middles.auto.points ∙ c.load.auto.points in
    record { count_bound = c.requires.shaped.few; count_in_bounds = omega (arith, m, c.requires.shaped.few); order_value = c.requires.shaped.made; order_len = c.requires.shaped.all }

pub assemble-requires : goal.assemble-requires
assemble-requires c =
    let m = c.middles.auto.points ∙ c.load.auto.points in
    let t = length-take-le (c.args.corners + length c.args.edges.now / 2) c.arrange.new.points (omega (arith, m, c.arrange.auto.points, c.requires.shaped.few)) in record { tabled = record { some = c.requires.shaped.some; few = omega (arith, c.requires.shaped.few); places = subst (λ (x : ℕ). below x c.args.table.now ≡ true) (sym t) c.requires.shaped.places; along = c.requires.shaped.along }; rows_le_cells = c.requires.begun.within; cells_in_bounds = c.requires.begun.lent }

pub returns-clause-extended : goal.returns-clause-extended
returns-clause-extended c =
    let b = c.args.book.now in
    let l = loaded c.args.corners c.args.row c.args.old.now _ c.load.new.points c.requires.row_in_bounds c.load.ensures in
    let m = rw c.in_ok-middles.was at c.middles.ensures.made in
    let o = ordered_is (kind_of c.args.kind) c.args.corners c.args.book.now.base c.args.row c.args.old.now c.args.edges.now c.args.order.now c.args.table.now c.args.axes.now (pairs_in c.args.book.now) c.load.new.points l m (omega (arith, c.load.auto.points, c.requires.shaped.few)) c.arrange.ensures in
    let p = c.from-parity.ensures ∙ ap (λ (x : ℕ). parity_of (get_or c.args.old.now (x * c.args.row + c.args.corners) 0)) (add-one c.args.corners) in
    ends_as b c.middles.new.book
    (λ r. divided_extends (kind_of c.args.kind) c.args.corners c.args.book.now.base c.args.row c.args.old.now c.args.edges.now c.args.order.now c.args.table.now c.args.axes.now (pairs_in c.args.book.now) c.load.new.points l o m p)
    (divided_full (kind_of c.args.kind) c.args.corners c.args.book.now.base c.args.row c.args.old.now c.args.edges.now c.args.order.now c.args.table.now c.args.axes.now (pairs_in c.args.book.now) c.load.new.points l o b.room c.args.cells c.args.rows p)
    c.assemble.result c.assemble.ensures
