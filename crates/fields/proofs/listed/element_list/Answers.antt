-- `fields::listed::element_list` meets its contract. Assumes nothing.
use Rattle.std.proofs.Common.{rules}
use Prim.Native.Nat.{ℕ}
use Rattle.geom.specs.File.{element}
use Rattle.fields.specs.Fields.{wide, element_at}
use Rattle.fields.proofs.Listing.{lists}
use Rattle.fields.proofs.listed.element_list.Goals as goal

pub returns : goal.returns
returns c = lists _ c.args.file.now c.args.at c.args.lent (wide c.args.corners) (λ (p : ℕ). element_at c.args.corners c.args.file.now p) (element c.args.count c.args.corners) (λ p h r q. search rules) c.listed.result c.listed.ensures
