-- `fields::listed::point_list` meets its contract. Assumes nothing.
use Rattle.std.proofs.Common.{rules}
use Prim.Native.Nat.{ℕ}
use Rattle.geom.specs.File.{number}
use Rattle.fields.specs.Fields.{word_at}
use Rattle.fields.proofs.Listing.{lists}
use Rattle.fields.proofs.listed.point_list.Goals as goal

pub returns : goal.returns
returns c = lists _ c.args.file.now c.args.at c.args.lent 4 (λ (p : ℕ). word_at c.args.file.now p) (number c.args.count) (λ p h r q. search rules) c.listed.result c.listed.ensures
