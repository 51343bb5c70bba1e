-- `fields::listed::vertex_list` meets its contract. Assumes nothing.
use Rattle.std.proofs.Common.{rules}
use Prim.Native.Nat.{ℕ}
use Rattle.geom.specs.File.{vertex}
use Rattle.fields.specs.Fields.{vertex_at}
use Rattle.fields.proofs.Listing.{lists}
use Rattle.fields.proofs.listed.vertex_list.Goals as goal

pub returns : goal.returns
returns c = lists _ c.args.file.now c.args.at c.args.lent 25 (λ (p : ℕ). vertex_at c.args.file.now p) vertex (λ p h r q. search rules) c.listed.result c.listed.ensures
