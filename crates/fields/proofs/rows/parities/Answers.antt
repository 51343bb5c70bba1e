-- `fields::rows::parities` meets its contract. Assumes nothing.
use Rattle.std.proofs.Common.{rules}
use Prim.Native.Nat.{ℕ, ◌+◌}
use native.Mathlib.Omega.{arith}
use Rattle.geom.specs.File.{parity}
use Rattle.fields.specs.Fields.{parity_at}
use Rattle.fields.proofs.Several.{one, each_passes}
use Rattle.fields.proofs.rows.parities.Goals as goal

pub returns : goal.returns
returns c = rw (one _) at (each_passes _ c.args.file.now c.args.at 1 (λ (p : ℕ). parity_at c.args.file.now p) parity (λ p h r q. search rules) (λ (i : ℕ). c.args.at + i) (λ i. omega arith) c.several.result c.args.n c.requires c.several.ensures)
