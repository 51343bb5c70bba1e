-- `fields::rows::vertices` meets its contract. Assumes nothing.
use mathlib.Core.Path.{refl}
use Rattle.std.proofs.Common.{rules}
use Prim.Native.Nat.{ℕ, ◌+◌, ◌*◌}
use Rattle.geom.specs.File.{vertex}
use Rattle.fields.specs.Fields.{vertex_at}
use Rattle.fields.proofs.Several.{each_passes}
use Rattle.fields.proofs.rows.vertices.Goals as goal

pub returns : goal.returns
returns c = each_passes _ c.args.file.now c.args.at 25 (λ (p : ℕ). vertex_at c.args.file.now p) vertex (λ p h r q. search rules) (λ (i : ℕ). c.args.at + 25 * i) (λ i. refl) c.several.result c.args.n c.requires c.several.ensures
