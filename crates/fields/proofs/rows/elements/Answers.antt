-- `fields::rows::elements` meets its contract. Assumes nothing.
use mathlib.Core.Path.{refl}
use Rattle.std.proofs.Common.{rules}
use Prim.Native.Nat.{ℕ, ◌+◌, ◌*◌}
use Rattle.geom.specs.File.{element}
use Rattle.fields.specs.Fields.{wide, element_at}
use Rattle.fields.proofs.Several.{each_passes}
use Rattle.fields.proofs.rows.elements.Goals as goal

pub returns : goal.returns
returns c = each_passes _ c.args.file.now c.args.at (wide c.args.corners) (λ (p : ℕ). element_at c.args.corners c.args.file.now p) (element c.args.count c.args.corners) (λ p h r q. search rules) (λ (i : ℕ). c.args.at + wide c.args.corners * i) (λ i. refl) c.several.result c.args.n c.requires.0 c.several.ensures
