-- `figure::writing::put_vertices` meets its contract: the vertices passed stand on the bench. Assumes nothing.
use mathlib.Core.Path.{refl}
use native.Mathlib.Omega.{arith}
use Prim.Native.Nat.{ℕ, ◌+◌, ◌*◌}
use Rattle.geom.specs.Floats.{binary32}
use Rattle.vertices.proofs.Making.{laid_start, laid_more}
use Rattle.fields.specs.Fields.{vertex_at}
use Rattle.figure.proofs.Elements.{vertices_over}
use Rattle.figure.proofs.writing.put_vertices.Goals as goal

pub loop-i-init : goal.loop-i-init
loop-i-init c = laid_start binary32 _ _ _ (λ (i : ℕ). vertex_at c.args.file.now (c.args.at + 4 + 25 * i))

pub loop-i-preserved : goal.loop-i-preserved
loop-i-preserved c = laid_more binary32 _ _ _ (λ (i : ℕ). vertex_at c.args.file.now (c.args.at + 4 + 25 * i)) _ _ _ _ _ _ _ c.loop-i.invariant (omega arith) c.vertex_of-v.ensures c.put_vertex.ensures

pub returns : goal.returns
returns c = (refl, vertices_over _ _ _ _ _ _ _ _ c.loop-i.auto.i-end c.loop-i-test.false c.requires.1 c.loop-i.invariant)
