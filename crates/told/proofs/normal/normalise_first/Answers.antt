-- `told::normal::normalise_first` meets its contract: what is written are the direction's components, or those of what is left of a Flat vector.
-- Assumes nothing.
use mathlib.Core.Path.{◌≡◌, refl, ◌∙◌}
use mathlib.Core.List.{List}
use Prim.Native.Nat.{◌*◌}
use native.Mathlib.Omega.{arith}
use lib.Ieee.{Float}
use Rattle.std.specs.Prelude.{Option, Some, None}
use Rattle.std.specs.Option.{unwrap_or}
use Rattle.numbers.specs.Normal.{cells}
use Rattle.told.proofs.normal.normalise_first.Goals as goal

-- the components of a direction, or of what stands for Flat
written : {V : Type 0} (components : V → List Float) (flat : V) (n : Option V) → components (unwrap_or n flat) ≡ cells components flat n
unfolding cells
written components flat (Some v) = refl
written components flat None = refl

pub returns-clause-cells : goal.returns-clause-cells
returns-clause-cells g c =
    let start : g.V.Cell.WIDTH * 0 ≡ 0 = omega arith in
    c.put.ensures
    ∙ rw (start, c.unwrap_or.ensures, written g.V.Cell.words c.args.flat c.normalise-normal.result, c.normalise-normal.ensures, c.read.ensures) refl
