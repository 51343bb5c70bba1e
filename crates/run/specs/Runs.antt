-- A run of passes over two benches in memory, from one to the other and back.
-- Assumes nothing.
use Rattle.std.specs.Prelude.{◌≡◌, Bool, ℕ}
use Rattle.geom.specs.declared.answer.Refined.{Refined}
use Rattle.geom.specs.Answers.{told}
use Rattle.geom.specs.Book.{Kind}
use Rattle.geom.specs.Form.{Form}
use Rattle.geom.specs.Memory.{BenchIn}
use Rattle.geom.specs.Refusals.{side, StandsFor, LastSteps}
use Rattle.geom.specs.Refinement.{StateIn, Lent, RunIn, run_from, told_by}

-- the definition's run from a state, before its first pass
abbrev pub run_of : {F : Form} → Kind → Bool → Lent → ℕ → ℕ → StateIn F → RunIn F
run_of kind time lent base depth s = run_from kind time lent base depth 0 s

-- the answer is the run's, and on the bench that the last whole pass wrote stands the mesh that the run leaves; `start` is the first bench as handed in
pub record Ran {F : Form} (kind : Kind) (run : RunIn F) (r : Refined) (start first second : BenchIn F) : Type 0 where
  pub answer : told r ≡ told_by run
  pub stands : StandsFor kind (side run.passes first second) run.left.mesh
  pub steps : LastSteps run.passes start (side run.passes first second) run.left.mesh
