-- What an entry's answer says: each refusal's number, or none, and the kind. What is answered inside a pass stands for an `Ending`, by a
-- definition beside it.
-- Says nothing of when a number is due (Refinement, Refusals, File).
-- Assumes nothing.
use Rattle.std.specs.Prelude.{Bool, true, false, cond, List, [], ◌∷◌, ℕ, eqb, Result, Ok, Err}
use Rattle.geom.specs.declared.answer.Sizes.{Sizes}
use Rattle.geom.specs.declared.refusal.Refusal.{Refusal}
use Rattle.geom.specs.declared.refusal.Refusal.TheVariants as R
use Rattle.geom.specs.declared.kind.Kind as K
use Rattle.geom.specs.declared.answer.Refined.{Refined}
use Rattle.geom.specs.declared.answer.Answer.{Answer}
use Rattle.geom.specs.declared.answer.Reading.{Reading}
use Rattle.geom.specs.Book.{Kind}
use Rattle.geom.specs.Kinds.{kind_of}

-- the number of each refusal
abbrev pub number_of : Refusal → ℕ
number_of R.Version = 1
number_of R.Kind = 2
number_of R.Short = 3
number_of R.Surplus = 4
number_of R.Mark = 5
number_of R.Coordinate = 6
number_of R.Number = 7
number_of R.Curve = 8
number_of R.Count = 9
number_of R.Room = 10

-- no refusal, or the refusal with its number
pub data Verdict : Type 0 where
  accepted : Verdict
  refused : ℕ → Verdict

-- how it ended: finished, or refused with its number
unfoldable pub verdict_of : Result Unit Refusal → Verdict
verdict_of (Ok _) = accepted
verdict_of (Err r) = refused (number_of r)

-- A refinement's answer is a record: passes, sizes and how it ended.
pub record Told : Type 0 where
  pub passes : ℕ
  pub sizes : Sizes
  pub verdict : Verdict

unfoldable pub told : Refined → Told
told r = record { passes = r.passes; sizes = r.sizes; verdict = verdict_of r.ended }

-- the answer of triangulation: sizes, and how it ended
pub record Outcome : Type 0 where
  pub sizes : Sizes
  pub verdict : Verdict

unfoldable pub outcome_of : Answer → Outcome
outcome_of a = record { sizes = a.sizes; verdict = verdict_of a.ended }

-- how reading a file ended: with a mesh of a kind, or refused with its number
pub data Judgement : Type 0 where
  mesh_of_kind : Kind → Judgement
  no_mesh : ℕ → Judgement

unfoldable pub judgement_of : Result K.Kind Refusal → Judgement
judgement_of (Ok kind) = mesh_of_kind (kind_of kind)
judgement_of (Err r) = no_mesh (number_of r)

-- the answer of reading: sizes, and how it ended
pub record Opening : Type 0 where
  pub sizes : Sizes
  pub judgement : Judgement

unfoldable pub opening_of : Reading → Opening
opening_of r = record { sizes = r.sizes; judgement = judgement_of r.opened }

-- ---- parts of a pass

-- how a part of a pass ends: with its values, or refused with its number
pub data Ending (A : Type 0) : Type 0 where
  whole : A → Ending A
  stopped : ℕ → Ending A

-- the values where all of it fits, and else refusal 10
abbrev pub fitted : {A : Type 0} → Bool → A → Ending A
fitted true values = whole values
fitted false values = stopped 10

-- a promise on an ending: P of its values, or that the refusal is 10 and Q, what doesn't fit
abbrev pub Stops : Type 0 → Bool → Type 0
Stops Q true = Q
Stops Q false = ⊥

abbrev pub EndsWith : {A : Type 0} → (A → Type 0) → Type 0 → Ending A → Type 0
EndsWith P Q (whole values) = P values
EndsWith P Q (stopped n) = Stops Q (eqb n 10)

-- one refusal, and whether it is due
pub record Due : Type 0 where
  pub due : Bool
  pub number : ℕ

abbrev pub due : ℕ → Bool → Due
due number b = record { due = b; number = number }

-- the first that is due
unfoldable pub first_due : List Due → Verdict
first_due [] = accepted
first_due (d ∷ ds) = cond d.due (refused d.number) (first_due ds)
