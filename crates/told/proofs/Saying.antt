-- The words that say an answer, and that they say it. Assumes nothing.
use mathlib.Core.Path.{◌≡◌, refl, sym, ◌∙◌, ap}
use mathlib.Core.List.{List, [], ◌∷◌}
use Prim.Native.Nat.{ℕ}
use denote.Enum.Declared.{tag_of}
use Rattle.std.specs.Prelude.{Result, Ok, Err}
use Rattle.geom.specs.contracts.kind.Kind.{the_type}
use Rattle.geom.specs.Kinds.{kind_of}
use Rattle.geom.specs.declared.answer.Sizes.{Sizes}
use Rattle.geom.specs.declared.refusal.Refusal.{Refusal}
use Rattle.geom.specs.declared.refusal.Refusal.TheVariants as R
use Rattle.geom.specs.declared.kind.Kind.{Kind}
use Rattle.geom.specs.declared.kind.Kind.TheVariants as K
use Rattle.geom.specs.declared.answer.Refined.{Refined}
use Rattle.geom.specs.declared.answer.Answer.{Answer}
use Rattle.geom.specs.declared.answer.Reading.{Reading}
use Rattle.geom.specs.Answers.{Verdict, refused, verdict_of, number_of as refusal_number, told, outcome_of, Judgement, mesh_of_kind, judgement_of, opening_of}
use Rattle.told.specs.Told.{verdict_by, sizes_from, told_of, outcome_from, refusal_of, kind_word, Worded, opening_from, Says}

-- no refusal is numbered 0
by_number : (r : Refusal) → verdict_by (refusal_number r) ≡ refused (refusal_number r)
by_number R.Version = refl
by_number R.Kind = refl
by_number R.Short = refl
by_number R.Surplus = refl
by_number R.Mark = refl
by_number R.Coordinate = refl
by_number R.Number = refl
by_number R.Curve = refl
by_number R.Count = refl
by_number R.Room = refl

-- a finished work's number
pub finished_by : {e : Result Unit Refusal} {u : Unit} → e ≡ Ok u → verdict_by 0 ≡ verdict_of e
unfolding verdict_of
finished_by is = ap verdict_of (sym is)

-- a refused work's number
pub refused_by : {e : Result Unit Refusal} {r : Refusal} (n : ℕ) → n ≡ refusal_number r → e ≡ Err r → verdict_by n ≡ verdict_of e
unfolding verdict_of
refused_by {e} {r} n p is = ap verdict_by p ∙ by_number r ∙ ap verdict_of (sym is)

-- a kind and a refusal's number say how reading ended
worded : (o : Result Kind Refusal) → Worded (judgement_of o)
unfolding judgement_of
worded (Ok K.Cubes) = refl
worded (Ok K.Simplices) = refl
worded (Err R.Version) = refl
worded (Err R.Kind) = refl
worded (Err R.Short) = refl
worded (Err R.Surplus) = refl
worded (Err R.Mark) = refl
worded (Err R.Coordinate) = refl
worded (Err R.Number) = refl
worded (Err R.Curve) = refl
worded (Err R.Count) = refl
worded (Err R.Room) = refl

-- a kind's number is its word
pub kind_said : (k : Kind) → tag_of the_type k ≡ kind_word (mesh_of_kind (kind_of k))
kind_said K.Cubes = refl
kind_said K.Simplices = refl

-- the seven words of sizes
unfoldable pub sizes_words : Sizes → List ℕ
sizes_words s =
    s.vertices ∷ s.points ∷ s.lines ∷ s.areas ∷ s.volumes ∷ s.curves ∷ s.curve_vertices ∷ []

pub told_by_lem : (r : Refined) (n : ℕ) → verdict_by n ≡ verdict_of r.ended → told_of n (r.passes ∷ sizes_words r.sizes) ≡ told r
unfolding told told_of sizes_from sizes_words
told_by_lem r n h = ap (λ (v : Verdict). record { passes = r.passes; sizes = r.sizes; verdict = v }) h

pub outcome_by : (a : Answer) (n : ℕ) → verdict_by n ≡ verdict_of a.ended → outcome_from n (sizes_words a.sizes) ≡ outcome_of a
unfolding outcome_of outcome_from sizes_from sizes_words
outcome_by a n h = ap (λ (v : Verdict). record { sizes = a.sizes; verdict = v }) h

pub opening_by : (r : Reading) (n kind : ℕ) → n ≡ refusal_of (judgement_of r.opened) → kind ≡ kind_word (judgement_of r.opened)
    → Says n (kind ∷ sizes_words r.sizes) (opening_of r)
unfolding opening_of opening_from sizes_from sizes_words
opening_by r n kind p q =
    record { opening = ap (λ (j : Judgement). record { sizes = r.sizes; judgement = j }) (rw (p, q) (worded r.opened)); kind = q }
