-- What the exports say of lent words: the sizes that are handed in, and the answer that a number and words stand for.
-- Says nothing of when which answer is due (geom's Refusals, Triangulation, Normals and File, subdivision's Entry).
-- Assumes nothing.
use Rattle.std.specs.Prelude.{◌≡◌, List, ℕ, zero, suc, ◌+◌, get_or}
use Rattle.geom.specs.declared.answer.Sizes.{Sizes}
use Rattle.geom.specs.Answers.{Verdict, accepted, refused, Told, Outcome, Judgement, mesh_of_kind, no_mesh, Opening}
use Rattle.geom.specs.Book.{cubes, simplices}
use Rattle.geom.specs.File as File
use Rattle.geom.specs.File.{Loaded}
use Rattle.geom.specs.Memory.{Bench}

-- seven sizes, from a word on: vertices, points, lines, areas, volumes, curves, curve vertices
unfoldable pub sizes_from : ℕ → List ℕ → Sizes
sizes_from i words =
    record {
      vertices = get_or words i 0;
      points = get_or words (i + 1) 0;
      lines = get_or words (i + 2) 0;
      areas = get_or words (i + 3) 0;
      volumes = get_or words (i + 4) 0;
      curves = get_or words (i + 5) 0;
      curve_vertices = get_or words (i + 6) 0;
    }

-- 0 when finished, else the refusal's number
abbrev pub verdict_by : ℕ → Verdict
verdict_by zero = accepted
verdict_by (suc n) = refused (suc n)

-- a refinement's answer: the passes are word 0, the sizes words 1 to 7
unfoldable pub told_of : ℕ → List ℕ → Told
told_of number words = record { passes = get_or words 0 0; sizes = sizes_from 1 words; verdict = verdict_by number }

-- the answer of triangulation: the sizes are the words
unfoldable pub outcome_from : ℕ → List ℕ → Outcome
outcome_from number words = record { sizes = sizes_from 0 words; verdict = verdict_by number }

-- how reading ended: 0 with a mesh, whose kind is a word, 0 cubes and 1 simplices; else the refusal's number
abbrev pub judgement_by : ℕ → ℕ → Judgement
judgement_by zero kind = mesh_of_kind (File.kind_of kind)
judgement_by (suc n) kind = no_mesh (suc n)

abbrev pub refusal_of : Judgement → ℕ
refusal_of (mesh_of_kind kind) = 0
refusal_of (no_mesh n) = n

abbrev pub kind_word : Judgement → ℕ
kind_word (mesh_of_kind cubes) = 0
kind_word (mesh_of_kind simplices) = 1
kind_word (no_mesh n) = 0

-- the two say the whole judgement
abbrev pub Worded : Judgement → Type 0
Worded j = judgement_by (refusal_of j) (kind_word j) ≡ j

-- the answer of reading: the kind is word 0, the sizes words 1 to 7
unfoldable pub opening_from : ℕ → List ℕ → Opening
opening_from number words = record { sizes = sizes_from 1 words; judgement = judgement_by number (get_or words 0 0) }

-- a number and words say an opening; after a refusal, where there is no kind, its word is 0
pub record Says (number : ℕ) (words : List ℕ) (o : Opening) : Type 0 where
  pub opening : opening_from number words ≡ o
  pub kind : get_or words 0 0 ≡ kind_word o.judgement

-- reading answers and leaves what it should
pub record Reads (number : ℕ) (words : List ℕ) (after : Bench) (l : Loaded) : Type 0 where
  pub says : Says number words l.opening
  pub bench : after ≡ l.bench
