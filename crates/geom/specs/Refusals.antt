-- Document 01, 'Who can cause which refusal': when a mesh in memory is refused, and by which number; and the refinement's entry as a whole.
-- Says nothing of files (File). What triangulation and normals refuse beyond this stands with them.
-- Assumes nothing.
use Rattle.std.specs.Prelude.{◌≡◌, Bool, true, cond, not, ◌&&◌, List, [], ◌∷◌, ℕ, zero, suc, ◌+◌, ◌/◌, ◌%◌, eqb, leb, ltb, length, take}
use Rattle.numbers.specs.declared.vec4.Vec4.{Vec4}
use Rattle.geom.specs.declared.answer.Sizes.{Sizes}
use Rattle.geom.specs.Book.{Kind}
use Rattle.geom.specs.Answers.{Verdict, accepted, refused, Told, Due, due, first_due}
use Rattle.geom.specs.Form.{Form}
use Rattle.geom.specs.Floats.{binary32}
unfoldable pub use Rattle.geom.specs.Floats.{good_coordinate}
use Rattle.geom.specs.Mesh.{MeshIn, sizes_of}
use Rattle.geom.specs.Refinement.{LIMITS, Lent, within, RunIn, run, told_by}
use Rattle.geom.specs.Memory.{BenchIn, cells, ElementRow, CurveRow, StepRow, RowsIn, rows_of, step_words, curve_parts, mesh_of, vertex_words}

-- ---- each test

-- every entry passes
unfoldable pub every : {A : Type 0} → (A → Bool) → List A → Bool
every test [] = true
every test (x ∷ xs) = test x && every test xs

-- 5: a flag byte of at most 15, a parity of at most 1
unfoldable pub good_flags : ℕ → Bool
good_flags flags = leb flags 15

unfoldable pub good_parity : ℕ → Bool
good_parity p = leb p 1

-- 6: each coordinate is one that the form accepts
unfoldable pub good_position_in : (F : Form) → F.Point → Bool
good_position_in F p = F.good (F.points.x p) && F.good (F.points.y p) && F.good (F.points.z p) && F.good (F.points.w p)

abbrev pub good_position : Vec4 → Bool
good_position = good_position_in binary32

-- 7: a vertex number below the count
unfoldable pub good_number : ℕ → ℕ → Bool
good_number count v = ltb v count

-- 8: a curve with vertices
unfoldable pub good_curve : CurveRow → Bool
good_curve c = not (eqb c.count 0)

-- the curves' lengths added up
unfoldable pub curve_lengths : List CurveRow → ℕ
curve_lengths [] = 0
curve_lengths (c ∷ cs) = c.count + curve_lengths cs

-- ---- the tests over a whole mesh in memory

-- 9, what every entry asks: no list counts more entries than its lent cells, and curve lengths add up to the curve vertices
unfoldable pub counts_hold : {F : Form} → Kind → Sizes → BenchIn F → Bool
counts_hold kind s b =
    within s (cells kind b) && eqb (curve_lengths (rows_of kind s b).curves) s.curve_vertices

-- 5: flag bytes and parities, those of a curve's steps too
unfoldable pub marks_hold : {F : Form} → RowsIn F → Bool
marks_hold {F} r =
    every (λ (v : F.Vertex). good_flags (F.flags v)) r.vertices
    && every (λ (e : ElementRow). good_parity e.parity) r.lines
    && every (λ (e : ElementRow). good_parity e.parity) r.areas
    && every (λ (e : ElementRow). good_parity e.parity) r.volumes
    && every (λ (part : List StepRow). every good_parity (step_words part)) (curve_parts r.curves r.curve_vertices)

-- 6
unfoldable pub positions_hold : {F : Form} → RowsIn F → Bool
positions_hold {F} r = every (λ (v : F.Vertex). good_position_in F (F.position v)) r.vertices

-- 7
unfoldable pub numbers_hold : {F : Form} → ℕ → RowsIn F → Bool
numbers_hold count r =
    every (good_number count) r.points
    && every (λ (e : ElementRow). every (good_number count) e.corners) r.lines
    && every (λ (e : ElementRow). every (good_number count) e.corners) r.areas
    && every (λ (e : ElementRow). every (good_number count) e.corners) r.volumes
    && every (λ (s : StepRow). good_number count s.vertex) r.curve_vertices

-- In memory: 9, 5, 6, 7, 8, then 10 for the lists handed in. An entry may have more to ask at 9 and at 5.
unfoldable pub handed_in : {F : Form} → Bool → Bool → Kind → Sizes → BenchIn F → List Due
handed_in nine five kind s b =
    let r = rows_of kind s b in
    due 9 (not (counts_hold kind s b && nine))
    ∷ due 5 (not (marks_hold r && five))
    ∷ due 6 (not (positions_hold r))
    ∷ due 7 (not (numbers_hold s.vertices r))
    ∷ due 8 (not (every good_curve r.curves))
    ∷ due 10 (not (within s LIMITS))
    ∷ []

-- ---- the refinement's entry

-- what is lent to it: two benches, the book and smoothing's cells
pub record DeskIn (F : Form) : Type 0 where
  pub first : BenchIn F
  pub second : BenchIn F
  -- BOOK_WORDS words a cell
  pub book : List ℕ
  -- smoothing: 4 words a cell for the sum, 2 for count and touch
  pub sums : List F.Cell
  pub tallies : List ℕ

abbrev pub Desk : Type 0
Desk = DeskIn binary32

-- a list's two benches are equal: its slices are as long on both, whatever the kind, in memory as for a file
unfoldable pub benches_equal : {F : Form} → BenchIn F → BenchIn F → Bool
benches_equal first second =
    eqb (length first.positions) (length second.positions)
    && eqb (length first.marks) (length second.marks)
    && eqb (length first.points) (length second.points)
    && eqb (length first.lines) (length second.lines)
    && eqb (length first.areas) (length second.areas)
    && eqb (length first.volumes) (length second.volumes)
    && eqb (length first.curves) (length second.curves)
    && eqb (length first.curve_vertices) (length second.curve_vertices)

-- the benches are equal, and smoothing's cells, of the sums as of the tallies, are as many as the vertices'
unfoldable pub benches_hold : {F : Form} → Kind → DeskIn F → Bool
benches_hold kind d =
    let vertices = (cells kind d.first).vertices in
    benches_equal d.first d.second
    && eqb (length d.sums / 4) vertices
    && eqb (length d.tallies / 2) vertices

-- the words of a cell of the book
abbrev pub BOOK_WORDS : ℕ
BOOK_WORDS = 6

unfoldable pub lent_by : {F : Form} → Kind → DeskIn F → Lent
lent_by kind d = record { cells = cells kind d.first; book = length d.book / BOOK_WORDS }

-- the refusal that is due before the first pass, at depth 0 too
unfoldable pub refinement_verdict : {F : Form} → Kind → Sizes → DeskIn F → ℕ → Verdict
refinement_verdict kind s d time = first_due (handed_in (benches_hold kind d) (good_parity time) kind s d.first)

-- refused before the first pass, and nothing changes; or run
pub data SubdividedIn (F : Form) : Type 0 where
  unchanged : ℕ → SubdividedIn F
  ran : RunIn F → SubdividedIn F

abbrev pub Subdivided : Type 0
Subdivided = SubdividedIn binary32

abbrev pub subdivided_by : {F : Form} → Verdict → RunIn F → SubdividedIn F
subdivided_by (refused n) r = unchanged n
subdivided_by accepted r = ran r

-- The whole of it: from the words handed in, the depth and the smooth_time byte.
unfoldable pub subdivided : {F : Form} → Kind → Sizes → DeskIn F → ℕ → ℕ → SubdividedIn F
subdivided kind s d depth time =
    subdivided_by (refinement_verdict kind s d time) (run kind (eqb time 1) (lent_by kind d) depth (mesh_of (rows_of kind s d.first)))

-- what the answer says; after a refusal before the first pass the mesh has the sizes that the caller stated
unfoldable pub told_after : {F : Form} → Sizes → SubdividedIn F → Told
told_after s (unchanged n) = record { passes = 0; sizes = s; verdict = refused n }
told_after s (ran r) = told_by r

-- the bench that the last whole pass wrote: the first for an even count, the second for an odd one
unfoldable pub side : {A : Type 0} → ℕ → A → A → A
side passes first second = cond (eqb (passes % 2) 0) first second

-- The words on a bench are a mesh: counts and marks are in order, and the rows stand for it. This fixes every word of every entry but the one
-- beside a curve's last vertex, which belongs to no step.
unfoldable pub StandsFor : {F : Form} → Kind → BenchIn F → MeshIn F → Type 0
StandsFor kind b m =
    let s = sizes_of m in
    (counts_hold kind s b ≡ true) × (marks_hold (rows_of kind s b) ≡ true) × (mesh_of (rows_of kind s b) ≡ m)

-- That word after a pass: the curve vertices of a mesh are words as `vertex_words` has them, with 0 beside a curve's last.
unfoldable pub StepsWritten : {F : Form} → BenchIn F → MeshIn F → Type 0
StepsWritten b m = take (length (vertex_words m.lists.curves)) b.curve_vertices ≡ vertex_words m.lists.curves

-- and by the number of whole passes: without one the bench is as it was, word for word
abbrev pub LastSteps : {F : Form} → ℕ → BenchIn F → BenchIn F → MeshIn F → Type 0
LastSteps zero before b m = b ≡ before
LastSteps (suc n) before b m = StepsWritten b m

-- What is lent, afterwards: as it was, or with the mesh left on the bench that the last whole pass wrote and the other cells free. So every word of every
-- entry that is handed back is fixed.
unfoldable pub Leaves : {F : Form} → Kind → SubdividedIn F → DeskIn F → DeskIn F → Type 0
Leaves kind (unchanged n) before after = after ≡ before
Leaves kind (ran r) before after =
    let left = side r.passes after.first after.second in
    StandsFor kind left r.left.mesh × LastSteps r.passes before.first left r.left.mesh
