-- Document 01, sections 2 to 5 and the rules of refusal 10: the refinement of a whole mesh. One pass is the list rules and the vertex rules
-- together; passes are made to the depth, or to the first that doesn't fit what is lent.
-- Says nothing of words in memory, nor of what is refused before the first pass (Refusals).
-- Assumes nothing.
use Rattle.std.specs.Prelude.{Bool, cond, ◌&&◌, [], ℕ, zero, suc, leb, length, drop}
use Rattle.geom.specs.declared.answer.Sizes.{Sizes}
use Rattle.geom.specs.Book.{Kind, Book}
use Rattle.geom.specs.Rules.{Went}
use Rattle.geom.specs.Passes.{pass}
use Rattle.geom.specs.Answers.{Verdict, accepted, refused, Told}
use Rattle.geom.specs.Form.{Form}
use Rattle.geom.specs.Floats.{binary32}
use Rattle.geom.specs.Mesh.{MeshIn, sizes_of}
use Rattle.geom.specs.Smoothing.{with_midpoints_in, smoothed_in}

-- a mesh after some passes, and the book kept through them
pub record StateIn (F : Form) : Type 0 where
  pub mesh : MeshIn F
  pub book : Book

abbrev pub State : Type 0
State = StateIn binary32

-- the lists and the book of a state
abbrev pub went : {F : Form} → StateIn F → Went
went s = record { lists = s.mesh.lists; book = s.book }

-- One pass over a whole mesh: the lists are replaced, points stay. `base` is the vertex count handed in.
unfoldable pub pass_over : {F : Form} → Kind → Bool → ℕ → StateIn F → StateIn F
pass_over {F} kind time base s =
    let after = pass kind base (went s) in
    let vertices = with_midpoints_in F s.mesh.vertices (drop (length s.book) after.book) in
    record {
      mesh =
          record {
            vertices = smoothed_in F kind time after.lists vertices;
            points = s.mesh.points;
            lists = after.lists;
          };
      book = after.book;
    }

-- the mesh handed in, with the book empty
abbrev pub begun : {F : Form} → MeshIn F → StateIn F
begun mesh = record { mesh = mesh; book = [] }

-- the mesh and the book after n passes
unfoldable pub state_after : {F : Form} → Kind → Bool → MeshIn F → ℕ → StateIn F
state_after kind time mesh zero = begun mesh
state_after kind time mesh (suc n) = pass_over kind time (length mesh.vertices) (state_after kind time mesh n)

-- ---- what is lent

-- the lent cells of each list, and of the book
pub record Lent : Type 0 where
  pub cells : Sizes
  pub book : ℕ

-- 1,048,576 entries in each list
abbrev pub LIMIT : ℕ
LIMIT = 1_048_576

-- each count is at most another
unfoldable pub within : Sizes → Sizes → Bool
within s t =
    leb s.vertices t.vertices
    && leb s.points t.points
    && leb s.lines t.lines
    && leb s.areas t.areas
    && leb s.volumes t.volumes
    && leb s.curves t.curves
    && leb s.curve_vertices t.curve_vertices

-- the limit of every list
abbrev pub LIMITS : Sizes
LIMITS =
    record {
      vertices = LIMIT;
      points = LIMIT;
      lines = LIMIT;
      areas = LIMIT;
      volumes = LIMIT;
      curves = LIMIT;
      curve_vertices = LIMIT;
    }

-- no list, nor the book, exceeds its lent length or the limit
unfoldable pub fits : {F : Form} → Lent → StateIn F → Bool
fits lent s =
    within (sizes_of s.mesh) lent.cells
    && within (sizes_of s.mesh) LIMITS
    && leb (length s.book) lent.book
    && leb (length s.book) LIMIT

-- ---- the refinement

-- how many passes were whole, what they left, and how it ended
pub record RunIn (F : Form) : Type 0 where
  pub passes : ℕ
  pub left : StateIn F
  pub verdict : Verdict

abbrev pub Run : Type 0
Run = RunIn binary32

-- `depth` more passes from a state after n: 10 stops before the first that doesn't fit, and leaves the mesh before it
unfoldable pub run_from : {F : Form} → Kind → Bool → Lent → ℕ → ℕ → ℕ → StateIn F → RunIn F
run_from kind time lent base zero n s = record { passes = n; left = s; verdict = accepted }
run_from kind time lent base (suc depth) n s =
    let next = pass_over kind time base s in
    let onward = run_from kind time lent base depth (suc n) next in
    cond (fits lent next) onward (record { passes = n; left = s; verdict = refused 10 })

unfoldable pub run : {F : Form} → Kind → Bool → Lent → ℕ → MeshIn F → RunIn F
run kind time lent depth mesh = run_from kind time lent (length mesh.vertices) depth 0 (begun mesh)

-- what the answer says: the number of whole passes, the sizes of the mesh that they left, and how it ended
unfoldable pub told_by : {F : Form} → RunIn F → Told
told_by r = record { passes = r.passes; sizes = sizes_of r.left.mesh; verdict = r.verdict }
