-- What a run under the program's lending leaves: at most 1,024 entries in each list and in the book, points as they were, and numbers of four digits at most.
-- Assumes nothing.
use mathlib.Core.Path.{◌≡◌, refl, ◌∙◌}
use mathlib.Core.Bool.{Bool, true, false, cond}
use mathlib.Core.List.{List}
use Prim.Native.Nat.{ℕ, zero, suc, ◌+◌, ◌≤◌}
use native.Mathlib.Omega.{arith}
use lib.ListN.{length}
use Rattle.geom.specs.Answers.{refused}
use Rattle.geom.specs.Book.{Kind}
use Rattle.geom.specs.Elements.{Element}
use Rattle.geom.specs.Mesh.{Mesh, sizes_of}
use Rattle.geom.specs.Memory.{area_corners, volume_corners}
use Rattle.geom.specs.Refinement.{State, begun, pass_over, Lent, fits, Run, run, run_from}
use Rattle.geom.specs.Ledger.{face_shape, volume_shape}
use Rattle.geom.specs.Sheet.{SHEET_CELLS, SHEET_LENT}
use Rattle.geom.specs.Between.{All, Below, Proper, Well}
use Rattle.geom.proofs.Lists.{all_map}
use Rattle.geom.proofs.Well.{below_more}
use Rattle.geom.proofs.Steps.{passes_good}
use Rattle.geom.proofs.Left.{run_lists}
use Rattle.geom.proofs.Back.{Stepped}
use Rattle.geom.proofs.Forming.{face_corners, volume_corners_lem}
use Rattle.geom.proofs.Within.{Within}
use Rattle.pass.proofs.Fitting.{fits_facts}
use Rattle.printing.proofs.Lengths.{Short}

-- a state that is within what is lent, with the points that were handed in, after at most so many passes
pub record Kept (lent : Lent) (given : List ℕ) (most : ℕ) (r : Run) : Type 0 where
  pub cells : Within (sizes_of r.left.mesh) lent.cells
  pub book : length r.left.book ≤ lent.book
  pub points : r.left.mesh.points ≡ given
  pub passes : r.passes ≤ most

kept_on :
    (kind : Kind) (time : Bool) (lent : Lent) (base depth n : ℕ) (s : State) → Within (sizes_of s.mesh) lent.cells → length s.book ≤ lent.book
    → Kept lent s.mesh.points (n + depth) (run_from kind time lent base depth n s)
unfolding run_from pass_over
kept_on kind time lent base zero n s w b = record { cells = w; book = b; points = refl; passes = omega arith }
kept_on kind time lent base (suc depth) n s w b = go (fits lent next) refl (kept_on kind time lent base depth (suc n) next)
  where
    next : State
    next = pass_over kind time base s

    stay : Run
    stay = record { passes = n; left = s; verdict = refused 10 }

    go : (t : Bool) → fits lent next ≡ t
        → (Within (sizes_of next.mesh) lent.cells → length next.book ≤ lent.book
        → Kept lent next.mesh.points (suc n + depth) (run_from kind time lent base depth (suc n) next))
        → Kept lent s.mesh.points (n + suc depth) (cond t (run_from kind time lent base depth (suc n) next) stay)
    go true e ih =
        let f = fits_facts lent next e in
        let k = ih f.cells f.book in
        record { cells = k.cells; book = k.book; points = k.points; passes = omega (arith, k.passes) }
    go false e ih = record { cells = w; book = b; points = refl; passes = omega arith }

pub run_kept :
    (kind : Kind) (time : Bool) (lent : Lent) (depth : ℕ) (mesh : Mesh) → Within (sizes_of mesh) lent.cells
    → Kept lent mesh.points depth (run kind time lent depth mesh)
unfolding run
run_kept kind time lent depth mesh w =
    let k = kept_on kind time lent (length mesh.vertices) depth 0 (begun mesh) w (omega arith) in
    record { cells = k.cells; book = k.book; points = k.points; passes = omega (arith, k.passes) }

-- ---- its numbers

elements_few :
    (n k c : ℕ) (es : List Element) → n ≤ 2048 → k ≡ c → All (Proper n k) es
    → All (λ (e : Element). (length e.corners ≡ c) × Below 10000 e.corners) es
elements_few n k c es l q a = all_map (λ e p. (p.long ∙ q, below_more (omega arith) e.corners p.below)) es a

-- the mesh left by a run has short lines
pub run_short :
    (kind : Kind) (time : Bool) (depth : ℕ) (mesh : Mesh) → Within (sizes_of mesh) SHEET_CELLS → Well kind (length mesh.vertices) mesh.lists
    → Below (length mesh.vertices) mesh.points
    → let r = run kind time SHEET_LENT depth mesh in
    All Stepped r.left.mesh.lists.curves → Short (area_corners kind) (volume_corners kind) r.left.mesh
unfolding sizes_of
run_short kind time depth mesh w well points stepped =
    let r = run kind time SHEET_LENT depth mesh in
    let k = run_kept kind time SHEET_LENT depth mesh w in
    let base = length mesh.vertices in
    let e = run_lists kind time SHEET_LENT depth mesh in
    let good = (passes_good kind base mesh.lists well r.passes).well in
    let n = base + length r.left.book in
    let here : Well kind n r.left.mesh.lists = rw (e.0, e.1) good in
    let few : n ≤ 2048 = omega (arith, k.book, w.vertices) in
    record {
      vertices = k.cells.vertices;
      points = k.cells.points;
      lines = k.cells.lines;
      areas = k.cells.areas;
      volumes = k.cells.volumes;
      curves = k.cells.curves;
      steps = k.cells.curve_vertices;
      point = rw k.points (below_more (omega (arith, w.vertices)) mesh.points points);
      line = elements_few n 2 2 r.left.mesh.lists.lines few refl here.lines;
      area = elements_few n (face_shape kind).count (area_corners kind) r.left.mesh.lists.areas few (face_corners kind) here.areas;
      volume = elements_few n (volume_shape kind).count (volume_corners kind) r.left.mesh.lists.volumes few (volume_corners_lem kind) here.volumes;
      stepped = stepped;
      curve = all_map (λ c b. below_more (omega arith) c.vertices b) r.left.mesh.lists.curves here.curves;
    }
