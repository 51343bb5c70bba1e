-- What a refinement leaves: the state after as many passes as it counts, whose lists and book are those of the list rules alone.
-- Assumes nothing.
use mathlib.Core.Path.{◌≡◌, refl, ap, ◌∙◌}
use mathlib.Core.Bool.{Bool, true, false, cond}
use Prim.Native.Nat.{ℕ, zero, suc}
use lib.ListN.{length}
use Rattle.geom.specs.Book.{Kind}
use Rattle.geom.specs.Rules.{Went}
use Rattle.geom.specs.Passes.{pass, passes, lists_after, book_after}
use Rattle.geom.specs.Form.{Form}
use Rattle.geom.specs.Mesh.{MeshIn}
use Rattle.geom.specs.Refinement.{StateIn, went, pass_over, state_after, Lent, fits, RunIn, run_from, run}

-- n passes over a mesh are n passes over its lists
pub went_after : {F : Form} (kind : Kind) (time : Bool) (mesh : MeshIn F) (n : ℕ)
    → went (state_after kind time mesh n) ≡ passes kind (length mesh.vertices) mesh.lists n
unfolding state_after passes pass_over
went_after kind time mesh zero = refl
went_after kind time mesh (suc n) = ap (pass kind (length mesh.vertices)) (went_after kind time mesh n)

-- which of two runs a test takes makes no difference to that
either : {F : Form} (after : ℕ → StateIn F) (b : Bool) (x y : RunIn F) → x.left ≡ after x.passes → y.left ≡ after y.passes
    → (cond b x y).left ≡ after (cond b x y).passes
either after true x y p q = p
either after false x y p q = q

-- a run that goes on after n passes leaves the state after the passes that it counts
run_on : {F : Form} (kind : Kind) (time : Bool) (lent : Lent) (mesh : MeshIn F) (depth n : ℕ)
    → let r = run_from kind time lent (length mesh.vertices) depth n (state_after kind time mesh n) in
    r.left ≡ state_after kind time mesh r.passes
unfolding run_from state_after
run_on kind time lent mesh zero n = refl
run_on kind time lent mesh (suc depth) n =
    either (state_after kind time mesh) (fits lent (state_after kind time mesh (suc n))) _ _
    (run_on kind time lent mesh depth (suc n)) refl

-- the mesh left is the mesh after the passes counted
pub run_left : {F : Form} (kind : Kind) (time : Bool) (lent : Lent) (depth : ℕ) (mesh : MeshIn F)
    → let r = run kind time lent depth mesh in
    r.left ≡ state_after kind time mesh r.passes
unfolding run state_after
run_left kind time lent depth mesh = run_on kind time lent mesh depth 0

-- its lists and its book are those that so many passes make from the lists handed in
pub run_lists : {F : Form} (kind : Kind) (time : Bool) (lent : Lent) (depth : ℕ) (mesh : MeshIn F)
    → let r = run kind time lent depth mesh in
    (r.left.mesh.lists ≡ lists_after kind (length mesh.vertices) mesh.lists r.passes)
    × (r.left.book ≡ book_after kind (length mesh.vertices) mesh.lists r.passes)
run_lists kind time lent depth mesh =
    let r = run kind time lent depth mesh in
    let same = ap went (run_left kind time lent depth mesh) ∙ went_after kind time mesh r.passes in
    (ap (λ (w : Went). w.lists) same, ap (λ (w : Went). w.book) same)
