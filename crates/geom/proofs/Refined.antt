-- Demand 3, whole: for every mesh in memory that is accepted, of either kind, every depth and every lending, with the number of whole passes and the mesh left as
-- the refinement gives them, wherever refusal 10 stopped the work. Acceptance is the only premise: no refusal is due for what is handed in.
-- Assumes nothing.
use mathlib.Core.Path.{◌≡◌, ap, sym, ◌∙◌}
use mathlib.Core.Logic.{◌↔◌}
use mathlib.Core.List.{List}
use Prim.Native.Nat.{ℕ}
use lib.Dec.{eqb}
use lib.ListN.{length}
use Rattle.geom.specs.declared.answer.Sizes.{Sizes}
use Rattle.geom.specs.Book.{Kind, simplices}
use Rattle.geom.specs.Elements.{Lists}
use Rattle.geom.specs.Passes.{lists_after}
use Rattle.geom.specs.Ledger.{ledger, refined, Closed}
use Rattle.geom.specs.Form.{Form}
use Rattle.geom.specs.Mesh.{MeshIn}
use Rattle.geom.specs.Answers.{accepted}
use Rattle.geom.specs.Refinement.{RunIn, run}
use Rattle.geom.specs.Memory.{rows_of, mesh_of}
use Rattle.geom.specs.Refusals.{DeskIn, lent_by, refinement_verdict}
use Rattle.geom.proofs.Left.{run_lists}
use Rattle.geom.proofs.Accepted.{accepted_well}
use Rattle.geom.proofs.Demand3 as Demand3

-- the mesh that the words on the first bench stand for, and what the refinement makes of it
abbrev pub original : {F : Form} → Kind → Sizes → DeskIn F → MeshIn F
original kind s d = mesh_of (rows_of kind s d.first)

abbrev pub run_of : {F : Form} → Kind → Sizes → DeskIn F → ℕ → ℕ → RunIn F
run_of kind s d depth time = run kind (eqb time 1) (lent_by kind d) depth (original kind s d)

-- the lists left are those after the passes counted
left_lists :
    {F : Form} (kind : Kind) (s : Sizes) (d : DeskIn F) (depth time : ℕ)
    → let mesh = original kind s d in
    let r = run_of kind s d depth time in
    r.left.mesh.lists ≡ lists_after kind (length mesh.vertices) mesh.lists r.passes
left_lists kind s d depth time = (run_lists kind (eqb time 1) (lent_by kind d) depth (original kind s d)).0

-- 1. The ledger of the mesh left equals, entry for entry, the original's ledger put n times through the refinement of faces, n being the whole passes.
pub ledger_left :
    {F : Form} (kind : Kind) (s : Sizes) (d : DeskIn F) (depth time : ℕ) → refinement_verdict kind s d time ≡ accepted
    → let mesh = original kind s d in
    let r = run_of kind s d depth time in
    (t : List ℕ)
    → ledger kind r.left.mesh.lists.volumes t
    ≡ refined kind (length mesh.vertices) mesh.lists r.passes (ledger kind mesh.lists.volumes) t
ledger_left kind s d depth time e t =
    let mesh = original kind s d in
    rw (left_lists kind s d depth time) (Demand3.ledger_refined kind (length mesh.vertices) mesh.lists (accepted_well kind s d time e) (run_of kind s d depth time).passes t)

-- 2. The mesh left is closed exactly when the original is, cubes and tetrahedra alike.
pub closed_left :
    {F : Form} (kind : Kind) (s : Sizes) (d : DeskIn F) (depth time : ℕ) → refinement_verdict kind s d time ≡ accepted
    → Closed (ledger kind (original kind s d).lists.volumes) ↔ Closed (ledger kind (run_of kind s d depth time).left.mesh.lists.volumes)
closed_left kind s d depth time e =
    let mesh = original kind s d in
    rw (left_lists kind s d depth time) (Demand3.closed_exactly_when kind (length mesh.vertices) mesh.lists (accepted_well kind s d time e) (run_of kind s d depth time).passes)

-- 3. Two accepted simplex meshes with equally many whole passes, left with equal triangles and equal tetrahedra (numbers, parities and order), went in with
-- equal ones.
pub recovered_from_left :
    {F G : Form} (s₁ s₂ : Sizes) (d₁ : DeskIn F) (d₂ : DeskIn G) (depth₁ depth₂ time₁ time₂ : ℕ)
    → refinement_verdict simplices s₁ d₁ time₁ ≡ accepted → refinement_verdict simplices s₂ d₂ time₂ ≡ accepted
    → let r₁ = run_of simplices s₁ d₁ depth₁ time₁ in
    let r₂ = run_of simplices s₂ d₂ depth₂ time₂ in
    let m₁ = (original simplices s₁ d₁).lists in
    let m₂ = (original simplices s₂ d₂).lists in
    r₁.passes ≡ r₂.passes
    → r₁.left.mesh.lists.areas ≡ r₂.left.mesh.lists.areas
    → r₁.left.mesh.lists.volumes ≡ r₂.left.mesh.lists.volumes
    → (m₁.areas ≡ m₂.areas) × (m₁.volumes ≡ m₂.volumes)
recovered_from_left s₁ s₂ d₁ d₂ depth₁ depth₂ time₁ time₂ e₁ e₂ same areas volumes =
    let m₁ = original simplices s₁ d₁ in
    let m₂ = original simplices s₂ d₂ in
    let base₁ = length m₁.vertices in
    let base₂ = length m₂.vertices in
    let n = (run_of simplices s₁ d₁ depth₁ time₁).passes in
    let left₁ = left_lists simplices s₁ d₁ depth₁ time₁ in
    let left₂ = left_lists simplices s₂ d₂ depth₂ time₂ ∙ ap (lists_after simplices base₂ m₂.lists) (sym same) in
    Demand3.recovered base₁ base₂ m₁.lists m₂.lists (accepted_well simplices s₁ d₁ time₁ e₁) (accepted_well simplices s₂ d₂ time₂ e₂) n
    (ap (λ (l : Lists). l.areas) (sym left₁) ∙ areas ∙ ap (λ (l : Lists). l.areas) left₂)
    (ap (λ (l : Lists). l.volumes) (sym left₁) ∙ volumes ∙ ap (λ (l : Lists). l.volumes) left₂)
