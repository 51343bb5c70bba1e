-- The refinement's entry, for both kinds: what its answer says, what it leaves on the desk, document 01's demand 3 on the ledger of signed faces, and what else
-- is kept of the mesh handed in.
-- Says nothing of the free cells after a run: those past a list's end, the other bench, the book and smoothing's cells.
-- Assumes nothing.
use Rattle.std.specs.Prelude.{◌≡◌, ◌↔◌, List, ℕ, eqb, Float, length}
use Rattle.geom.specs.declared.answer.Sizes.{Sizes}
use Rattle.geom.specs.Answers.{Told, accepted}
use Rattle.geom.specs.Book.{Kind, simplices}
use Rattle.geom.specs.Ledger.{ledger, refined, Closed}
use Rattle.geom.specs.Form.{Form}
use Rattle.geom.specs.Floats.{binary32}
use Rattle.geom.specs.Mesh.{MeshIn}
use Rattle.geom.specs.Memory.{BenchIn, Bench, rows_of, mesh_of}
use Rattle.geom.specs.Refinement.{run}
use Rattle.geom.specs.Refusals.{DeskIn, Desk, lent_by, refinement_verdict, subdivided, told_after, side, Leaves}
use Rattle.geom.specs.Soundness.{Sound}

-- all that is lent
abbrev pub desk_in : (F : Form) → BenchIn F → BenchIn F → List ℕ → List F.Cell → List ℕ → DeskIn F
desk_in F first second book sums tallies = record { first = first; second = second; book = book; sums = sums; tallies = tallies }

abbrev pub desk : Bench → Bench → List ℕ → List Float → List ℕ → Desk
desk = desk_in binary32

-- the mesh handed in: the words on the first bench, as many entries as the caller states
abbrev pub original : {F : Form} → Kind → Sizes → DeskIn F → MeshIn F
original kind s d = mesh_of (rows_of kind s d.first)

-- the mesh that is left: the words on the bench of the last whole pass, as many entries as the answer says
abbrev pub mesh_left : {F : Form} → Kind → Told → DeskIn F → MeshIn F
mesh_left kind t after = mesh_of (rows_of kind t.sizes (side t.passes after.first after.second))

-- Section 5, of the mesh handed in, the number n of whole passes and the mesh left.
-- The ledger of the mesh left equals, entry for entry, the original's ledger put n times through the refinement of faces.
abbrev pub LedgerRefined : {F : Form} → Kind → MeshIn F → ℕ → MeshIn F → Type 0
LedgerRefined kind mesh n left =
    (face : List ℕ)
    → ledger kind left.lists.volumes face
    ≡ refined kind (length mesh.vertices) mesh.lists n (ledger kind mesh.lists.volumes) face

-- The mesh left is closed exactly when the original is.
abbrev pub ClosedAsBefore : {F : Form} → Kind → MeshIn F → MeshIn F → Type 0
ClosedAsBefore kind mesh left = Closed (ledger kind mesh.lists.volumes) ↔ Closed (ledger kind left.lists.volumes)

-- Triangles and tetrahedra are recovered: whatever other accepted mesh is left with these, in as many passes, went in with the same ones.
abbrev pub Recovered : {F : Form} → MeshIn F → ℕ → MeshIn F → Type 0
Recovered {F} mesh n left =
    (s : Sizes) (d : DeskIn F) (depth time : ℕ) → refinement_verdict simplices s d time ≡ accepted
    → let other = original simplices s d in
    let r = run simplices (eqb time 1) (lent_by simplices d) depth other in
    r.passes ≡ n
    → r.left.mesh.lists.areas ≡ left.lists.areas
    → r.left.mesh.lists.volumes ≡ left.lists.volumes
    → (other.lists.areas ≡ mesh.lists.areas) × (other.lists.volumes ≡ mesh.lists.volumes)

-- demand 3, one claim about the whole refinement
pub record Keeps {F : Form} (kind : Kind) (mesh : MeshIn F) (n : ℕ) (left : MeshIn F) : Type 0 where
  pub ledger : LedgerRefined kind mesh n left
  pub closed : ClosedAsBefore kind mesh left
  pub recovered : kind ≡ simplices → Recovered mesh n left

-- The answer and what is left are the definition's; and where no refusal is due for what is handed in, demand 3 holds and the mesh left is sound, n being the
-- answer's own count.
pub record Refines {F : Form} (kind : Kind) (s : Sizes) (d after : DeskIn F) (depth time : ℕ) (t : Told) : Type 0 where
  pub answer : t ≡ told_after s (subdivided kind s d depth time)
  pub leaves : Leaves kind (subdivided kind s d depth time) d after
  pub keeps : refinement_verdict kind s d time ≡ accepted → Keeps kind (original kind s d) t.passes (mesh_left kind t after)
  pub sound : refinement_verdict kind s d time ≡ accepted → Sound kind (original kind s d) (eqb time 1) t.passes (mesh_left kind t after)
