-- Document 02, U8: the chain that model makers walk. Cubes are refined, the cubes left are triangulated, and the tetrahedra left are refined.
-- A call is any call of an entry that is accepted: what is handed in and lent, what is answered and left, and what the entry promises of these. Where
-- refusal 10 stops a refinement the answer says so, and the call is one of these all the same.
-- Says nothing of areas, lines, points and curves, nor of when the next call is accepted.
-- Assumes nothing. Three such calls, from a mesh of cubes that closes on, stand in proofs/Walked.
use Rattle.std.specs.Prelude.{◌≡◌, List, ℕ, length}
use Rattle.geom.specs.declared.answer.Sizes.{Sizes}
use Rattle.geom.specs.Answers.{Told, accepted}
use Rattle.geom.specs.Book.{Kind, cubes, simplices}
use Rattle.geom.specs.Elements.{Element}
use Rattle.geom.specs.Ledger.{ledger, refined, Closed}
use Rattle.geom.specs.Memory.{Bench}
use Rattle.geom.specs.Mesh.{Mesh}
use Rattle.geom.specs.Refusals.{Desk, refinement_verdict}
use Rattle.geom.specs.Triangulation.{Cuts, Triangulated, triangulation_verdict}
use Rattle.geom.specs.Cutting.{read, replaced, Different}
use Rattle.subdivision.specs.Entry.{original, mesh_left, Refines}
use Rattle.triangulation.specs.Entry.{cubes_handed, tetrahedra_left, Triangulates}

-- a call of the refinement
pub record Refining (kind : Kind) : Type 0 where
  pub sizes : Sizes
  pub lent : Desk
  pub depth : ℕ
  pub time : ℕ
  pub left : Desk
  pub told : Told
  pub promised : Refines kind sizes lent left depth time told
  pub taken : refinement_verdict kind sizes lent time ≡ accepted

-- the mesh handed in, and the volumes of the mesh left
abbrev pub handed : {kind : Kind} → Refining kind → Mesh
handed {kind} c = original kind c.sizes c.lent

abbrev pub volumes_left : {kind : Kind} → Refining kind → List Element
volumes_left {kind} c = (mesh_left kind c.told c.left).lists.volumes

-- a call of the triangulation
pub record Cutting : Type 0 where
  pub sizes : Sizes
  pub words : Bench
  pub lent : Cuts
  pub answer : Triangulated
  pub promised : Triangulates sizes words lent answer
  pub taken : triangulation_verdict sizes words lent ≡ accepted

-- the tetrahedra that the call leaves
abbrev pub printed : Cutting → List Element
printed c = tetrahedra_left c.answer

-- The triangulation is handed the cubes that the refinement left: in place or copied, and whatever else.
abbrev pub Follows : Refining cubes → Cutting → Type 0
Follows first second = cubes_handed second.sizes second.words ≡ volumes_left first

-- The refinement is handed the tetrahedra that the triangulation left.
abbrev pub Ends : Cutting → Refining simplices → Type 0
Ends second third = (handed third).lists.volumes ≡ printed second

-- The ledger of the tetrahedra is that of the cubes first handed in, put through the refinement of faces as often as the first call says, with each square
-- replaced; both as they are read.
abbrev pub LedgerThrough : Refining cubes → Cutting → Type 0
LedgerThrough first second =
    let m = handed first in
    (face : List ℕ)
    → read (ledger simplices (printed second)) face
    ≡ read (replaced second.sizes.vertices (refined cubes (length m.vertices) m.lists first.told.passes (ledger cubes m.lists.volumes))) face

-- Cubes that close give tetrahedra that close as they are read; and where every tetrahedron has four different corners, the tetrahedra that a refinement of
-- them leaves close without reservation.
pub record ClosedThrough (second : Cutting) : Type 0 where
  pub as_read : Closed (read (ledger simplices (printed second)))
  pub whole : Different (printed second) → (third : Refining simplices) → Ends second third → Closed (ledger simplices (volumes_left third))
