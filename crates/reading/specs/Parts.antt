-- A part of a file, taken from a place on: what it comes to, and where whoever reads goes on.
-- Says nothing of the order of the parts, which is Walk's.
-- Assumes nothing.
use Rattle.std.specs.Prelude.{◌≡◌, List, ℕ, ◌+◌, ◌*◌, ◌≤◌, ◌<◌, Result, Ok, Err, length, get_or, drop}
use Rattle.geom.specs.declared.kind.Kind.{Kind}
use Rattle.geom.specs.declared.refusal.Refusal.{Refusal}
use Rattle.geom.specs.Answers.{number_of}
use Rattle.geom.specs.Elements.{Curve}
use Rattle.geom.specs.Kinds.{kind_of}
use Rattle.geom.specs.Memory.{area_corners, volume_corners}
use Rattle.geom.specs.File as File
use Rattle.geom.specs.File.{Reader, stop, ◌>>=◌, counted, curves}
use Rattle.reading.specs.declared.part.Taken.{Taken}
use Rattle.fields.specs.Fields.{word_at, vertex_at, wide, element_at, Gives, Counted, WoundAll}
use Rattle.fields.specs.Listed.{Lists}

-- ---- where a reader goes on

-- a reader that was refused stays
abbrev pub stayed_of : Result ℕ Refusal → ℕ → Taken
stayed_of f at = record { field = f; n = 0; at = at }

-- past a part that was read, whose entries have one width
abbrev pub taken_of : Result ℕ Refusal → ℕ → ℕ → ℕ → Taken
taken_of (Ok n) at fixed each = record { field = Ok n; n = n; at = at + fixed + each * n }
taken_of (Err r) at fixed each = stayed_of (Err r) at

-- ---- what a part comes to

-- the elements of a list
abbrev pub Rows : Taken → List ℕ → ℕ → ℕ → ℕ → ℕ → Type 0
Rows t bytes at lent corners count =
    Lists t.field bytes at lent (wide corners) (λ (i : ℕ). element_at corners bytes (at + 4 + wide corners * i)) (File.element count corners)
    × (t ≡ taken_of t.field at 4 (wide corners))

-- the curves with their count first
unfoldable pub strung : ℕ → ℕ → ℕ → Reader (List Curve)
strung lent count room = do
  n ← counted lent
  curves count room n 0

-- n curves with v vertices in all, and the place behind them
pub record Curved (bytes : List ℕ) (at lent count room n v end : ℕ) : Type 0 where
  pub counts : Counted bytes at lent n
  pub all : WoundAll bytes (at + 4) n count room v
  pub goes : end ≡ at + 4 + (5 * v + 7 * n)

abbrev CurvedAs : Result ℕ Refusal → ℕ → ℕ → List ℕ → ℕ → ℕ → ℕ → ℕ → Type 0
CurvedAs (Ok v) n end bytes at lent count room = Curved bytes at lent count room n v end
CurvedAs (Err r) n end bytes at lent count room = (strung lent count room (drop at bytes) ≡ stop (number_of r)) × (end ≡ at)

abbrev pub CurvesTaken : Taken → List ℕ → ℕ → ℕ → ℕ → ℕ → Type 0
CurvesTaken t bytes at lent count room = CurvedAs t.field t.n t.at bytes at lent count room

-- 4: bytes are left over
abbrev pub Left : Result ℕ Refusal → List ℕ → ℕ → Type 0
Left (Ok v) bytes at = length bytes ≤ at
Left (Err r) bytes at = (number_of r ≡ 4) × (at < length bytes)

-- what is read next: a byte of the header, a list with its count first, or that nothing is left over; a list with its lent cells and the number of
-- vertices, curves with the lent cells of their vertices too
pub data Part : Type 0 where
  Byte : Part
  Vertices : ℕ → Part
  Points : ℕ → ℕ → Part
  Lines : ℕ → ℕ → Part
  Areas : Kind → ℕ → ℕ → Part
  Volumes : Kind → ℕ → ℕ → Part
  Curves : ℕ → ℕ → ℕ → Part
  End : Part

-- any part
abbrev pub Takes : Part → List ℕ → ℕ → Taken → Type 0
Takes Byte bytes at t =
    Gives t.field bytes at (at + 1) (get_or bytes at 0) File.byte × (t ≡ taken_of t.field at 1 0)
Takes (Vertices lent) bytes at t =
    Lists t.field bytes at lent 25 (λ (i : ℕ). vertex_at bytes (at + 4 + 25 * i)) File.vertex × (t ≡ taken_of t.field at 4 25)
Takes (Points lent count) bytes at t =
    Lists t.field bytes at lent 4 (λ (i : ℕ). word_at bytes (at + 4 + 4 * i)) (File.number count) × (t ≡ taken_of t.field at 4 4)
Takes (Lines lent count) bytes at t = Rows t bytes at lent 2 count
Takes (Areas kind lent count) bytes at t = Rows t bytes at lent (area_corners (kind_of kind)) count
Takes (Volumes kind lent count) bytes at t = Rows t bytes at lent (volume_corners (kind_of kind)) count
Takes (Curves lent count room) bytes at t = CurvesTaken t bytes at lent count room
Takes End bytes at t = Left t.field bytes at
