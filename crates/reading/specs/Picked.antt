-- What a file is found to be, picked from what each of its parts came to: the first refusal, or a mesh.
-- Says nothing of the bytes.
-- Assumes nothing.
use Rattle.std.specs.Prelude.{ℕ, zero, suc, Result, Ok, Err}
use Rattle.geom.specs.declared.answer.Sizes.{Sizes}
use Rattle.geom.specs.declared.kind.Kind.{Kind}
use Rattle.geom.specs.declared.kind.Kind.TheVariants.{Cubes, Simplices}
use Rattle.geom.specs.declared.refusal.Refusal.{Refusal}
use Rattle.geom.specs.declared.refusal.Refusal.TheVariants as R
use Rattle.reading.specs.declared.walk.Walked.{Walked}
use Rattle.reading.specs.declared.judging.Mesh.{Mesh}

-- what a kind byte opens, or why it wasn't read
abbrev pub kind_in : Result ℕ Refusal → Result Kind Refusal
kind_in (Ok zero) = Ok Cubes
kind_in (Ok (suc zero)) = Ok Simplices
kind_in (Ok (suc (suc _))) = Err R.Kind
kind_in (Err r) = Err r

-- version 1, then the kind
abbrev pub header_of : Result ℕ Refusal → Result ℕ Refusal → Result Kind Refusal
header_of (Ok zero) kind = Err R.Version
header_of (Ok (suc zero)) kind = kind_in kind
header_of (Ok (suc (suc _))) kind = Err R.Version
header_of (Err r) kind = Err r

-- the first refusal of two
abbrev pub then_of : Result Unit Refusal → Result ℕ Refusal → Result Unit Refusal
then_of (Ok _) (Ok _) = Ok tt
then_of (Ok _) (Err r) = Err r
then_of (Err r) f = Err r

-- of the lists in their order, and of the end
unfoldable pub refusal_of : Walked → Result Unit Refusal
refusal_of w =
    let ended = then_of (then_of (then_of (Ok tt) w.vertices.field) w.points.field) w.lines.field in
    then_of (then_of (then_of (then_of ended w.areas.field) w.volumes.field) w.curves.field) w.left.field

abbrev pub value_of : Result ℕ Refusal → ℕ
value_of (Ok n) = n
value_of (Err _) = 0

unfoldable pub sizes_in : Walked → Sizes
sizes_in w =
    record {
      vertices = w.vertices.n;
      points = w.points.n;
      lines = w.lines.n;
      areas = w.areas.n;
      volumes = w.volumes.n;
      curves = w.curves.n;
      curve_vertices = value_of w.curves.field;
    }

abbrev pub lists_in : Result Unit Refusal → Kind → Walked → Result Mesh Refusal
lists_in (Ok _) kind w = Ok (record { kind = kind; sizes = sizes_in w })
lists_in (Err r) kind w = Err r

abbrev pub found_in : Result Kind Refusal → Walked → Result Mesh Refusal
found_in (Ok kind) w = lists_in (refusal_of w) kind w
found_in (Err r) w = Err r

abbrev pub found_of : Walked → Result Mesh Refusal
found_of w = found_in (header_of w.version.field w.kind.field) w
