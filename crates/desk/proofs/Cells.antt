-- The cells that the program lends: 1,024 for each list of the kind that the file says. Assumes nothing.
use mathlib.Core.Path.{◌≡◌, sym, ◌∙◌}
use Prim.Native.Nat.{ℕ, suc, ◌*◌, ◌/◌, min}
use native.Mathlib.Omega.{arith}
use lib.ListN.{length}
use Rattle.geom.specs.Book.{Kind, cubes, simplices}
use Rattle.geom.specs.Memory.{Bench, area_corners, volume_corners, cells}
use Rattle.geom.specs.Sheet.{SHEET_CELLS}
use Rattle.geom.specs.Memory.{AsLong}
use Rattle.desk.specs.Desk.{Lengths}

-- ---- a bench of the program

-- both benches are as long
pub same_lengths : {kind : Kind} {b c : Bench} → Lengths kind b → Lengths kind c → AsLong b c
same_lengths l m =
    record {
      positions = l.positions ∙ sym m.positions;
      marks = l.marks ∙ sym m.marks;
      points = l.points ∙ sym m.points;
      lines = l.lines ∙ sym m.lines;
      areas = l.areas ∙ sym m.areas;
      volumes = l.volumes ∙ sym m.volumes;
      curves = l.curves ∙ sym m.curves;
      curve_vertices = l.steps ∙ sym m.steps;
    }

pub cells_lent : (kind : Kind) (b : Bench) → Lengths kind b → cells kind b ≡ SHEET_CELLS
unfolding cells
cells_lent kind b l =
    let v : min (length b.positions / 4) (length b.marks / 3) ≡ 1024 = omega (arith, l.positions, l.marks) in
    let n : length b.lines / 3 ≡ 1024 = omega (arith, l.lines) in
    let a : length b.areas / suc (area_corners kind) ≡ 1024 = areas kind (length b.areas) l.areas in
    let w : length b.volumes / suc (volume_corners kind) ≡ 1024 = volumes kind (length b.volumes) l.volumes in
    let c : length b.curves / 2 ≡ 1024 = omega (arith, l.curves) in
    let s : length b.curve_vertices / 2 ≡ 1024 = omega (arith, l.steps) in
    λ i. record { vertices = v i; points = l.points i; lines = n i; areas = a i; volumes = w i; curves = c i; curve_vertices = s i }
  where
    areas : (kind : Kind) (n : ℕ) → n ≡ suc (area_corners kind) * 1024 → n / suc (area_corners kind) ≡ 1024
    areas cubes n e = omega arith
    areas simplices n e = omega arith

    volumes : (kind : Kind) (n : ℕ) → n ≡ suc (volume_corners kind) * 1024 → n / suc (volume_corners kind) ≡ 1024
    volumes cubes n e = omega arith
    volumes simplices n e = omega arith
