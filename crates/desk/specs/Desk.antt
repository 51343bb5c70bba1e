-- The desk of the program `sheet`: how long its slices are, so that 1,024 cells are lent to each list of the file's kind, and what its functions ask of them.
-- Assumes nothing.
use Rattle.std.specs.Prelude.{◌≡◌, true, List, ℕ, suc, ◌*◌, ◌≤◌, length, get_or}
use Rattle.desk.specs.declared.Arrays.{Arrays}
use Rattle.geom.specs.declared.answer.Sizes.{Sizes}
use Rattle.geom.specs.Answers.{accepted, first_due}
use Rattle.geom.specs.Book.{Kind, cubes}
use Rattle.geom.specs.File as File
use Rattle.geom.specs.Mesh.{sizes_of}
use Rattle.geom.specs.Memory.{Bench, area_corners, volume_corners, rows_of, mesh_of}
use Rattle.geom.specs.Refinement.{within}
use Rattle.geom.specs.Refusals.{good_parity, handed_in}
use Rattle.geom.specs.Sheet.{SHEET_CELLS}

-- the kind that a file's second byte says; where there is none or no kind, the file is refused for that whatever the kind is taken for
abbrev pub kind_said : List ℕ → Kind
kind_said file = File.kind_of (get_or file 1 0)

-- arrays with the words of 1,024 cells of each list, of areas and volumes those of cubes
pub record Wide (a : Arrays) : Type 0 where
  pub positions : length a.positions ≡ 4096
  pub marks : length a.marks ≡ 3072
  pub points : length a.points ≡ 1024
  pub lines : length a.lines ≡ 3072
  pub areas : length a.areas ≡ suc (area_corners cubes) * 1024
  pub volumes : length a.volumes ≡ suc (volume_corners cubes) * 1024
  pub curves : length a.curves ≡ 2048
  pub steps : length a.steps ≡ 2048

-- a bench with 1,024 cells of each list
pub record Lengths (kind : Kind) (b : Bench) : Type 0 where
  pub positions : length b.positions ≡ 4096
  pub marks : length b.marks ≡ 3072
  pub points : length b.points ≡ 1024
  pub lines : length b.lines ≡ 3072
  pub areas : length b.areas ≡ suc (area_corners kind) * 1024
  pub volumes : length b.volumes ≡ suc (volume_corners kind) * 1024
  pub curves : length b.curves ≡ 2048
  pub steps : length b.curve_vertices ≡ 2048

-- the smooth_time byte was judged, and every text has room
pub record Lent (byte : ℕ) (out : List ℕ) : Type 0 where
  pub time : good_parity byte ≡ true
  pub room : 147456 ≤ length out

-- the first bench is there
pub record Laid (time : ℕ) (file : List ℕ) (b : Bench) (out : List ℕ) : Type 0 where
  pub lent : Lent time out
  pub first : Lengths (kind_said file) b

-- and the second
pub record Ready (time : ℕ) (file : List ℕ) (b c : Bench) (out : List ℕ) : Type 0 where
  pub laid : Laid time file b out
  pub second : Lengths (kind_said file) c

-- a mesh stands on the first bench, and no refusal is due for it
pub record Handed (kind : Kind) (s : Sizes) (time : ℕ) (b c : Bench) (out : List ℕ) : Type 0 where
  pub lent : Lent time out
  pub first : Lengths kind b
  pub second : Lengths kind c
  pub due : first_due (handed_in true true kind s b) ≡ accepted
  pub cells : within (sizes_of (mesh_of (rows_of kind s b))) SHEET_CELLS ≡ true
