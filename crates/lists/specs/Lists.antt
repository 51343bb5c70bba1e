-- The lists of a bench in memory, and what a function answers that makes a pass over them.
-- Says nothing of vertices and points, which stay with the vertex rules.
-- Assumes nothing.
use Rattle.std.specs.Prelude.{◌≡◌, ◌⊎◌, List, map, ℕ, suc, ◌+◌, ◌*◌, ◌^◌, ◌<◌, ◌≤◌, length, get_or, Result}
use Rattle.geom.specs.declared.answer.Sizes.{Sizes}
use Rattle.geom.specs.declared.bench.Bench as Read
use Rattle.geom.specs.declared.bench.BenchMut as Written
use Rattle.geom.specs.Answers.{EndsWith}
use Rattle.geom.specs.Book.{Kind}
use Rattle.geom.specs.Elements.{Lists}
use Rattle.geom.specs.Rules.{Went}
use Rattle.geom.specs.Passes.{pass}
use Rattle.geom.specs.Mesh.{curve_vertices_of}
use Rattle.geom.specs.Memory.{area_corners, volume_corners, first_of, element_row, curve_row, step_row, element_of, curves_of, element_words, curve_words, vertex_words, over}
use Rattle.geom.specs.Refusals.{curve_lengths}
use Rattle.book.specs.declared.Full.{Full}
use Rattle.book.specs.Cells.{pairs_of}
use Rattle.book.specs.Answers.{Ready, ending_of}
use Rattle.lists.specs.declared.Stage.{Stage}

-- the slices of the lists that a pass replaces
pub record Slices : Type 0 where
  pub lines : List ℕ
  pub areas : List ℕ
  pub volumes : List ℕ
  pub curves : List ℕ
  pub steps : List ℕ

abbrev pub slices : List ℕ → List ℕ → List ℕ → List ℕ → List ℕ → Slices
slices lines areas volumes curves steps =
    record { lines = lines; areas = areas; volumes = volumes; curves = curves; steps = steps }

-- those of a bench that is read, and of one that is written
abbrev pub slices_of : Read.Bench → Slices
slices_of b = slices b.lines.now b.areas.now b.volumes.now b.curves.now b.steps.now

abbrev pub slices_on : Written.BenchMut → Slices
slices_on b = slices b.lines.now b.areas.now b.volumes.now b.curves.now b.steps.now

-- the lists that they stand for, as many entries as are stated: those of geom's `mesh_of (rows_of ..)`
abbrev pub lists_of : Kind → Sizes → Slices → Lists
lists_of kind s b =
    record {
      lines = map element_of (first_of (element_row 2 b.lines) s.lines);
      areas = map element_of (first_of (element_row (area_corners kind) b.areas) s.areas);
      volumes = map element_of (first_of (element_row (volume_corners kind) b.volumes) s.volumes);
      curves = curves_of (first_of (curve_row b.curves) s.curves) (first_of (step_row b.steps) s.curve_vertices);
    }

-- the points that are stated
abbrev pub points_of : List ℕ → ℕ → List ℕ
points_of words n = first_of (λ (i : ℕ). get_or words i 0) n

-- lists and book in memory after a pass
abbrev pub passed : Kind → ℕ → Sizes → Slices → List ℕ → ℕ → Went
passed kind base s b book made = pass kind base (record { lists = lists_of kind s b; book = pairs_of book made })

-- the lists that are stated stand in their slices
pub record Stands (kind : Kind) (s : Sizes) (b : Slices) : Type 0 where
  pub lines : 3 * s.lines ≤ length b.lines
  pub areas : suc (area_corners kind) * s.areas ≤ length b.areas
  pub volumes : suc (volume_corners kind) * s.volumes ≤ length b.volumes
  pub curves : 2 * s.curves ≤ length b.curves
  pub steps : 2 * s.curve_vertices ≤ length b.steps

-- what a pass reads and writes: the old lists stand, the new ones may have so many cells, and the book has room
pub record Given (kind : Kind) (base room made : ℕ) (s cells : Sizes) (old new : Slices) (book : List ℕ) : Type 0 where
  pub ready : Ready base room made book
  pub reads : Stands kind s old
  pub writes : Stands kind cells new
  pub sum : curve_lengths (first_of (curve_row old.curves) s.curves) ≡ s.curve_vertices
  pub curves : s.curves ≤ cells.curves
  pub small : cells.curve_vertices < 2 ^ 32

-- the new sizes are those of the pass, and within the cells
pub record Counts (base : ℕ) (s cells : Sizes) (w : Went) (t : Sizes) (e : ℕ) : Type 0 where
  pub vertices : t.vertices ≡ base + e
  pub points : t.points ≡ s.points
  pub lines : t.lines ≡ length w.lists.lines
  pub areas : t.areas ≡ length w.lists.areas
  pub volumes : t.volumes ≡ length w.lists.volumes
  pub curves : t.curves ≡ s.curves
  pub steps : t.curve_vertices ≡ curve_vertices_of w.lists.curves
  pub line : t.lines ≤ cells.lines
  pub area : t.areas ≤ cells.areas
  pub volume : t.volumes ≤ cells.volumes
  pub step : t.curve_vertices ≤ cells.curve_vertices

-- each list is written from its slice's start over what it held
pub record Wrote (w : Went) (new after : Slices) : Type 0 where
  pub lines : after.lines ≡ over new.lines (element_words w.lists.lines)
  pub areas : after.areas ≡ over new.areas (element_words w.lists.areas)
  pub volumes : after.volumes ≡ over new.volumes (element_words w.lists.volumes)
  pub curves : after.curves ≡ over new.curves (curve_words w.lists.curves)
  pub steps : after.steps ≡ over new.steps (vertex_words w.lists.curves)

-- what is no list of a pass holds the words that it held
pub record Still (a b : Written.BenchMut) : Type 0 where
  pub positions : a.positions.now ≡ b.positions.now
  pub marks : a.marks.now ≡ b.marks.now
  pub points : a.points.now ≡ b.points.now

-- the whole pass over the lists
pub record Made (base room : ℕ) (s cells : Sizes) (w : Went) (new after : Slices) (book : List ℕ) (t : Sizes) (e : ℕ) : Type 0 where
  pub ready : Ready base room e book
  pub entries : pairs_of book e ≡ w.book
  pub counts : Counts base s cells w t e
  pub wrote : Wrote w new after

-- the book after is longer than the room, or a list longer than its cells
abbrev pub Bursts : ℕ → Sizes → Went → Type 0
Bursts room cells w =
    (room < length w.book)
    ⊎ (cells.lines < length w.lists.lines)
    ⊎ (cells.areas < length w.lists.areas)
    ⊎ (cells.volumes < length w.lists.volumes)
    ⊎ (cells.curve_vertices < curve_vertices_of w.lists.curves)

abbrev pub Told : ℕ → ℕ → Sizes → Sizes → Went → Slices → Slices → List ℕ → Result Stage Full → Type 0
Told base room s cells w new after book r =
    EndsWith (λ (t : Stage). Made base room s cells w new after book t.sizes t.made) (Bursts room cells w) (ending_of r)
