-- From the judgement to the walk that writes, and from what was written to the entry's answer.
-- Assumes nothing.
use mathlib.Core.Path.{◌≡◌, refl, sym, ◌∙◌, ap}
use mathlib.Core.Bool.{true, false}
use mathlib.Core.List.{List}
use Prim.Native.Nat.{ℕ, suc, ◌+◌, ◌*◌, ◌/◌, ◌≤◌}
use native.Mathlib.Nat.{le-div_iff_mul-le, mul_comm, zero-lt-suc}
use native.Mathlib.Omega.{arith}
use lib.Ieee.{Float}
use lib.ListN.{length}
use Rattle.geom.specs.declared.answer.Sizes.{Sizes}
use Rattle.geom.specs.Answers.{Opening, no_mesh, mesh_of_kind}
use Rattle.geom.specs.Book.{Kind}
use Rattle.geom.specs.Mesh.{sizes_of}
use Rattle.geom.specs.Memory.{Bench, area_corners, volume_corners, cells, element_words, over, bench_of}
use Rattle.geom.specs.Refusals.{benches_equal}
use Rattle.geom.specs.File.{stop, figure, bench_over, NO_SIZES, loaded}
use Rattle.judge.specs.Counts.{lengths_of, cells_of, equal_of}
use Rattle.judge.specs.Judged.{bench}
use Rattle.judge.proofs.Verdicts.{area_few, volume_few}
use Rattle.vertices.specs.Cells.{Stand, Over}
use Rattle.fields.specs.Fields.{vertices_at, numbers_at, elements_at, curves_at}
use Rattle.reading.specs.Places.{points_place, lines_place, areas_place, volumes_place, curves_place, mesh_at, Figured}
use Rattle.figure.specs.Written.{Words, Rows, Curves, Winded, Ready}
use Rattle.figure.specs.Entry.{opening, outcome}

-- ---- before the calls

rows_room : (corners n length : ℕ) → n ≤ length / suc corners → suc corners * n ≤ length
rows_room corners n length h = omega (arith, (le-div_iff_mul-le (zero-lt-suc corners)).0 h, mul_comm (suc corners) n)

module _ (kind : Kind) (s : Sizes) (bytes : List ℕ) (b : Bench) (r : Ready kind s bytes b) where
  pub vertices_stand : 6 + 25 * s.vertices ≤ length bytes
  vertices_stand = omega (arith, r.lain.whole)

  pub vertices_room : Stand b.positions b.marks s.vertices
  unfolding cells
  vertices_room = record { points = omega (arith, r.fits.vertices); words = omega (arith, r.fits.vertices) }

  pub points_ready : Words bytes (points_place s + 4) b.points 0 s.points
  unfolding cells
  points_ready = record { stand = omega (arith, r.lain.whole); room = omega (arith, r.fits.points) }

  pub lines_ready : Rows bytes (lines_place s + 4) b.lines 2 s.lines
  unfolding cells
  lines_ready = record { few = omega arith; stand = omega (arith, r.lain.whole); room = omega (arith, r.fits.lines) }

  pub areas_ready : Rows bytes (areas_place s + 4) b.areas (area_corners kind) s.areas
  unfolding cells
  areas_ready =
      record {
        few = area_few kind (area_corners kind) refl;
        stand = omega (arith, r.lain.whole);
        room = rows_room (area_corners kind) s.areas (length b.areas) r.fits.areas;
      }

  pub volumes_ready : Rows bytes (volumes_place kind s + 4) b.volumes (volume_corners kind) s.volumes
  unfolding cells
  volumes_ready =
      record {
        few = volume_few kind (volume_corners kind) refl;
        stand = omega (arith, r.lain.whole);
        room = rows_room (volume_corners kind) s.volumes (length b.volumes) r.fits.volumes;
      }

  pub curves_ready : Curves bytes (curves_place kind s + 4) b.curves b.curve_vertices s.curves
  unfolding cells sizes_of mesh_at
  curves_ready =
      record {
        some = r.lain.some;
        stand = omega (arith, r.lain.curves, r.lain.whole);
        rows = omega (arith, r.fits.curves);
        room = omega (arith, r.fits.steps, ap (λ (t : Sizes). t.curve_vertices) r.lain.sizes);
      }

  -- ---- after them

  pub written : (positions : List Float) (marks points lines areas volumes curves steps : List ℕ)
      → Over b.positions b.marks (vertices_at bytes 6 s.vertices) positions marks
      → points ≡ over b.points (numbers_at bytes (points_place s + 4) s.points)
      → lines ≡ over b.lines (element_words (elements_at 2 bytes (lines_place s + 4) s.lines))
      → areas ≡ over b.areas (element_words (elements_at (area_corners kind) bytes (areas_place s + 4) s.areas))
      → volumes ≡ over b.volumes (element_words (elements_at (volume_corners kind) bytes (volumes_place kind s + 4) s.volumes))
      → Winded (curves_at bytes (curves_place kind s + 4) s.curves) b.curves b.curve_vertices curves steps
      → bench positions marks points lines areas volumes curves steps ≡ bench_over b (bench_of (mesh_at kind s bytes))
  unfolding bench_over bench_of mesh_at
  written positions marks points lines areas volumes curves steps o p l a v w =
      rw (o.points, o.words, p, l, a, v, w.rows, w.words) refl

-- ---- the entry

module _ (first second : Bench) (bytes : List ℕ) where
  equal : equal_of (lengths_of first) (lengths_of second) ≡ benches_equal first second
  unfolding equal_of benches_equal
  equal = refl

  lent_same : figure (λ (kind : Kind). cells_of kind (lengths_of first)) bytes ≡ figure (λ (kind : Kind). cells kind first) bytes
  unfolding cells cells_of
  lent_same = refl

  pub load_nine : (o : Opening) → equal_of (lengths_of first) (lengths_of second) ≡ false → o ≡ opening NO_SIZES (no_mesh 9) → outcome o first ≡ loaded first second bytes
  unfolding loaded
  load_nine o m e = rw (sym equal ∙ m, e) refl

  module _ (m : equal_of (lengths_of first) (lengths_of second) ≡ true) where
    pub load_refused : (o : Opening) (n : ℕ) → figure (λ (kind : Kind). cells_of kind (lengths_of first)) bytes ≡ stop n → o ≡ opening NO_SIZES (no_mesh n)
        → outcome o first ≡ loaded first second bytes
    unfolding loaded
    load_refused o n f e = rw (sym equal ∙ m, sym lent_same ∙ f, e) refl

    module _ (kind : Kind) (s : Sizes) (f : Figured kind s (λ (kind : Kind). cells_of kind (lengths_of first)) bytes) where
      pub load_ready : Ready kind s bytes first
      unfolding cells cells_of
      load_ready = record { lain = f.lain; fits = f.fits }

      pub load_read : (o : Opening) (after : Bench) → after ≡ bench_over first (bench_of (mesh_at kind s bytes)) → o ≡ opening s (mesh_of_kind kind)
          → outcome o after ≡ loaded first second bytes
      unfolding loaded
      load_read o after w e = rw (sym equal ∙ m, sym lent_same ∙ f.reads, f.lain.sizes, e, w) refl
