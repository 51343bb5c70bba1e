-- The sizes of the mesh that rows stand for are those that are stated.
-- Assumes nothing.
use mathlib.Core.Path.{◌≡◌, refl, ◌∙◌, ap}
use mathlib.Core.List.{List, [], ◌∷◌, map}
use Prim.Native.Nat.{ℕ, suc, ◌≤◌}
use native.Mathlib.Omega.{arith}
use lib.ListN.{length, get_or, take, drop, length-take, length-drop, length-map}
use Rattle.geom.specs.declared.answer.Sizes.{Sizes}
use Rattle.geom.specs.Book.{Kind}
use Rattle.geom.specs.Form.{Form}
use Rattle.geom.specs.Mesh.{curve_vertices_of, sizes_of}
use Rattle.geom.specs.Memory.{BenchIn, CurveRow, StepRow, area_corners, volume_corners, first_of, vertex_row_in, element_row, curve_row, step_row, curves_of, element_of, rows_of, mesh_of}
use Rattle.geom.specs.Refusals.{curve_lengths}
use Rattle.geom.proofs.Rows.{length_first_of}

pub length_rows : (cs : List CurveRow) (rs : List StepRow) → length (curves_of cs rs) ≡ length cs
unfolding curves_of
length_rows [] rs = refl
length_rows (c ∷ cs) rs = ap suc (length_rows cs (drop c.count rs))

pub curves_count : (cs : List CurveRow) (rs : List StepRow) → curve_lengths cs ≤ length rs → curve_vertices_of (curves_of cs rs) ≡ curve_lengths cs
unfolding curves_of curve_vertices_of curve_lengths
curves_count [] rs l = refl
curves_count (c ∷ cs) rs l =
    let a = length-map (take c.count rs) (λ (r : StepRow). r.vertex) in
    let b = length-take c.count rs in
    let d = length-drop c.count rs in
    omega (arith, a, b, curves_count cs (drop c.count rs) (omega arith))

elements_count : (k : ℕ) (words : List ℕ) (n : ℕ) → length (map element_of (first_of (element_row k words) n)) ≡ n
elements_count k words n = length-map (first_of (element_row k words) n) element_of ∙ length_first_of (element_row k words) n

pub sizes_stated : {F : Form} (kind : Kind) (s : Sizes) (b : BenchIn F) → curve_lengths (first_of (curve_row b.curves) s.curves) ≡ s.curve_vertices → sizes_of (mesh_of (rows_of kind s b)) ≡ s
unfolding sizes_of mesh_of rows_of
sizes_stated {F} kind s b e =
    let cs = first_of (curve_row b.curves) s.curves in
    let rs = first_of (step_row b.curve_vertices) s.curve_vertices in
    λ i.
    record {
      vertices = length_first_of (vertex_row_in F b.positions b.marks) s.vertices i;
      points = length_first_of (λ (j : ℕ). get_or b.points j 0) s.points i;
      lines = elements_count 2 b.lines s.lines i;
      areas = elements_count (area_corners kind) b.areas s.areas i;
      volumes = elements_count (volume_corners kind) b.volumes s.volumes i;
      curves = (length_rows cs rs ∙ length_first_of (curve_row b.curves) s.curves) i;
      curve_vertices = (curves_count cs rs (omega (arith, length_first_of (step_row b.curve_vertices) s.curve_vertices)) ∙ e) i;
    }
