-- Document 02, U5, all but the numbers: the mesh with every parity changed is accepted wherever it stands, is the mesh read there, and stands on the
-- bench of its own words; the cell of a vertex, read off the list of normals; and the entries' verdict by its parts.
-- Assumes nothing.
use mathlib.Core.Path.{◌≡◌, refl, sym, ap, ◌∙◌, subst}
use mathlib.Core.Bool.{Bool, true, ◌&&◌}
use mathlib.Core.List.{List, [], ◌∷◌, ◌++◌, map, flat_map, append-nil, append_assoc}
use Prim.Native.Nat.{ℕ, zero, suc, ◌+◌, ◌*◌, ◌/◌, ◌≤◌, ◌<◌}
use native.Mathlib.Nat.{mul-suc, mul-div_right, le-min, zero-lt-suc}
use native.Mathlib.Omega.{arith}
use borrow.Author.Tests.{le-leb}
use lib.Ieee.Fits.{and_l}
use lib.Ieee.{Float}
use lib.ListN.{length, take, drop, length-append, length-map}
use lib.Seq.{take_at, drop_at, drop-drop}
use Rattle.geom.specs.declared.vertex.Vertex.{Vertex}
use Rattle.geom.specs.declared.answer.Sizes.{Sizes}
use Rattle.geom.specs.Parity.{flipped}
use Rattle.geom.specs.Book.{Kind, simplices}
use Rattle.geom.specs.Elements.{Element, Curve}
use Rattle.geom.specs.Form.{Form}
use Rattle.geom.specs.Mesh.{MeshIn, Mesh, curve_vertices_of, sizes_of}
use Rattle.geom.specs.Answers.{accepted, first_due}
use Rattle.geom.specs.Refinement.{within, LIMITS}
use Rattle.geom.specs.Memory.{Bench, cells, ElementRow, first_of, area_corners, volume_corners, rows_of, mesh_of, parity_word, element_words, curve_words, position_words_in, mark_words_in, bench_of, over}
use Rattle.geom.specs.Refusals.{every, good_flags, good_parity, marks_hold, handed_in, StandsFor}
use Rattle.geom.specs.Between.{All, Below, Proper, IsArea, IsVolume}
use Rattle.geom.specs.Normals.{shading_verdict}
use Rattle.geom.specs.Turning.{flipped_element, flipped_curve, flipped_mesh}
use Rattle.geom.proofs.Lists.{all_map, all_of_map, all_each, true_is}
use Rattle.geom.proofs.Rows.{first_of_cons}
use Rattle.geom.proofs.Within.{Within, within_holds}
use Rattle.geom.proofs.Back.{own_steps, row_words, vertex_words_lem, count_steps, Stepped}
use Rattle.geom.proofs.Standing.{Begins, Cornered, Formed, stands}
use Rattle.geom.proofs.Accepted.{none_due, accepted_before, accepted_first, holds, every_holds}
use Rattle.geom.proofs.Storing.{accepted_sizes}
use Rattle.geom.proofs.Spans.{Threaded, length_flat, accepted_shaped}
use Rattle.geom.proofs.Again.{Some, InOrder, accepted_on, limits_hold, accepted_in_order}

-- ---- what every parity changed keeps

curve_vertices_lem : (cs : List Curve) → curve_vertices_of (map flipped_curve cs) ≡ curve_vertices_of cs
unfolding curve_vertices_of flipped_curve
curve_vertices_lem [] = refl
curve_vertices_lem (c ∷ cs) = ap (λ (n : ℕ). length c.vertices + n) (curve_vertices_lem cs)

sizes_kept : (m : Mesh) → sizes_of (flipped_mesh m) ≡ sizes_of m
unfolding sizes_of flipped_mesh
sizes_kept m =
    λ i.
    record {
      vertices = length m.vertices;
      points = length m.points;
      lines = length-map m.lists.lines flipped_element i;
      areas = length-map m.lists.areas flipped_element i;
      volumes = length-map m.lists.volumes flipped_element i;
      curves = length-map m.lists.curves flipped_curve i;
      curve_vertices = curve_vertices_lem m.lists.curves i;
    }

order_kept : (m : Mesh) → InOrder simplices m → InOrder simplices (flipped_mesh m)
unfolding flipped_mesh flipped_element flipped_curve
order_kept m o =
    let n = length m.vertices in
    record {
      positions = o.positions;
      points = o.points;
      well =
          record {
            lines = all_of_map (Proper n 2) flipped_element m.lists.lines o.well.lines;
            areas = all_of_map (IsArea simplices n) flipped_element m.lists.areas o.well.areas;
            volumes = all_of_map (IsVolume simplices n) flipped_element m.lists.volumes o.well.volumes;
            curves = all_of_map (λ (c : Curve). Below n c.vertices) flipped_curve m.lists.curves o.well.curves;
          };
      curves = all_of_map Some flipped_curve m.lists.curves o.curves;
    }

-- ---- a mesh stands on the bench of its own words

begins_itself : {A : Type 0} (words : List A) → Begins words words
begins_itself words = record { rest = []; is = sym (append-nil words) }

-- entries of one width have as many cells
cells_enough : {A B : Type 0} {P : A → Type 0} (words : A → List B) (k : ℕ) → ((x : A) → P x → length (words x) ≡ suc k) → (xs : List A) → All P xs → length xs ≤ length (flat_map words xs) / suc k
cells_enough words k wide xs a =
    rw (length_flat words (suc k) wide xs a, mul-div_right (length xs) (zero-lt-suc k)) (omega arith)

rows_enough : {A B : Type 0} (words : A → List B) (k : ℕ) → ((x : A) → length (words x) ≡ suc k) → (xs : List A) → length xs ≤ length (flat_map words xs) / suc k
rows_enough words k wide xs = cells_enough {P = λ x. Unit {0}} words k (λ x u. wide x) xs (all_each (λ x. tt) xs)

-- the row of an element with k corners
element_long : (k : ℕ) (e : Element) → Cornered k e → length (e.corners ++ parity_word e.parity ∷ []) ≡ suc k
element_long k e l = omega (arith, length-append e.corners (parity_word e.parity ∷ []))

module _ {F : Form} (kind : Kind) (m : MeshIn F) (f : Formed kind m) where
  own_cells : Within (sizes_of m) (cells kind (bench_of m))
  unfolding sizes_of cells bench_of element_words curve_words
  own_cells =
      let vs = m.vertices in
      let cs = m.lists.curves in
      record {
        vertices = le-min (rows_enough (position_words_in F) 3 (λ v. refl) vs) (rows_enough (mark_words_in F) 2 (λ v. refl) vs);
        points = omega arith;
        lines = cells_enough _ 2 (element_long 2) m.lists.lines f.lines;
        areas = cells_enough _ (area_corners kind) (element_long (area_corners kind)) m.lists.areas f.areas;
        volumes = cells_enough _ (volume_corners kind) (element_long (volume_corners kind)) m.lists.volumes f.volumes;
        curves = rows_enough _ 1 (λ c. refl) cs;
        curve_vertices = rw (vertex_words_lem cs, ← count_steps cs) (rows_enough row_words 1 (λ r. refl) (flat_map own_steps cs));
      }

  stands_alone : StandsFor kind (bench_of m) m
  stands_alone =
      let own = bench_of m in
      stands kind m own
      (record {
        positions = begins_itself own.positions;
        marks = begins_itself own.marks;
        points = begins_itself own.points;
        lines = begins_itself own.lines;
        areas = begins_itself own.areas;
        volumes = begins_itself own.volumes;
        curves = begins_itself own.curves;
        curve_vertices = begins_itself own.curve_vertices;
      })
      f (within_holds (sizes_of m) (cells kind own) own_cells)

-- ---- the mesh with every parity changed

module _ (s : Sizes) (b : Bench) (e : first_due (handed_in true true simplices s b) ≡ accepted) where
  abbrev mesh : Mesh
  mesh = mesh_of (rows_of simplices s b)

  flipped_sizes : sizes_of (flipped_mesh mesh) ≡ s
  flipped_sizes = sizes_kept mesh ∙ accepted_sizes simplices s b true true e

  flags_good : All (λ (v : Vertex). good_flags v.flags ≡ true) mesh.vertices
  unfolding handed_in marks_hold mesh_of
  flags_good =
      let r = rows_of simplices s b in
      let even : ElementRow → Bool = λ e. good_parity e.parity in
      let f₁ = every (λ (v : Vertex). good_flags v.flags) r.vertices in
      let f₂ = every even r.lines in
      let f₃ = every even r.areas in
      let f₄ = every even r.volumes in
      let marks = and_l (marks_hold r) true (holds (marks_hold r && true) (none_due (handed_in true true simplices s b) e).1.0) in
      let flags = and_l f₁ f₂ (and_l (f₁ && f₂) f₃ (and_l (f₁ && f₂ && f₃) f₄ (and_l (f₁ && f₂ && f₃ && f₄) _ marks))) in
      all_map (λ v t. true_is _ t) r.vertices (every_holds (λ (v : Vertex). good_flags v.flags) r.vertices flags)

  flipped_formed : Formed simplices (flipped_mesh mesh)
  unfolding flipped_mesh flipped_element flipped_curve
  flipped_formed =
      let l = mesh.lists in
      let shaped = accepted_shaped simplices s b true true e in
      record {
        flags = flags_good;
        lines = all_of_map (Cornered 2) flipped_element l.lines shaped.lines;
        areas = all_of_map (Cornered 3) flipped_element l.areas shaped.areas;
        volumes = all_of_map (Cornered 4) flipped_element l.volumes shaped.volumes;
        curves = all_of_map Stepped flipped_curve l.curves (all_map (λ c (t : Threaded c). length-map c.parities flipped ∙ t.stepped) l.curves shaped.curves);
      }

  -- so there is a bench on which it stands
  pub flipped_stands : StandsFor simplices (bench_of (flipped_mesh mesh)) (flipped_mesh mesh)
  flipped_stands = stands_alone simplices (flipped_mesh mesh) flipped_formed

  module _ (other : Bench) (stand : StandsFor simplices other (flipped_mesh mesh)) where
    -- it is accepted there, and what is read there is it
    pub flipped_accepted : first_due (handed_in true true simplices s other) ≡ accepted
    flipped_accepted =
        let limits = ap (λ (x : Sizes). within x LIMITS) (sizes_kept mesh) ∙ limits_hold true true simplices s b e in
        subst (λ (x : Sizes). first_due (handed_in true true simplices x other) ≡ accepted) flipped_sizes
        (accepted_on simplices (flipped_mesh mesh) other (order_kept mesh (accepted_in_order true true simplices s b e)) limits stand)

    pub flipped_mesh_lem : mesh_of (rows_of simplices s other) ≡ flipped_mesh mesh
    unfolding StandsFor
    flipped_mesh_lem = subst (λ (x : Sizes). mesh_of (rows_of simplices x other) ≡ flipped_mesh mesh) flipped_sizes stand.2

-- ---- a cell of the list of normals

module _ {N : Type 0} (cells : N → List Float) (width : ℕ) (wide : (n : N) → length (cells n) ≡ width) where
  -- whatever stands behind them
  cell_before : (at : ℕ → N) (count v : ℕ) → v < count → (rest : List Float) → take width (drop (width * v) (flat_map cells (first_of at count) ++ rest)) ≡ cells (at v)
  unfolding flat_map
  cell_before at zero v h rest = absurd (omega arith)
  cell_before at (suc count) zero h rest =
      let more = flat_map cells (first_of (λ (i : ℕ). at (suc i)) count) in
      let z : width * 0 ≡ 0 = omega arith in
      rw (z, first_of_cons at count, append_assoc (cells (at 0)) more rest) (take_at (cells (at 0)) (more ++ rest) width (wide (at 0)))
  cell_before at (suc count) (suc v) h rest =
      let more = flat_map cells (first_of (λ (i : ℕ). at (suc i)) count) in
      let k : width * suc v ≡ width + width * v = omega (arith, mul-suc width v) in
      rw (k, first_of_cons at count, append_assoc (cells (at 0)) more rest, ← drop-drop (width * v) width (cells (at 0) ++ (more ++ rest)), drop_at (cells (at 0)) (more ++ rest) width (wide (at 0)))
      (cell_before (λ (i : ℕ). at (suc i)) count v (omega arith) rest)

  pub cell_of : (at : ℕ → N) (count v : ℕ) → v < count → (old : List Float) → take width (drop (width * v) (over old (flat_map cells (first_of at count)))) ≡ cells (at v)
  unfolding over
  cell_of at count v h old = cell_before at count v h _

-- ---- the entries' verdict

module _ (width : ℕ) (s : Sizes) (b : Bench) (out : List Float) where
  -- nothing is refused of what is handed in
  pub shading_judged : shading_verdict width s b out ≡ accepted → first_due (handed_in true true simplices s b) ≡ accepted
  unfolding shading_verdict
  shading_judged = accepted_first (handed_in true true simplices s b) _

  -- and nothing else is, where a cell is lent for each vertex
  pub shading_accepted : first_due (handed_in true true simplices s b) ≡ accepted → s.vertices ≤ length out / width → shading_verdict width s b out ≡ accepted
  unfolding shading_verdict first_due
  shading_accepted e h = accepted_before (handed_in true true simplices s b) _ e ∙ rw (le-leb s.vertices (length out / width) h) refl
