-- How many bytes the file of a mesh has: by its kind and its sizes alone. Assumes nothing.
use mathlib.Core.Path.{◌≡◌, refl, ap, ◌∙◌}
use mathlib.Core.Bool.{Bool, true, not}
use mathlib.Core.List.{List, [], ◌∷◌, ◌++◌, map, flat_map}
use Prim.Native.Nat.{ℕ, zero, suc, ◌+◌, ◌*◌, ◌/◌, ◌≤◌, ◌<◌}
use native.Mathlib.Omega.{arith}
use native.Mathlib.Nat.{mul-suc}
use lib.Dec.{eqb}
use lib.ListN.{length, take, drop, length-append, length-map, length-take, length-drop}
use Rattle.geom.specs.declared.vertex.Vertex.{Vertex}
use Rattle.geom.specs.declared.answer.Sizes.{Sizes}
use Rattle.geom.specs.Book.{Kind}
use Rattle.geom.specs.Elements.{Element, Curve}
use Rattle.geom.specs.Mesh.{Mesh, curve_vertices_of, sizes_of}
use Rattle.geom.specs.Answers.{accepted, first_due}
use Rattle.geom.specs.Memory.{Bench, CurveRow, StepRow, first_of, element_row, element_of, step_row, rows_of, cells, curves_of, step_words, mesh_of, area_corners, volume_corners, parity_of, parity_word}
use Rattle.geom.specs.Refusals.{curve_lengths, good_curve, handed_in}
use Rattle.geom.specs.File.{word_bytes, vertex_bytes, element_bytes, curve_bytes, list_bytes, file_of, file_length}
use Rattle.geom.specs.Between.{All}
use Rattle.geom.proofs.Lists.{all_of_map, all_each}
use Rattle.geom.proofs.Rows.{length_first_of}
use Rattle.geom.proofs.Accepted.{all_first_of, row_long}
use Rattle.geom.proofs.Back.{Stepped}
use Rattle.geom.proofs.Storing.{steps_fewer, accepted_cells, accepted_sum, accepted_curves, accepted_sizes}

-- a curve with a vertex, and one parity fewer
pub record Threaded (c : Curve) : Type 0 where
  pub some : 0 < length c.vertices
  pub stepped : Stepped c

-- elements with their kind's corners, and curves with vertices and one parity fewer
pub record Shaped (kind : Kind) (m : Mesh) : Type 0 where
  pub lines : All (λ (e : Element). length e.corners ≡ 2) m.lists.lines
  pub areas : All (λ (e : Element). length e.corners ≡ area_corners kind) m.lists.areas
  pub volumes : All (λ (e : Element). length e.corners ≡ volume_corners kind) m.lists.volumes
  pub curves : All Threaded m.lists.curves

pub length_word : (n : ℕ) → length (word_bytes n) ≡ 4
unfolding word_bytes
length_word n = refl

pub length_vertex : (v : Vertex) → length (vertex_bytes v) ≡ 25
unfolding vertex_bytes word_bytes
length_vertex v = refl

-- entries of one width
pub length_flat : {A B : Type 0} {P : A → Type 0} (bytes : A → List B) (width : ℕ) → ((x : A) → P x → length (bytes x) ≡ width) → (xs : List A) → All P xs → length (flat_map bytes xs) ≡ width * length xs
unfolding flat_map
length_flat bytes width w [] a = omega arith
length_flat bytes width w (x ∷ xs) a =
    omega (arith, length-append (bytes x) (flat_map bytes xs), w x a.0, length_flat bytes width w xs a.1, mul-suc width (length xs))

length_words : (ns : List ℕ) → length (flat_map word_bytes ns) ≡ 4 * length ns
length_words ns = length_flat {P = λ (n : ℕ). Unit {0}} word_bytes 4 (λ n u. length_word n) ns (all_each (λ n. tt) ns)

pub length_element : (corners : ℕ) (e : Element) → length e.corners ≡ corners → length (element_bytes e) ≡ 4 * corners + 1
unfolding element_bytes
length_element corners e l = omega (arith, length-append (flat_map word_bytes e.corners) (parity_word e.parity ∷ []), length_words e.corners)

pub length_curve : (c : Curve) → Threaded c → length (curve_bytes c) ≡ 5 * length c.vertices + 7
unfolding curve_bytes
length_curve c t =
    let a = word_bytes c.tag in
    let b = word_bytes (length c.vertices) in
    let d = flat_map word_bytes c.vertices in
    let e = map parity_word c.parities in
    omega (
      arith,
      length-append (a ++ b ++ d) e,
      length-append (a ++ b) d,
      length-append a b,
      length_word c.tag,
      length_word (length c.vertices),
      length_words c.vertices,
      length-map c.parities parity_word,
      t.some,
      t.stepped,
    )

pub length_curves : (cs : List Curve) → All Threaded cs → length (flat_map curve_bytes cs) ≡ 5 * curve_vertices_of cs + 7 * length cs
unfolding flat_map curve_vertices_of
length_curves [] a = refl
length_curves (c ∷ cs) a =
    omega (arith, length-append (curve_bytes c) (flat_map curve_bytes cs), length_curve c a.0, length_curves cs a.1)

length_list : {A : Type 0} (bytes : A → List ℕ) (xs : List A) (n : ℕ) → length (flat_map bytes xs) ≡ n → length (list_bytes bytes xs) ≡ 4 + n
unfolding list_bytes
length_list bytes xs n e = omega (arith, length-append (word_bytes (length xs)) (flat_map bytes xs), length_word (length xs))

-- The file of a mesh has as many bytes as its kind and its sizes say.
pub file_length_lem : (kind : Kind) (m : Mesh) → Shaped kind m → length (file_of kind m) ≡ file_length kind (sizes_of m)
unfolding file_of file_length sizes_of
file_length_lem kind m h =
    let v = list_bytes vertex_bytes m.vertices in
    let p = list_bytes word_bytes m.points in
    let l = list_bytes element_bytes m.lists.lines in
    let a = list_bytes element_bytes m.lists.areas in
    let s = list_bytes element_bytes m.lists.volumes in
    let c = list_bytes curve_bytes m.lists.curves in
    omega (
      arith,
      length-append (v ++ p ++ l ++ a ++ s) c,
      length-append (v ++ p ++ l ++ a) s,
      length-append (v ++ p ++ l) a,
      length-append (v ++ p) l,
      length-append v p,
      length_list vertex_bytes m.vertices _ (length_flat {P = λ (x : Vertex). Unit {0}} vertex_bytes 25 (λ x u. length_vertex x) m.vertices (all_each (λ x. tt) m.vertices)),
      length_list word_bytes m.points _ (length_words m.points),
      length_list element_bytes m.lists.lines _ (length_flat element_bytes 9 (length_element 2) m.lists.lines h.lines),
      length_list element_bytes m.lists.areas _ (length_flat element_bytes (4 * area_corners kind + 1) (length_element (area_corners kind)) m.lists.areas h.areas),
      length_list element_bytes m.lists.volumes _ (length_flat element_bytes (4 * volume_corners kind + 1) (length_element (volume_corners kind)) m.lists.volumes h.volumes),
      length_list curve_bytes m.lists.curves _ (length_curves m.lists.curves h.curves),
    )

not_none : (n : ℕ) → not (eqb n 0) ≡ true → 0 < n
not_none zero e = let z : ◌≡◌ {A = ℕ} 0 1 = cc in absurd (omega arith)
not_none (suc n) e = omega arith

-- ---- a mesh that is accepted in memory, of any words

elements_long : (corners count : ℕ) (words : List ℕ) → count ≤ length words / suc corners → All (λ (e : Element). length e.corners ≡ corners) (map element_of (first_of (element_row corners words) count))
unfolding element_of
elements_long corners count words room =
    all_of_map (λ (e : Element). length e.corners ≡ corners) element_of (first_of (element_row corners words) count)
    (all_first_of (λ r. length r.corners ≡ corners) (element_row corners words) count (λ i h. row_long corners i words (omega arith)))

curves_threaded :
    (cs : List CurveRow) (steps : List StepRow) → curve_lengths cs ≤ length steps → All (λ (c : CurveRow). good_curve c ≡ true) cs → All Threaded (curves_of cs steps)
unfolding curves_of curve_lengths good_curve
curves_threaded [] steps l g = tt
curves_threaded (c ∷ cs) steps l g =
    let own = take c.count steps in
    let h = length-take c.count steps in
    let d = length-drop c.count steps in
    let v = length-map own (λ (r : StepRow). r.vertex) in (
      record {
        some = omega (arith, not_none c.count g.0);
        stepped = omega (arith, length-map (step_words own) parity_of, steps_fewer own);
      },
      curves_threaded cs (drop c.count steps) (omega arith) g.1,
    )

module _ (kind : Kind) (s : Sizes) (b : Bench) (nine five : Bool) (e : first_due (handed_in nine five kind s b) ≡ accepted) where
  pub accepted_shaped : Shaped kind (mesh_of (rows_of kind s b))
  unfolding cells rows_of mesh_of
  accepted_shaped =
      let q = accepted_cells kind s b nine five e in
      let r = rows_of kind s b in
      record {
        lines = elements_long 2 s.lines b.lines q.lines;
        areas = elements_long (area_corners kind) s.areas b.areas q.areas;
        volumes = elements_long (volume_corners kind) s.volumes b.volumes q.volumes;
        curves =
            curves_threaded r.curves r.curve_vertices
            (omega (arith, accepted_sum kind s b nine five e, length_first_of (step_row b.curve_vertices) s.curve_vertices))
            (accepted_curves kind s b nine five e);
      }

  -- its file has as many bytes as the kind and the sizes stated say
  pub accepted_length : length (file_of kind (mesh_of (rows_of kind s b))) ≡ file_length kind s
  accepted_length = file_length_lem kind (mesh_of (rows_of kind s b)) accepted_shaped ∙ ap (file_length kind) (accepted_sizes kind s b nine five e)
