-- What becomes of each vertex, from what it has gathered; and the list of all of them.
-- Assumes nothing.
use mathlib.Core.Path.{◌≡◌, refl, sym, ◌∙◌, ap, ap₂}
use mathlib.Core.Bool.{Bool, true, false, cond, not, ◌&&◌, ◌||◌}
use mathlib.Core.List.{List, [], ◌∷◌, ◌++◌, flat_map}
use Prim.Native.Nat.{ℕ, zero, suc, ◌+◌, ◌*◌, ◌/◌, ◌%◌, ◌≤◌, ◌<◌}
use native.Mathlib.Omega.{arith}
use lib.Dec.{eqb}
use lib.ListN.{length, get_or}
use lib.Seq.{sets, length-sets}
use borrow.Author.Tests.{eq-eqb, ne_eqb}
use Rattle.geom.specs.Book.{Kind}
use Rattle.geom.specs.Elements.{Lists}
use Rattle.geom.specs.Form.{Form}
use Rattle.geom.specs.Memory.{first_of, four_row, vertex_row_in, four_words, position_words_in, over}
use Rattle.geom.specs.Vertices.{flagged}
use Rattle.geom.specs.Smoothing.{GatheredIn, gathered_in, replaced, moved_in, settled_in, settled_from_in, smoothed_in}
use Rattle.vertices.specs.Cells.{gathered_row_in}
use Rattle.geom.proofs.Lists.{and_true, and_false}
use Rattle.geom.proofs.Rows.{length_first_of, first_of_same}
use Rattle.vertices.proofs.Written.{get_d_sets_past, laid_on, laid_over, length_flat}

-- ---- one vertex

or_true : (b : Bool) → (b || true) ≡ true
or_true true = refl
or_true false = refl

-- smooth_time is asked of w alone
replaced_space : (time b : Bool) → (b && (time || true)) ≡ b
replaced_space time b = rw (or_true time) (and_true b)

module _ (F : Form) where
  module _ (v : F.Vertex) (p : F.Point) (x y z : F.Coordinate)
      (ex : x ≡ cond (not (eqb (F.flags v / 1 % 2) 1)) (F.points.x p) (F.points.x (F.position v)))
      (ey : y ≡ cond (not (eqb (F.flags v / 2 % 2) 1)) (F.points.y p) (F.points.y (F.position v)))
      (ez : z ≡ cond (not (eqb (F.flags v / 4 % 2) 1)) (F.points.z p) (F.points.z (F.position v))) where
    space : (time : Bool) (w : F.Coordinate) → w ≡ cond (replaced time (F.flags v) 3) (F.points.w p) (F.points.w (F.position v))
        → F.points.four x y z w ≡ moved_in F time v p
    unfolding moved_in replaced flagged
    space time w ew =
        let ax = ex ∙ ap (λ (b : Bool). cond b (F.points.x p) (F.points.x (F.position v))) (sym (replaced_space time (not (eqb (F.flags v / 1 % 2) 1)))) in
        let ay = ey ∙ ap (λ (b : Bool). cond b (F.points.y p) (F.points.y (F.position v))) (sym (replaced_space time (not (eqb (F.flags v / 2 % 2) 1)))) in
        let az = ez ∙ ap (λ (b : Bool). cond b (F.points.z p) (F.points.z (F.position v))) (sym (replaced_space time (not (eqb (F.flags v / 4 % 2) 1)))) in
        λ i. F.points.four (ax i) (ay i) (az i) (ew i)

    pub moved_timed : (time : Bool) (w : F.Coordinate) → time ≡ true → w ≡ cond (not (eqb (F.flags v / 8 % 2) 1)) (F.points.w p) (F.points.w (F.position v))
        → F.points.four x y z w ≡ moved_in F time v p
    unfolding replaced flagged
    moved_timed time w t ew =
        space time w
        (ew ∙ ap (λ (b : Bool). cond b (F.points.w p) (F.points.w (F.position v)))
        (sym (ap (λ (s : Bool). not (eqb (F.flags v / 8 % 2) 1) && (s || false)) t ∙ and_true (not (eqb (F.flags v / 8 % 2) 1)))))

    pub moved_still : (time : Bool) → time ≡ false → F.points.four x y z (F.points.w (F.position v)) ≡ moved_in F time v p
    unfolding replaced flagged
    moved_still time t =
        space time (F.points.w (F.position v))
        (ap (λ (b : Bool). cond b (F.points.w p) (F.points.w (F.position v)))
        (sym (ap (λ (s : Bool). not (eqb (F.flags v / 8 % 2) 1) && (s || false)) t ∙ and_false (not (eqb (F.flags v / 8 % 2) 1)))))

  pub settled_none : (time : Bool) (v : F.Vertex) (sum : F.Sum) (n t : ℕ) → n ≡ 0
      → F.position v ≡ F.position (settled_in F time v (record { sum = sum; count = n; touch = t }))
  unfolding settled_in
  settled_none time v sum n t e = rw (eq-eqb n 0 e) refl

  pub settled_moved : (time : Bool) (v : F.Vertex) (sum : F.Sum) (n t : ℕ) (p r : F.Point) → (n ≡ 0 → ⊥) → p ≡ F.mean sum n → r ≡ moved_in F time v p
      → r ≡ F.position (settled_in F time v (record { sum = sum; count = n; touch = t }))
  unfolding settled_in
  settled_moved time v sum n t p r ne ep er = rw (ne_eqb n 0 ne) (er ∙ ap (moved_in F time v) ep ∙ sym (F.parts_of _ _ _ _).0)

  -- ---- all vertices, in place

  -- what becomes of vertex i, by what the cells hold
  abbrev pub settled_row : Bool → List F.Coordinate → List ℕ → List F.Cell → List ℕ → ℕ → F.Vertex
  settled_row time positions marks sums tallies i = settled_in F time (vertex_row_in F positions marks i) (gathered_row_in F sums tallies i)

  module _ (time : Bool) (held : List F.Coordinate) (marks : List ℕ) (sums : List F.Cell) (tallies : List ℕ) where
    pub record Settling (positions : List F.Coordinate) (i : ℕ) : Type 0 where
      pub points : positions ≡ sets held (4 * 0) (flat_map (position_words_in F) (first_of (settled_row time held marks sums tallies) i))

    pub settling_start : Settling held 0
    unfolding first_of flat_map
    settling_start = record { points = refl }

    module _ (positions : List F.Coordinate) (i : ℕ) (s : Settling positions i) where
      pub settling_length : length positions ≡ length held
      settling_length = ap length s.points ∙ length-sets held (4 * 0) (flat_map (position_words_in F) (first_of (settled_row time held marks sums tallies) i))

      -- row i still holds what it held
      word : (k : ℕ) → get_or positions (4 * i + k) F.points.zero ≡ get_or held (4 * i + k) F.points.zero
      word k =
          ap (λ (l : List F.Coordinate). get_or l (4 * i + k) F.points.zero) s.points
          ∙ get_d_sets_past held (4 * 0) (flat_map (position_words_in F) (first_of (settled_row time held marks sums tallies) i)) (4 * i + k) F.points.zero
          (omega (arith, length_flat (position_words_in F) 4 (λ v. refl) (first_of (settled_row time held marks sums tallies) i), length_first_of (settled_row time held marks sums tallies) i))

      row : vertex_row_in F positions marks i ≡ vertex_row_in F held marks i
      unfolding vertex_row_in four_row
      row =
          let e : 4 * i + 0 ≡ 4 * i = omega arith in
          let x = rw e at (word 0) in
          let y = word 1 in
          let z = word 2 in
          let w = word 3 in
          λ j. F.vertex (F.points.four (x j) (y j) (z j) (w j)) (get_or marks (3 * i) 0) (get_or marks (3 * i + 1) 0) (get_or marks (3 * i + 2) 0)

      pub settling_on : (v : F.Vertex) (sum : F.Sum) (n : ℕ) (p : F.Point) (positions' : List F.Coordinate) → v ≡ vertex_row_in F positions marks i
          → sum ≡ four_row F.sums sums i → n ≡ get_or tallies (2 * i) 0
          → ((touch : ℕ) → p ≡ F.position (settled_in F time v (record { sum = sum; count = n; touch = touch })))
          → positions' ≡ sets positions (4 * i) (four_words F.points p) → Settling positions' (i + 1)
      unfolding gathered_row_in
      settling_on v sum n p positions' ev es en ep e =
          let t = get_or tallies (2 * i + 1) 0 in
          let g : ◌≡◌ {A = GatheredIn F} (record { sum = sum; count = n; touch = t }) (gathered_row_in F sums tallies i) = λ j. record { sum = es j; count = en j; touch = t } in
          let q : p ≡ F.position (settled_row time held marks sums tallies i)
          = ep t ∙ ap₂ (λ (u : F.Vertex) (k : GatheredIn F). F.position (settled_in F time u k)) (ev ∙ row) g in
          let z : 4 * i ≡ 4 * (0 + i) = omega arith in
          record {
            points =
                e
                ∙ ap₂ (λ (k : ℕ) (r : F.Point). sets positions k (four_words F.points r)) z q
                ∙ laid_on (position_words_in F) 4 (λ v. refl) held positions (settled_row time held marks sums tallies) 0 i s.points;
          }

      pub settling_done : (count : ℕ) → i ≡ count → 4 * count ≤ length held → positions ≡ over held (flat_map (position_words_in F) (first_of (settled_row time held marks sums tallies) count))
      settling_done count e r =
          (rw e at s.points) ∙ laid_over (position_words_in F) 4 (λ v. refl) held (settled_row time held marks sums tallies) count r

  -- ---- the definition's list

  settled_snoc : (kind : Kind) (time : Bool) (l : Lists) (vertices : List F.Vertex) (n : ℕ) (xs : List F.Vertex) (x : F.Vertex)
      → settled_from_in F kind time l vertices n (xs ++ x ∷ []) ≡ settled_from_in F kind time l vertices n xs ++ settled_in F time x (gathered_in F kind l vertices (n + length xs)) ∷ []
  unfolding settled_from_in
  settled_snoc kind time l vertices n [] x = let e : n + 0 ≡ n = omega arith in rw e refl
  settled_snoc kind time l vertices n (y ∷ xs) x =
      let e : n + suc (length xs) ≡ suc n + length xs = omega arith in
      rw e (ap (λ (r : List F.Vertex). settled_in F time y (gathered_in F kind l vertices n) ∷ r) (settled_snoc kind time l vertices (suc n) xs x))

  settled_rows : (kind : Kind) (time : Bool) (l : Lists) (vertices : List F.Vertex) (row : ℕ → F.Vertex) (n : ℕ)
      → settled_from_in F kind time l vertices 0 (first_of row n) ≡ first_of (λ (i : ℕ). settled_in F time (row i) (gathered_in F kind l vertices i)) n
  unfolding first_of settled_from_in
  settled_rows kind time l vertices row zero = refl
  settled_rows kind time l vertices row (suc n) =
      let e : 0 + length (first_of row n) ≡ n = omega (arith, length_first_of row n) in
      settled_snoc kind time l vertices 0 (first_of row n) (row n)
      ∙ ap₂ (λ (xs : List F.Vertex) (k : ℕ). xs ++ settled_in F time (row n) (gathered_in F kind l vertices k) ∷ []) (settled_rows kind time l vertices row n) e

  -- cells that hold what each vertex gathers settle to the definition's list
  pub settled_smoothed : (kind : Kind) (time : Bool) (l : Lists) (positions : List F.Coordinate) (marks : List ℕ) (sums : List F.Cell) (tallies : List ℕ) (count : ℕ)
      → ((u : ℕ) → u < count → gathered_row_in F sums tallies u ≡ gathered_in F kind l (first_of (vertex_row_in F positions marks) count) u)
      → first_of (settled_row time positions marks sums tallies) count ≡ smoothed_in F kind time l (first_of (vertex_row_in F positions marks) count)
  unfolding smoothed_in
  settled_smoothed kind time l positions marks sums tallies count h =
      let vertices = first_of (vertex_row_in F positions marks) count in
      first_of_same (settled_row time positions marks sums tallies) (λ (i : ℕ). settled_in F time (vertex_row_in F positions marks i) (gathered_in F kind l vertices i)) count
      (λ i k. ap (settled_in F time (vertex_row_in F positions marks i)) (h i k))
      ∙ sym (settled_rows kind time l vertices (vertex_row_in F positions marks) count)
