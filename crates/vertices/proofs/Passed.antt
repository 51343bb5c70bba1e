-- The vertices that a pass leaves: what was laid out is read back, and what smoothing makes of it stands in its place.
-- Assumes nothing.
use mathlib.Core.Path.{◌≡◌, refl, sym, ◌∙◌, ap, ap₂}
use mathlib.Core.Bool.{Bool, true, false, cond, ◌&&◌}
use mathlib.Core.List.{List, [], ◌∷◌, ◌++◌, flat_map, append_assoc}
use Prim.Native.Nat.{ℕ, zero, suc, ◌+◌, ◌*◌, ◌<◌}
use native.Mathlib.Nat.{mul-suc}
use native.Mathlib.Omega.{arith}
use borrow.Author.Tests.{eqb-true}
use lib.Dec.{eqb}
use lib.ListN.{length, get_or, drop, get_or-append}
use lib.Seq.{drop_at, get_or-append-add, ext_get_or}
use Rattle.geom.specs.Form.{Form}
use Rattle.geom.specs.Book.{Kind, cubes, simplices}
use Rattle.geom.specs.Elements.{Curve, Lists}
use Rattle.geom.specs.Memory.{first_of, four_row, vertex_row_in, position_words_in, mark_words_in, over}
use Rattle.geom.specs.Vertices.{vertex_in}
use Rattle.geom.specs.Smoothing.{GatheredIn, nothing, gather, gathered_in, moved_in, settled_in, settled_from_in, smoothed_in}
use Rattle.vertices.specs.Cells.{lists_of, OverIn}
use Rattle.geom.proofs.Lists.{and_true_left, and_true_right}
use Rattle.geom.proofs.Rows.{length_first_of, get_d_first_of}
use Rattle.vertices.proofs.Written.{length_flat}

-- ---- rows read back

-- word k of row i
flat_at : {A B : Type 0} (f : A → List B) (width : ℕ) → ((x : A) → length (f x) ≡ width) → (xs : List A) (rest : List B) (i k : ℕ) (e : A) (d : B)
    → i < length xs → k < width → get_or (flat_map f xs ++ rest) (width * i + k) d ≡ get_or (f (get_or xs i e)) k d
unfolding flat_map
flat_at f width wide [] rest i k e d h l = absurd (omega arith)
flat_at f width wide (x ∷ xs) rest zero k e d h l =
    let z : width * 0 + k ≡ k = omega arith in
    ap₂ (λ (r : List _) (n : ℕ). get_or r n d) (append_assoc (f x) (flat_map f xs) rest) z
    ∙ get_or-append (f x) (flat_map f xs ++ rest) d k (omega (arith, wide x))
flat_at f width wide (x ∷ xs) rest (suc i) k e d h l =
    let z : width * suc i + k ≡ length (f x) + (width * i + k) = omega (arith, mul-suc width i, wide x) in
    ap₂ (λ (r : List _) (n : ℕ). get_or r n d) (append_assoc (f x) (flat_map f xs) rest) z
    ∙ get_or-append-add (f x) (flat_map f xs ++ rest) (width * i + k) d
    ∙ flat_at f width wide xs rest i k e d (omega arith) l

-- the words of all positions, of all marks
abbrev positions_in : (F : Form) → List F.Vertex → List F.Coordinate
positions_in F = flat_map (position_words_in F)

abbrev marks_in : (F : Form) → List F.Vertex → List ℕ
marks_in F = flat_map (mark_words_in F)

module _ (F : Form) (held : List F.Coordinate) (noted : List ℕ) (vertices : List F.Vertex) (i : ℕ) (h : i < length vertices) where
  position : (k : ℕ) → k < 4 → get_or (over held (positions_in F vertices)) (4 * i + k) F.points.zero ≡ get_or (position_words_in F (vertex_in F vertices i)) k F.points.zero
  unfolding over
  position k l =
      flat_at (position_words_in F) 4 (λ v. refl) vertices (drop (length (positions_in F vertices)) held) i k (F.vertex F.origin 0 0 0) F.points.zero h l

  mark : (k : ℕ) → k < 3 → get_or (over noted (marks_in F vertices)) (3 * i + k) 0 ≡ get_or (mark_words_in F (vertex_in F vertices i)) k 0
  unfolding over
  mark k l = flat_at (mark_words_in F) 3 (λ v. refl) vertices (drop (length (marks_in F vertices)) noted) i k (F.vertex F.origin 0 0 0) 0 h l

  row : vertex_row_in F (over held (positions_in F vertices)) (over noted (marks_in F vertices)) i ≡ vertex_in F vertices i
  unfolding vertex_row_in four_row
  row =
      let e : 4 * i + 0 ≡ 4 * i = omega arith in
      let n : 3 * i + 0 ≡ 3 * i = omega arith in
      let x = rw e at (position 0 (omega arith)) in
      let y = position 1 (omega arith) in
      let z = position 2 (omega arith) in
      let w = position 3 (omega arith) in
      let f = rw n at (mark 0 (omega arith)) in
      let t = mark 1 (omega arith) in
      let k = mark 2 (omega arith) in
      let v = vertex_in F vertices i in
      (λ j. F.vertex (F.points.four (x j) (y j) (z j) (w j)) (f j) (t j) (k j))
      ∙ ap (λ (p : F.Point). F.vertex p (F.flags v) (F.tag v) (F.k v)) (F.points.own (F.position v))
      ∙ F.whole v

pub over_rows : {F : Form} (held : List F.Coordinate) (noted : List ℕ) (vertices : List F.Vertex) (positions : List F.Coordinate) (marks : List ℕ) (n : ℕ)
    → length vertices ≡ n → OverIn F held noted vertices positions marks → first_of (vertex_row_in F positions marks) n ≡ vertices
over_rows {F} held noted vertices positions marks n e o =
    let d : F.Vertex = F.vertex F.origin 0 0 0 in
    let at : ℕ → F.Vertex = vertex_row_in F (over held (positions_in F vertices)) (over noted (marks_in F vertices)) in
    ap₂ (λ (p : List F.Coordinate) (m : List ℕ). first_of (vertex_row_in F p m) n) o.points o.words
    ∙ ext_get_or d (first_of at n) vertices (length_first_of at n ∙ sym e)
    (λ i l.
    let k : i < n = omega (arith, length_first_of at n) in
    get_d_first_of at d i n k ∙ row F held noted vertices i (omega arith))

-- ---- smoothing keeps the number of vertices, and their marks

settled_marks : (F : Form) (time : Bool) (v : F.Vertex) (g : GatheredIn F) → mark_words_in F (settled_in F time v g) ≡ mark_words_in F v
unfolding settled_in
settled_marks F time v g = go (eqb g.count 0)
  where
    go : (b : Bool) → mark_words_in F (cond b v (F.vertex (moved_in F time v (F.mean g.sum g.count)) (F.flags v) (F.tag v) (F.k v))) ≡ mark_words_in F v
    go true = refl
    go false =
        let m = F.parts_of (moved_in F time v (F.mean g.sum g.count)) (F.flags v) (F.tag v) (F.k v) in
        λ i. m.1 i ∷ m.2 i ∷ m.3 i ∷ []

module _ (F : Form) (kind : Kind) (time : Bool) (l : Lists) (vertices : List F.Vertex) where
  from_length : (n : ℕ) (xs : List F.Vertex) → length (settled_from_in F kind time l vertices n xs) ≡ length xs
  unfolding settled_from_in
  from_length n [] = refl
  from_length n (x ∷ xs) = ap suc (from_length (suc n) xs)

  from_marks : (n : ℕ) (xs : List F.Vertex) → marks_in F (settled_from_in F kind time l vertices n xs) ≡ marks_in F xs
  unfolding settled_from_in flat_map
  from_marks n [] = refl
  from_marks n (x ∷ xs) = ap₂ ◌++◌ (settled_marks F time x (gathered_in F kind l vertices n)) (from_marks (suc n) xs)

over_over : {A : Type 0} (held xs ys : List A) → length xs ≡ length ys → over (over held xs) ys ≡ over held ys
unfolding over
over_over held xs ys e =
    ap (λ (r : List _). ys ++ r) (drop_at xs (drop (length xs) held) (length ys) e ∙ ap (λ (n : ℕ). drop n held) e)

-- the vertices laid out, then smoothed
pub over_smoothed : {F : Form} (kind : Kind) (time : Bool) (l : Lists) (held : List F.Coordinate) (noted : List ℕ) (vertices : List F.Vertex) (out : List F.Coordinate) (notes : List ℕ) (n : ℕ)
    (positions : List F.Coordinate) → length vertices ≡ n → OverIn F held noted vertices out notes
    → positions ≡ over out (positions_in F (smoothed_in F kind time l (first_of (vertex_row_in F out notes) n)))
    → OverIn F held noted (smoothed_in F kind time l vertices) positions notes
unfolding smoothed_in
over_smoothed {F} kind time l held noted vertices out notes n positions e o p =
    let k : length (positions_in F vertices) ≡ length (positions_in F (smoothed_in F kind time l vertices))
    = length_flat (position_words_in F) 4 (λ v. refl) vertices
    ∙ ap (λ (m : ℕ). 4 * m) (sym (from_length F kind time l vertices 0 vertices))
    ∙ sym (length_flat (position_words_in F) 4 (λ v. refl) (smoothed_in F kind time l vertices)) in
    record {
      points =
          p
          ∙ ap₂ (λ (x : List F.Coordinate) (vs : List F.Vertex). over x (positions_in F (smoothed_in F kind time l vs))) o.points (over_rows held noted vertices out notes n e o)
          ∙ over_over held (positions_in F vertices) (positions_in F (smoothed_in F kind time l vertices)) k;
      words = o.words ∙ ap (over noted) (sym (from_marks F kind time l vertices 0 vertices));
    }

-- ---- smoothing over no elements

abbrev no_elements : List Curve → Lists
no_elements curves = record { lines = []; areas = []; volumes = []; curves = curves }

-- a count of 0 changes nothing
settled_none : (F : Form) (time : Bool) (v : F.Vertex) → settled_in F time v nothing ≡ v
unfolding settled_in nothing
settled_none F time v = refl

module _ (F : Form) (curves : List Curve) (vertices : List F.Vertex) where
  gathered_none : (kind : Kind) (n : ℕ) → gathered_in F kind (no_elements curves) vertices n ≡ nothing
  unfolding gathered_in gather
  gathered_none cubes n = refl
  gathered_none simplices n = refl

  from_none : (kind : Kind) (time : Bool) (n : ℕ) (xs : List F.Vertex) → settled_from_in F kind time (no_elements curves) vertices n xs ≡ xs
  unfolding settled_from_in
  from_none kind time n [] = refl
  from_none kind time n (x ∷ xs) = ap₂ ◌∷◌ (ap (settled_in F time x) (gathered_none kind n) ∙ settled_none F time x) (from_none kind time (suc n) xs)

  -- every vertex stays where it is
  smoothed_none : (kind : Kind) (time : Bool) → smoothed_in F kind time (no_elements curves) vertices ≡ vertices
  unfolding smoothed_in
  smoothed_none kind time = from_none kind time 0 vertices

-- the vertices laid out, where the new lists have no line, no area and no volume
pub over_unsmoothed : {F : Form} (kind : Kind) (time : Bool) (lines : List ℕ) (line angles : ℕ) (areas : List ℕ) (area corners : ℕ) (volumes : List ℕ) (volume : ℕ) (curves : List Curve)
    (held : List F.Coordinate) (noted : List ℕ) (vertices : List F.Vertex) (positions : List F.Coordinate) (marks : List ℕ)
    → (eqb line 0 && (eqb area 0 && eqb volume 0)) ≡ true → OverIn F held noted vertices positions marks
    → OverIn F held noted (smoothed_in F kind time (lists_of lines line angles areas area corners volumes volume curves) vertices) positions marks
unfolding first_of
over_unsmoothed {F} kind time lines line angles areas area corners volumes volume curves held noted vertices positions marks e o =
    let rest = and_true_right (eqb line 0) (eqb area 0 && eqb volume 0) e in
    let a : line ≡ 0 = eqb-true line 0 (and_true_left (eqb line 0) (eqb area 0 && eqb volume 0) e) in
    let b : area ≡ 0 = eqb-true area 0 (and_true_left (eqb area 0) (eqb volume 0) rest) in
    let c : volume ≡ 0 = eqb-true volume 0 (and_true_right (eqb area 0) (eqb volume 0) rest) in
    rw (a, b, c, smoothed_none F curves vertices kind time) o
