-- The parts of the lists that the caller is handed have the same rows, and so the same listing. Assumes nothing.
use mathlib.Core.Path.{◌≡◌, refl, sym, ◌∙◌, ap}
use mathlib.Core.Bool.{Bool, true, false, cond}
use mathlib.Core.List.{List, []}
use Prim.Native.Nat.{ℕ, suc, ◌+◌, ◌*◌, ◌%◌, ◌≤◌, ◌<◌}
use native.Mathlib.Omega.{arith}
use native.Mathlib.Nat.{mul-suc, mul-le-mul_left}
use native.Mathlib.Numerals.{add-one}
use lib.Dec.{eqb}
use lib.Ieee.{Float}
use lib.ListN.{length, get_or, take, drop}
use lib.Seq.{get_or-take, length-take-le}
use Rattle.numbers.specs.Binary32 as Binary32
use Rattle.geom.specs.declared.answer.Sizes.{Sizes}
use Rattle.geom.specs.Book.{Kind}
use Rattle.geom.specs.Memory.{Bench, Rows, area_corners, volume_corners, first_of, vertex_row, four_row, vertex_row_in, element_row, curve_row, step_row, rows_of, mesh_of}
use Rattle.geom.specs.Listing as Listing
use Rattle.geom.specs.Refusals.{curve_lengths, side}
use Rattle.geom.proofs.Rows.{first_of_same}
use Rattle.division.proofs.Rows.{first_of_part}
use Rattle.judge.specs.Words.{Elements}
use Rattle.listing.specs.Printed.{listed, with_marks, Stated}

-- ---- rows of a part

vertices_part :
    (positions : List Float) (marks : List ℕ) (n : ℕ)
    → first_of (vertex_row (take (4 * n) positions) marks) n ≡ first_of (vertex_row positions marks) n
unfolding vertex_row_in four_row
vertices_part positions marks n =
    first_of_same (vertex_row (take (4 * n) positions) marks) (vertex_row positions marks) n
    (λ i l.
    let at : (j : ℕ) → j < 4 * n → get_or (take (4 * n) positions) j Binary32.zero ≡ get_or positions j Binary32.zero = λ j k. get_or-take (4 * n) positions j Binary32.zero k in
    let x = at (4 * i) (omega arith) in
    let y = at (4 * i + 1) (omega arith) in
    let z = at (4 * i + 2) (omega arith) in
    let w = at (4 * i + 3) (omega arith) in
    λ j.
    record {
      position = record { x = x j; y = y j; z = z j; w = w j };
      flags = get_or marks (3 * i) 0;
      tag = get_or marks (3 * i + 1) 0;
      k = get_or marks (3 * i + 2) 0;
    })

points_part : (points : List ℕ) (n : ℕ) → first_of (λ (i : ℕ). get_or (take n points) i 0) n ≡ first_of (λ (i : ℕ). get_or points i 0) n
points_part points n = first_of_same _ _ n (λ i l. get_or-take n points i 0 l)

-- a part of a part
part_part : (words : List ℕ) (m from c : ℕ) → from + c ≤ m → m ≤ length words → take c (drop from (take m words)) ≡ take c (drop from words)
part_part words m from c l h =
    sym (first_of_part 0 (take m words) from c (omega (arith, length-take-le m words h)))
    ∙ first_of_same _ _ c (λ j k. get_or-take m words (from + j) 0 (omega arith))
    ∙ first_of_part 0 words from c (omega arith)

elements_part :
    (c n : ℕ) (words : List ℕ) → suc c * n ≤ length words
    → first_of (element_row c (take (suc c * n) words)) n ≡ first_of (element_row c words) n
unfolding element_row
elements_part c n words h =
    first_of_same (element_row c (take (suc c * n) words)) (element_row c words) n
    (λ i l.
    let end : suc c * i + suc c ≤ suc c * n = omega (arith, mul-le-mul_left (suc c) l, mul-suc (suc c) i) in
    let vs = part_part words (suc c * n) (suc c * i) c (omega arith) h in
    let p = get_or-take (suc c * n) words (suc c * i + c) 0 (omega arith) in
    λ j. record { corners = vs j; parity = p j })

curves_part : (curves : List ℕ) (n : ℕ) → first_of (curve_row (take (2 * n) curves)) n ≡ first_of (curve_row curves) n
unfolding curve_row
curves_part curves n =
    first_of_same (curve_row (take (2 * n) curves)) (curve_row curves) n
    (λ i l.
    let t = get_or-take (2 * n) curves (2 * i) 0 (omega arith) in
    let c = get_or-take (2 * n) curves (2 * i + 1) 0 (omega arith) in
    λ j. record { tag = t j; count = c j })

steps_part : (steps : List ℕ) (n : ℕ) → first_of (step_row (take (2 * n) steps)) n ≡ first_of (step_row steps) n
unfolding step_row
steps_part steps n =
    first_of_same (step_row (take (2 * n) steps)) (step_row steps) n
    (λ i l.
    let v = get_or-take (2 * n) steps (2 * i) 0 (omega arith) in
    let p = get_or-take (2 * n) steps (2 * i + 1) 0 (omega arith) in
    λ j. record { vertex = v j; step = p j })

-- ---- their widths

-- 1,024 rows of at most 9 words are few
pub few_words : (w n : ℕ) → w ≤ 8 → n ≤ 1024 → (w + 1) * n ≤ 9216
few_words w n l h = omega (arith, mul-le-mul_left (w + 1) h)

-- a row is a word for each corner and one for the parity
wide_part : (words : List ℕ) {part : List ℕ} (w c n : ℕ) → w ≡ c → part ≡ take ((w + 1) * n) words → part ≡ take (suc c * n) words
wide_part words w c n e p = p ∙ ap (λ (k : ℕ). take (k * n) words) (add-one w ∙ ap suc e)

-- ---- the handed parts

-- of each list that is printed the part that has the rows
pub record Picked (kind : Kind) (s : Sizes) (b part : Bench) : Type 0 where
  pub positions : part.positions ≡ take (4 * s.vertices) b.positions
  pub points : part.points ≡ take s.points b.points
  pub lines : part.lines ≡ take (3 * s.lines) b.lines
  pub areas : part.areas ≡ take (suc (area_corners kind) * s.areas) b.areas
  pub volumes : part.volumes ≡ take (suc (volume_corners kind) * s.volumes) b.volumes
  pub curves : part.curves ≡ take (2 * s.curves) b.curves
  pub steps : part.curve_vertices ≡ take (2 * s.curve_vertices) b.curve_vertices

elements_handed : {words part : List ℕ} (c n : ℕ) → Elements words c n → part ≡ take (suc c * n) words → Elements part c n
elements_handed {words} c n e p =
    record { few = e.few; room = omega (arith, ap length p, length-take-le (suc c * n) words e.room) }

-- lists whose rows stand, and the parts of them that are handed on
module _ {passes : ℕ} {kind : Kind} {s : Sizes} {b part : Bench} {out : List ℕ} (g : Stated passes kind s b out) (p : Picked kind s b part) where
  rows_handed : (marks : List ℕ) → rows_of kind s (with_marks marks part) ≡ rows_of kind s (with_marks marks b)
  unfolding rows_of
  rows_handed marks =
      let e1 = ap (λ (w : List Float). first_of (vertex_row w marks) s.vertices) p.positions ∙ vertices_part b.positions marks s.vertices in
      let e2 = ap (λ (w : List ℕ). first_of (λ (i : ℕ). get_or w i 0) s.points) p.points ∙ points_part b.points s.points in
      let e3 = ap (λ (w : List ℕ). first_of (element_row 2 w) s.lines) p.lines ∙ elements_part 2 s.lines b.lines g.elements.line.room in
      let e4 =
      ap (λ (w : List ℕ). first_of (element_row (area_corners kind) w) s.areas) p.areas
      ∙ elements_part (area_corners kind) s.areas b.areas g.elements.area.room
      in
      let e5 =
      ap (λ (w : List ℕ). first_of (element_row (volume_corners kind) w) s.volumes) p.volumes
      ∙ elements_part (volume_corners kind) s.volumes b.volumes g.elements.volume.room
      in
      let e6 = ap (λ (w : List ℕ). first_of (curve_row w) s.curves) p.curves ∙ curves_part b.curves s.curves in
      let e7 = ap (λ (w : List ℕ). first_of (step_row w) s.curve_vertices) p.steps ∙ steps_part b.curve_vertices s.curve_vertices in
      λ j. record { vertices = e1 j; points = e2 j; lines = e3 j; areas = e4 j; volumes = e5 j; curves = e6 j; curve_vertices = e7 j }

  pub listed_handed : (marks : List ℕ) → listed passes kind s (with_marks marks part) ≡ listed passes kind s (with_marks marks b)
  listed_handed marks = ap (λ (r : Rows). Listing.listing passes (mesh_of r)) (rows_handed marks)

  pub stated_handed : Stated passes kind s part out
  stated_handed =
      record {
        vertices = omega (arith, ap length p.positions, length-take-le (4 * s.vertices) b.positions g.vertices);
        point = omega (arith, ap length p.points, length-take-le s.points b.points g.point);
        elements =
            record {
              line = elements_handed 2 s.lines g.elements.line p.lines;
              area = elements_handed (area_corners kind) s.areas g.elements.area p.areas;
              volume = elements_handed (volume_corners kind) s.volumes g.elements.volume p.volumes;
            };
        parts =
            record {
              room = omega (arith, ap length p.curves, length-take-le (2 * s.curves) b.curves g.parts.room);
              vertices = omega (arith, ap length p.steps, length-take-le (2 * s.curve_vertices) b.curve_vertices g.parts.vertices);
              sum = ap (λ (w : List ℕ). curve_lengths (first_of (curve_row w) s.curves)) p.curves ∙ ap curve_lengths (curves_part b.curves s.curves) ∙ g.parts.sum;
            };
        room = omega (arith, g.room, ap length (listed_handed []));
      }

-- ---- as they are left on one of two benches

-- the side of two lists is the list of the side
side_list : {A : Type 0} (list : Bench → List A) (n : ℕ) (x y : Bench) → side n (list x) (list y) ≡ list (side n x y)
unfolding side
side_list {A} list n x y = go (eqb (n % 2) 0)
  where
    go : (t : Bool) → cond t (list x) (list y) ≡ list (cond t x y)
    go true = refl
    go false = refl

module _
    (passes : ℕ) (kind : Kind) (s : Sizes) (x y part : Bench) {area volume : ℕ} (e : area ≡ area_corners kind) (f : volume ≡ volume_corners kind)
    (p : part.positions ≡ take (4 * s.vertices) (side passes x.positions y.positions)) (q : part.points ≡ take s.points (side passes x.points y.points))
    (l : part.lines ≡ take (3 * s.lines) (side passes x.lines y.lines)) (a : part.areas ≡ take ((area + 1) * s.areas) (side passes x.areas y.areas))
    (v : part.volumes ≡ take ((volume + 1) * s.volumes) (side passes x.volumes y.volumes)) (c : part.curves ≡ take (2 * s.curves) (side passes x.curves y.curves))
    (t : part.curve_vertices ≡ take (2 * s.curve_vertices) (side passes x.curve_vertices y.curve_vertices)) where
  pub picked : Picked kind s (side passes x y) part
  picked =
      record {
        positions = p ∙ ap (take (4 * s.vertices)) (side_list (λ (b : Bench). b.positions) passes x y);
        points = q ∙ ap (take s.points) (side_list (λ (b : Bench). b.points) passes x y);
        lines = l ∙ ap (take (3 * s.lines)) (side_list (λ (b : Bench). b.lines) passes x y);
        areas = wide_part _ _ _ _ e a ∙ ap (take (suc (area_corners kind) * s.areas)) (side_list (λ (b : Bench). b.areas) passes x y);
        volumes = wide_part _ _ _ _ f v ∙ ap (take (suc (volume_corners kind) * s.volumes)) (side_list (λ (b : Bench). b.volumes) passes x y);
        curves = c ∙ ap (take (2 * s.curves)) (side_list (λ (b : Bench). b.curves) passes x y);
        steps = t ∙ ap (take (2 * s.curve_vertices)) (side_list (λ (b : Bench). b.curve_vertices) passes x y);
      }
