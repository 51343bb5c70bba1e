-- What the calls of a pass ask for: the old lists stand and the new ones have room, the new pairs are pairs of vertices, and the new lists' corners are vertices.
-- Assumes nothing.
use mathlib.Core.Path.{◌≡◌, sym, ◌∙◌, ap, ap₂, subst}
use mathlib.Core.List.{List, [], ◌∷◌, ◌++◌, flat_map, append_assoc}
use Prim.Native.Nat.{ℕ, zero, suc, ◌+◌, ◌-◌, ◌*◌, ◌/◌, ◌≤◌, ◌<◌, min}
use native.Mathlib.Nat.{mul-suc, mul_comm, add-zero, le-div_iff_mul-le, zero-lt-suc}
use native.Mathlib.Omega.{arith}
use lib.Dec.{eqb}
use lib.ListN.{length, get_or, drop, length-append, get_or-append}
use lib.Seq.{get_or-append-add}
use Rattle.geom.specs.declared.answer.Sizes.{Sizes}
use Rattle.geom.specs.Book.{Kind, cubes, simplices, pair, Book}
use Rattle.geom.specs.Elements.{Element}
use Rattle.geom.specs.Form.{Form}
use Rattle.geom.specs.Memory.{BenchIn, area_corners, volume_corners, cells, first_of, curve_row, rows_of, mesh_of, parity_word, element_words, over}
use Rattle.geom.specs.Refusals.{curve_lengths, counts_hold}
use Rattle.geom.specs.Refinement.{LIMIT, within, went}
use Rattle.geom.specs.Between.{All, Proper, Low, Good}
use Rattle.geom.proofs.Lists.{same_number, and_true_left, and_true_right}
use Rattle.geom.proofs.Well.{pass_good}
use Rattle.geom.proofs.Forming.{face_corners, volume_corners_lem}
use Rattle.book.specs.Cells as Book
use Rattle.book.specs.Cells.{pairs_of, pair_at}
use Rattle.geom.proofs.Within.{Within, within_facts}
use Rattle.vertices.specs.Cells as Vertices
use Rattle.lists.specs.Lists.{Slices, Given, Made}
use Rattle.pass.specs.Benches.{state_of, Held, Lends}
use Rattle.geom.proofs.Rows.{length_first_of, get_d_first_of}
use Rattle.pass.proofs.Next.{slices_of, w, added, longer}

all_get_d : {A : Type 0} (P : A → Type 0) (xs : List A) (i : ℕ) (d : A) → All P xs → i < length xs → P (get_or xs i d)
all_get_d P [] i d a l = absurd (omega arith)
all_get_d P (x ∷ xs) zero d a l = a.0
all_get_d P (x ∷ xs) (suc i) d a l = all_get_d P xs i d a.1 (omega arith)

-- ---- corners of the new lists

-- the words of one element
abbrev part : Element → List ℕ
part e = e.corners ++ parity_word e.parity ∷ []

length_part : (n k : ℕ) (e : Element) → Proper n k e → length (part e) ≡ suc k
length_part n k e p = length-append e.corners (parity_word e.parity ∷ []) ∙ omega (arith, p.long)

length_words : (n k : ℕ) (es : List Element) → All (Proper n k) es → length (element_words es) ≡ suc k * length es
unfolding element_words flat_map
length_words n k [] a = omega arith
length_words n k (e ∷ es) a =
    length-append (part e) (element_words es) ∙ omega (arith, length_part n k e a.0, length_words n k es a.1, mul-suc (suc k) (length es))

-- a corner of an element that was written
corner_below :
    (n k : ℕ) (es : List Element) (rest : List ℕ) → All (Proper n k) es → (i : ℕ) → i < length es → (j : ℕ) → j < k
    → get_or (element_words es ++ rest) (suc k * i + j) 0 < n
unfolding element_words flat_map
corner_below n k [] rest a i l j m = absurd (omega arith)
corner_below n k (e ∷ es) rest a zero l j m =
    let z : suc k * 0 + j ≡ j = omega arith in
    let p = length_part n k e a.0 in
    let q : get_or ((part e ++ element_words es) ++ rest) (suc k * 0 + j) 0 ≡ get_or e.corners j 0 =
    ap₂ (λ (x : List ℕ) (y : ℕ). get_or x y 0) (append_assoc (part e) (element_words es) rest) z
    ∙ get_or-append (part e) (element_words es ++ rest) 0 j (omega arith)
    ∙ get_or-append e.corners (parity_word e.parity ∷ []) 0 j (omega (arith, a.0.long))
    in
    subst (λ (x : ℕ). x < n) (sym q) (all_get_d (λ (x : ℕ). x < n) e.corners j 0 a.0.below (omega (arith, a.0.long)))
corner_below n k (e ∷ es) rest a (suc i) l j m =
    let z : suc k * suc i + j ≡ length (part e) + (suc k * i + j) = omega (arith, mul-suc (suc k) i, length_part n k e a.0) in
    let q : get_or ((part e ++ element_words es) ++ rest) (suc k * suc i + j) 0 ≡ get_or (element_words es ++ rest) (suc k * i + j) 0 =
    ap₂ (λ (x : List ℕ) (y : ℕ). get_or x y 0) (append_assoc (part e) (element_words es) rest) z
    ∙ get_or-append-add (part e) (element_words es ++ rest) (suc k * i + j) 0
    in
    subst (λ (x : ℕ). x < n) (sym q) (corner_below n k es rest a.1 i (omega arith) j m)

elements_stand :
    {n t : ℕ} (k : ℕ) (es : List Element) (new : List ℕ) {after : List ℕ} → All (Proper n k) es → t ≡ length es → after ≡ over new (element_words es)
    → Vertices.Elements after k t n
unfolding over
elements_stand {n} {t} k es new {after} a e q =
    let rest = drop (length (element_words es)) new in
    record {
      room = omega (arith, ap length q, length-append (element_words es) rest, length_words n k es a, ap (λ (x : ℕ). suc k * x) e);
      below = λ i l j m. subst (λ (x : List ℕ). get_or x (suc k * i + j) 0 < n) (sym q) (corner_below n k es rest a i (omega arith) j m);
    }

-- rows that fit the cells fit the words
rows_fit : (k n l : ℕ) → n ≤ l / suc k → suc k * n ≤ l
rows_fit k n l h =
    let g : n * suc k ≤ l = (le-div_iff_mul-le (zero-lt-suc k)).0 h in
    omega (arith, mul_comm (suc k) n)

capped_within : (n : ℕ) {c m : ℕ} → c ≡ min n LIMIT → n ≡ m → c ≤ m
capped_within n e q = omega arith

-- no vertex gathers more than binary32 counts without a gap
gathers_light : (kind : Kind) (l a v : ℕ) → l ≤ LIMIT → a ≤ LIMIT → v ≤ LIMIT → volume_corners kind * v + area_corners kind * a + 2 * l ≤ Vertices.MOST
gathers_light cubes l a v x y z = omega arith
gathers_light simplices l a v x y z = omega arith

-- ---- what holds between passes, as facts

pub held_within : {F : Form} {kind : Kind} {base : ℕ} {s : Sizes} {a : BenchIn F} {book : List ℕ} {made : ℕ} → Held kind base s a book made → Within s (cells kind a)
unfolding counts_hold
held_within {kind = kind} {s = s} {a = a} h =
    within_facts s (cells kind a) (and_true_left (within s (cells kind a)) (eqb (curve_lengths (rows_of kind s a).curves) s.curve_vertices) h.counts)

pub held_sum : {F : Form} {kind : Kind} {base : ℕ} {s : Sizes} {a : BenchIn F} {book : List ℕ} {made : ℕ} → Held kind base s a book made
    → curve_lengths (first_of (curve_row a.curves) s.curves) ≡ s.curve_vertices
unfolding counts_hold rows_of
held_sum {kind = kind} {s = s} {a = a} h =
    same_number _ _ (and_true_right (within s (cells kind a)) (eqb (curve_lengths (rows_of kind s a).curves) s.curve_vertices) h.counts)

module _ {F : Form} {kind : Kind} {base room : ℕ} {s c : Sizes} {a b : BenchIn F} {book : List ℕ} {made : ℕ} {sums : List F.Cell} {tallies : List ℕ} (h : Held kind base s a book made) (l : Lends kind base room c a b book sums tallies) where
  -- ---- the lists

  pub points_stand : s.points ≤ length a.points
  unfolding cells
  points_stand = (held_within h).points

  pub points_room : s.points ≤ length b.points
  unfolding cells
  points_room = omega (arith, (held_within h).points, ap (λ (z : Sizes). z.points) l.twin)

  -- the bounds leave room for what stands
  pub bounded : (base + room ≤ (cells kind a).vertices) × (base + room ≤ LIMIT) × (made ≤ room) × (room ≤ Book.cells book)
  bounded =
      let v = (held_within h).vertices in
      let m = (within_facts _ _ h.limits).vertices in
      let r = l.rooms in
      let k = h.linked.room in
      let n = h.count in
      (omega arith, omega arith, omega arith, omega arith)

  pub given : Given kind base room made s c (slices_of a) (slices_of b) book
  unfolding cells
  given =
      let f = held_within h in
      let q = l.caps in
      let t = l.twin in
      let g = bounded in
      record {
        ready = record { linked = h.linked; within = g.2; lent = g.3; numbers = omega (arith, g.1) };
        reads =
            record {
              lines = omega (arith, f.lines);
              areas = rows_fit (area_corners kind) _ _ f.areas;
              volumes = rows_fit (volume_corners kind) _ _ f.volumes;
              curves = omega (arith, f.curves);
              steps = omega (arith, f.curve_vertices);
            };
        writes =
            record {
              lines = omega (arith, ap (λ (z : Sizes). z.lines) q, ap (λ (z : Sizes). z.lines) t);
              areas = rows_fit (area_corners kind) _ _ (capped_within (cells kind a).areas (ap (λ (z : Sizes). z.areas) q) (ap (λ (z : Sizes). z.areas) t));
              volumes = rows_fit (volume_corners kind) _ _ (capped_within (cells kind a).volumes (ap (λ (z : Sizes). z.volumes) q) (ap (λ (z : Sizes). z.volumes) t));
              curves = omega (arith, ap (λ (z : Sizes). z.curves) q, ap (λ (z : Sizes). z.curves) t);
              steps = omega (arith, ap (λ (z : Sizes). z.curve_vertices) q, ap (λ (z : Sizes). z.curve_vertices) t);
            };
        sum = held_sum h;
        curves = omega (arith, f.curves, (within_facts _ _ h.limits).curves, ap (λ (z : Sizes). z.curves) q);
        small = omega (arith, ap (λ (z : Sizes). z.curve_vertices) q);
      }

  -- ---- the vertices

  module _ {new after : Slices} {book₂ : List ℕ} {t : Sizes} {e : ℕ} (m : Made base room s c (w kind base s a book made) new after book₂ t e) where
    pub entries_are : length (w kind base s a book made).book ≡ e
    unfolding pairs_of
    entries_are = sym (ap length m.entries) ∙ length_first_of (pair_at book₂) e

    pub entries_grow : made ≤ e
    entries_grow = omega (arith, entries_are, longer kind base s a book made h)

    new_low : (i : ℕ) → i < e - made → Low s.vertices (pair_at book₂ (made + i))
    unfolding pairs_of
    new_low i k =
        let g = added kind base s a book made h in
        let d = pair 0 0 in
        let n = length_first_of (pair_at book) made in
        let r = entries_are in
        let q : get_or g.more i d ≡ pair_at book₂ (made + i) =
        sym (get_or-append-add (pairs_of book made) g.more i d)
        ∙ ap₂ (λ (x : Book) (y : ℕ). get_or x y d) (sym (m.entries ∙ g.is)) (ap (λ (y : ℕ). y + i) n)
        ∙ get_d_first_of (pair_at book₂) d (made + i) e (omega arith)
        in
        subst (Low s.vertices) q
        (all_get_d (Low s.vertices) g.more i d g.low (omega (arith, r, ap length g.is, length-append (pairs_of book made) g.more, n)))

    new_pairs : Vertices.Pairs book₂ made (e - made) s.vertices
    unfolding Vertices.pair_row
    new_pairs =
        record {
          ends = λ i k.
              let f = new_low i k in
              let r = m.ready in
              let z = add-zero (4 * (made + i)) in
              record {
                room = omega (arith, r.within, r.lent);
                first = subst (λ (x : ℕ). get_or book₂ x 0 < s.vertices) z f.start;
                second = f.stop;
              };
        }

    all_vertices : s.vertices + (e - made) ≡ base + e
    all_vertices = omega (arith, h.count, entries_grow)

    pub vertices_ready : Vertices.Ready a.positions a.marks book₂ s.vertices made (e - made) b.positions b.marks sums tallies
    unfolding cells
    vertices_ready =
        let v : s.vertices ≤ min (length a.positions / 4) (length a.marks / 3) = (held_within h).vertices in
        let g : base + room ≤ min (length a.positions / 4) (length a.marks / 3) = bounded.0 in
        let r = m.ready.within in
        let n = all_vertices in
        let t : min (length a.positions / 4) (length a.marks / 3) ≡ min (length b.positions / 4) (length b.marks / 3) = ap (λ (z : Sizes). z.vertices) l.twin in
        record {
          old = record { points = omega (arith, v); words = omega (arith, v) };
          pairs = new_pairs;
          other = record { points = omega (arith, g, r, n, t); words = omega (arith, g, r, n, t) };
          lent = record { sum = omega (arith, g, r, n, l.sum); tally = omega (arith, g, r, n, l.tally) };
        }

    pub next_good : Good kind base (w kind base s a book made)
    unfolding mesh_of rows_of
    next_good = pass_good kind base (went (state_of kind s a book made)) h.good

    pub vertices_gather : Vertices.Gathers after.lines t.lines after.areas t.areas (area_corners kind) after.volumes t.volumes (volume_corners kind) (s.vertices + (e - made))
    vertices_gather =
        let n : base + length (w kind base s a book made).book ≡ s.vertices + (e - made) = ap (λ (x : ℕ). base + x) entries_are ∙ sym all_vertices in
        let v = base + length (w kind base s a book made).book in
        let lists = (w kind base s a book made).lists in
        let g = next_good.well in
        let k = m.counts in
        let o = m.wrote in
        let q = l.caps in
        subst (λ (x : ℕ). Vertices.Gathers after.lines t.lines after.areas t.areas (area_corners kind) after.volumes t.volumes (volume_corners kind) x) n
        (record {
          ends = elements_stand 2 _ new.lines g.lines k.lines o.lines;
          faces = elements_stand (area_corners kind) _ new.areas (subst (λ (k : ℕ). All (Proper v k) lists.areas) (face_corners kind) g.areas) k.areas o.areas;
          bodies = elements_stand (volume_corners kind) _ new.volumes (subst (λ (k : ℕ). All (Proper v k) lists.volumes) (volume_corners_lem kind) g.volumes) k.volumes o.volumes;
          light =
              gathers_light kind _ _ _
              (omega (arith, k.line, ap (λ (z : Sizes). z.lines) q))
              (omega (arith, k.area, ap (λ (z : Sizes). z.areas) q))
              (omega (arith, k.volume, ap (λ (z : Sizes). z.volumes) q));
        })
