-- A mesh that is written over any bench stands there: what is read back is the mesh, its counts add up and its marks are in order.
-- Assumes nothing.
use mathlib.Core.Path.{◌≡◌, refl, ◌∙◌, ap, ap₂}
use mathlib.Core.Bool.{Bool, true, ◌&&◌}
use mathlib.Core.List.{List, [], ◌∷◌, ◌++◌, map, flat_map}
use Prim.Native.Nat.{ℕ}
use lib.Dec.{eqb}
use lib.ListN.{length, get_or, take, drop}
use lib.Seq.{take_at, drop_at}
use Rattle.geom.specs.declared.parity.Parity.{Parity}
use Rattle.geom.specs.declared.parity.Parity.TheVariants.{Even, Odd}
use Rattle.geom.specs.Form.{Form}
use Rattle.geom.specs.Book.{Kind}
use Rattle.geom.specs.Elements.{Element, Curve}
use Rattle.geom.specs.Mesh.{MeshIn, curve_vertices_of, sizes_of}
use Rattle.geom.specs.Memory.{BenchIn, RowsIn, StepRow, ElementRow, area_corners, volume_corners, cells, first_of, vertex_row_in, element_row, curve_row, step_row, rows_of, step_words, curve_parts, parity_word, mesh_of, element_words, curve_words, vertex_words, bench_of, over}
use Rattle.geom.specs.Refinement.{within}
use Rattle.geom.specs.Refusals.{every, good_flags, good_parity, curve_lengths, counts_hold, marks_hold, StandsFor}
use Rattle.geom.specs.Between.{All}
use Rattle.geom.proofs.Lists.{eqb_same}
use Rattle.geom.proofs.Back.{element_row_of, element_rows_back, elements_own, points_back, vertices_back, curve_row_of, curve_rows_back, step_rows, own_steps, length_step_rows, steps_back, Stepped, curves_own, lengths_own}

-- ---- words over a bench

-- some words begin with others
pub record Begins {A : Type 0} (words front : List A) : Type 0 where
  pub rest : List A
  pub is : words ≡ front ++ rest

pub over_begins : {A : Type 0} (old out : List A) {words : List A} → words ≡ over old out → Begins words out
unfolding over
over_begins old out e = record { rest = drop (length out) old; is = e }

pub begins_take : {A : Type 0} {words front : List A} → Begins words front → take (length front) words ≡ front
begins_take {front = front} b = ap (take (length front)) b.is ∙ take_at front b.rest (length front) refl

-- the slices of a bench begin with the words of a mesh
pub record Laid {F : Form} (m : MeshIn F) (b : BenchIn F) : Type 0 where
  pub positions : Begins b.positions (bench_of m).positions
  pub marks : Begins b.marks (bench_of m).marks
  pub points : Begins b.points (bench_of m).points
  pub lines : Begins b.lines (bench_of m).lines
  pub areas : Begins b.areas (bench_of m).areas
  pub volumes : Begins b.volumes (bench_of m).volumes
  pub curves : Begins b.curves (bench_of m).curves
  pub curve_vertices : Begins b.curve_vertices (bench_of m).curve_vertices

abbrev pub Cornered : ℕ → Element → Type 0
Cornered k e = length e.corners ≡ k

abbrev pub FlaggedIn : (F : Form) → F.Vertex → Type 0
FlaggedIn F v = good_flags (F.flags v) ≡ true

-- flags of four bits, elements with their kind's number of corners, curves with one parity fewer than vertices
pub record Formed {F : Form} (kind : Kind) (m : MeshIn F) : Type 0 where
  pub flags : All (FlaggedIn F) m.vertices
  pub lines : All (Cornered 2) m.lists.lines
  pub areas : All (Cornered (area_corners kind)) m.lists.areas
  pub volumes : All (Cornered (volume_corners kind)) m.lists.volumes
  pub curves : All Stepped m.lists.curves

-- ---- what is read back

-- the rows of a mesh
abbrev rows_for : {F : Form} → MeshIn F → RowsIn F
rows_for m =
    record {
      vertices = m.vertices;
      points = m.points;
      lines = map element_row_of m.lists.lines;
      areas = map element_row_of m.lists.areas;
      volumes = map element_row_of m.lists.volumes;
      curves = map curve_row_of m.lists.curves;
      curve_vertices = flat_map own_steps m.lists.curves;
    }

pub elements_read : (k : ℕ) (es : List Element) {words : List ℕ} → Begins words (element_words es) → All (Cornered k) es
    → first_of (element_row k words) (length es) ≡ map element_row_of es
elements_read k es l a = ap (λ (w : List ℕ). first_of (element_row k w) (length es)) l.is ∙ element_rows_back k es l.rest a

pub curves_read : (cs : List Curve) {words : List ℕ} → Begins words (curve_words cs) → first_of (curve_row words) (length cs) ≡ map curve_row_of cs
curves_read cs l = ap (λ (w : List ℕ). first_of (curve_row w) (length cs)) l.is ∙ curve_rows_back cs l.rest

pub steps_read : (cs : List Curve) {words : List ℕ} → Begins words (vertex_words cs) → first_of (step_row words) (curve_vertices_of cs) ≡ flat_map own_steps cs
steps_read cs l = ap (λ (w : List ℕ). first_of (step_row w) (curve_vertices_of cs)) l.is ∙ steps_back cs l.rest

rows_laid : {F : Form} (kind : Kind) (m : MeshIn F) (b : BenchIn F) → Laid m b → Formed kind m → rows_of kind (sizes_of m) b ≡ rows_for m
unfolding rows_of sizes_of bench_of
rows_laid {F} kind m b l f =
    let p = l.positions in
    let q = l.marks in
    λ i.
    record {
      vertices = (ap₂ (λ (x : List _) (y : List ℕ). first_of (vertex_row_in F x y) (length m.vertices)) p.is q.is ∙ vertices_back F m.vertices p.rest q.rest) i;
      points = (ap (λ (w : List ℕ). first_of (λ (j : ℕ). get_or w j 0) (length m.points)) l.points.is ∙ points_back m.points l.points.rest) i;
      lines = elements_read 2 m.lists.lines l.lines f.lines i;
      areas = elements_read (area_corners kind) m.lists.areas l.areas f.areas i;
      volumes = elements_read (volume_corners kind) m.lists.volumes l.volumes f.volumes i;
      curves = curves_read m.lists.curves l.curves i;
      curve_vertices = steps_read m.lists.curves l.curve_vertices i;
    }

mesh_own : {F : Form} (kind : Kind) (m : MeshIn F) → Formed kind m → mesh_of (rows_for m) ≡ m
unfolding mesh_of
mesh_own kind m f =
    λ i.
    record {
      vertices = m.vertices;
      points = m.points;
      lists =
          record {
            lines = elements_own m.lists.lines i;
            areas = elements_own m.lists.areas i;
            volumes = elements_own m.lists.volumes i;
            curves = curves_own m.lists.curves f.curves i;
          };
    }

-- ---- marks in order

both_true : (x y : Bool) → x ≡ true → y ≡ true → (x && y) ≡ true
both_true x y p q = rw (p, q) refl

pub every_true : {A : Type 0} (test : A → Bool) (xs : List A) → All (λ (x : A). test x ≡ true) xs → every test xs ≡ true
unfolding every
every_true test [] a = refl
every_true test (x ∷ xs) a = both_true (test x) (every test xs) a.0 (every_true test xs a.1)

parity_good : (p : Parity) → good_parity (parity_word p) ≡ true
unfolding good_parity
parity_good Even = refl
parity_good Odd = refl

elements_good : (es : List Element) → every (λ (e : ElementRow). good_parity e.parity) (map element_row_of es) ≡ true
unfolding every
elements_good [] = refl
elements_good (e ∷ es) = both_true (good_parity (parity_word e.parity)) (every (λ (e : ElementRow). good_parity e.parity) (map element_row_of es)) (parity_good e.parity) (elements_good es)

steps_good : (vs : List ℕ) (ps : List Parity) → every good_parity (step_words (step_rows vs ps)) ≡ true
unfolding every step_words good_parity
steps_good [] ps = refl
steps_good (v ∷ []) [] = refl
steps_good (v ∷ []) (p ∷ ps) = refl
steps_good (v ∷ w ∷ vs) [] = steps_good (w ∷ vs) []
steps_good (v ∷ w ∷ vs) (p ∷ []) = both_true (good_parity (parity_word p)) (every good_parity (step_words (step_rows (w ∷ vs) []))) (parity_good p) (steps_good (w ∷ vs) [])
steps_good (v ∷ w ∷ vs) (p ∷ q ∷ ps) = both_true (good_parity (parity_word p)) (every good_parity (step_words (step_rows (w ∷ vs) (q ∷ ps)))) (parity_good p) (steps_good (w ∷ vs) (q ∷ ps))

curves_good : (cs : List Curve) → every (λ (part : List StepRow). every good_parity (step_words part)) (curve_parts (map curve_row_of cs) (flat_map own_steps cs)) ≡ true
unfolding every curve_parts flat_map
curves_good [] = refl
curves_good (c ∷ cs) =
    let test : List StepRow → Bool = λ (part : List StepRow). every good_parity (step_words part) in
    let more = flat_map own_steps cs in
    let n = length_step_rows c.vertices c.parities in
    let t = take_at (own_steps c) more (length c.vertices) n in
    let d = drop_at (own_steps c) more (length c.vertices) n in
    both_true (test (take (length c.vertices) (own_steps c ++ more))) (every test (curve_parts (map curve_row_of cs) (drop (length c.vertices) (own_steps c ++ more))))
    (ap test t ∙ steps_good c.vertices c.parities)
    (ap (λ (r : List StepRow). every test (curve_parts (map curve_row_of cs) r)) d ∙ curves_good cs)

marks_own : {F : Form} (kind : Kind) (m : MeshIn F) → Formed kind m → marks_hold (rows_for m) ≡ true
unfolding marks_hold
marks_own {F} kind m f =
    rw (
      every_true (λ (v : F.Vertex). good_flags (F.flags v)) m.vertices f.flags,
      elements_good m.lists.lines,
      elements_good m.lists.areas,
      elements_good m.lists.volumes,
      curves_good m.lists.curves,
    )
    refl

-- a mesh written over a bench that has its cells stands there
pub stands : {F : Form} (kind : Kind) (m : MeshIn F) (b : BenchIn F) → Laid m b → Formed kind m → within (sizes_of m) (cells kind b) ≡ true → StandsFor kind b m
unfolding StandsFor counts_hold sizes_of
stands {F} kind m b l f w =
    let r = rows_laid kind m b l f in
    let c : curve_lengths (rows_of kind (sizes_of m) b).curves ≡ (sizes_of m).curve_vertices = ap (λ (x : RowsIn F). curve_lengths x.curves) r ∙ counted in (
      both_true (within (sizes_of m) (cells kind b)) (eqb (curve_lengths (rows_of kind (sizes_of m) b).curves) (sizes_of m).curve_vertices) w
          (ap (λ (n : ℕ). eqb n (sizes_of m).curve_vertices) c ∙ eqb_same (sizes_of m).curve_vertices),
      ap marks_hold r ∙ marks_own kind m f,
      ap mesh_of r ∙ mesh_own kind m f,
    )
  where
    counted : curve_lengths (map curve_row_of m.lists.curves) ≡ (sizes_of m).curve_vertices
    counted = lengths_own m.lists.curves
