-- From cells to meshes: the rows that are read off words are those that were written, whatever stands behind them.
-- Assumes nothing.
use mathlib.Core.Path.{◌≡◌, refl, sym, ◌∙◌, ap, ap₂}
use mathlib.Core.List.{List, [], ◌∷◌, ◌++◌, map, flat_map, append_assoc, map-id}
use Prim.Native.Nat.{ℕ, suc, ◌+◌, ◌*◌, ◌-◌}
use native.Mathlib.Omega.{arith}
use native.Mathlib.Nat.{mul-suc, add-zero}
use lib.ListN.{length, get_or, take, drop, length-append}
use lib.Seq.{take_at, drop_at, get_or_at, drop-drop, get_or-append-add}
use Rattle.geom.specs.declared.parity.Parity.{Parity}
use Rattle.geom.specs.declared.parity.Parity.TheVariants.{Even, Odd}
use Rattle.geom.specs.Elements.{Element, Curve}
use Rattle.geom.specs.Form.{Form}
use Rattle.geom.specs.Mesh.{curve_vertices_of}
use Rattle.geom.specs.Memory.{ElementRow, CurveRow, StepRow, first_of, four_row, vertex_row_in, position_words_in, mark_words_in, element_row, curve_row, step_row, parity_of, element_of, step_words, curves_of, parity_word, element_words, steps_words, curve_words, vertex_words}
use Rattle.geom.specs.Refusals.{curve_lengths}
use Rattle.geom.specs.Between.{All}
use Rattle.geom.proofs.Lists.{all_each}
use Rattle.geom.proofs.Rows.{first_of_same, first_of_cons, flat_map_append}

-- ---- rows of any width, from the front

-- entries put before some words, the first outermost
abbrev pushed : {A W : Type 0} → (A → W → W) → List A → W → W
pushed push [] w = w
pushed push (x ∷ xs) w = push x (pushed push xs w)

module _ {A W R : Type 0} (row : W → ℕ → R) (push : A → W → W) (of : A → R) (P : A → Type 0) (first : (x : A) (w : W) → P x → row (push x w) 0 ≡ of x) (next : (x : A) (w : W) (i : ℕ) → P x → row (push x w) (suc i) ≡ row w i) where
  rows_back : (xs : List A) (w : W) → All P xs → first_of (row (pushed push xs w)) (length xs) ≡ map of xs
  unfolding first_of
  rows_back [] w a = refl
  rows_back (x ∷ xs) w a =
      let l = pushed push xs w in
      first_of_cons (row (push x l)) (length xs)
      ∙ ap₂ (λ (r : R) (rs : List R). r ∷ rs) (first x l a.0)
      (first_of_same (λ (i : ℕ). row (push x l) (suc i)) (row l) (length xs) (λ i k. next x l i a.0) ∙ rows_back xs w a.1)

pushed_flat : {A B : Type 0} (f : A → List B) (xs : List A) (w : List B) → pushed (λ (x : A) (w : List B). f x ++ w) xs w ≡ flat_map f xs ++ w
unfolding flat_map
pushed_flat f [] w = refl
pushed_flat {B = B} f (x ∷ xs) w = ap (λ (r : List B). f x ++ r) (pushed_flat f xs w) ∙ sym (append_assoc (f x) (flat_map f xs) w)

-- a place of a later row, past a row of the width
past : {A : Type 0} (part w : List A) (width i j k : ℕ) (d : A) → length part ≡ width → j ≡ width * suc i + k → get_or (part ++ w) j d ≡ get_or w (width * i + k) d
past part w width i j k d l e =
    let m : j ≡ length part + (width * i + k) = omega (arith, mul-suc width i) in
    ap (λ (n : ℕ). get_or (part ++ w) n d) m ∙ get_or-append-add part w (width * i + k) d

past_first : {A : Type 0} (part w : List A) (width i : ℕ) (d : A) → length part ≡ width → get_or (part ++ w) (width * suc i) d ≡ get_or w (width * i) d
past_first part w width i d l =
    past part w width i (width * suc i) 0 d l (omega arith) ∙ ap (λ (n : ℕ). get_or w n d) (add-zero (width * i))

-- ---- elements

-- the row of an element
abbrev pub element_row_of : Element → ElementRow
element_row_of e = record { corners = e.corners; parity = parity_word e.parity }

pub parity_back_lem : (p : Parity) → parity_of (parity_word p) ≡ p
parity_back_lem Even = refl
parity_back_lem Odd = refl

module _ (corners : ℕ) where
  -- an element before other words
  abbrev push_element : Element → List ℕ → List ℕ
  push_element e w = (e.corners ++ parity_word e.parity ∷ []) ++ w

  element_first : (e : Element) (w : List ℕ) → length e.corners ≡ corners → element_row corners (push_element e w) 0 ≡ element_row_of e
  unfolding element_row
  element_first e w l =
      let z : suc corners * 0 ≡ 0 = omega arith in
      let words = e.corners ++ parity_word e.parity ∷ w in
      let a : push_element e w ≡ words = append_assoc e.corners (parity_word e.parity ∷ []) w in
      let c : take corners (drop (suc corners * 0) (push_element e w)) ≡ e.corners =
      ap₂ (λ (k : ℕ) (x : List ℕ). take corners (drop k x)) z a ∙ take_at e.corners (parity_word e.parity ∷ w) corners l
      in
      let p : get_or (push_element e w) (suc corners * 0 + corners) 0 ≡ parity_word e.parity =
      ap (λ (x : List ℕ). get_or x (suc corners * 0 + corners) 0) a
      ∙ get_or_at e.corners (parity_word e.parity) w 0 (suc corners * 0 + corners) (omega arith)
      in
      λ i. record { corners = c i; parity = p i }

  element_next : (e : Element) (w : List ℕ) (i : ℕ) → length e.corners ≡ corners
      → element_row corners (push_element e w) (suc i) ≡ element_row corners w i
  unfolding element_row
  element_next e w i l =
      let part = e.corners ++ parity_word e.parity ∷ [] in
      let n : length part ≡ suc corners = omega (arith, length-append e.corners (parity_word e.parity ∷ [])) in
      let m = mul-suc (suc corners) i in
      let k : suc corners * suc i ≡ suc corners + suc corners * i = omega arith in
      let d : drop (suc corners * suc i) (part ++ w) ≡ drop (suc corners * i) w =
      ap (λ (k : ℕ). drop k (part ++ w)) k
      ∙ sym (drop-drop (suc corners * i) (suc corners) (part ++ w))
      ∙ ap (drop (suc corners * i)) (drop_at part w (suc corners) n)
      in
      let p = past part w (suc corners) i (suc corners * suc i + corners) corners 0 n refl in
      λ j. record { corners = take corners (d j); parity = p j }

  -- the rows read off the words that were written for elements
  pub element_rows_back :
      (es : List Element) (rest : List ℕ) → All (λ (e : Element). length e.corners ≡ corners) es
      → first_of (element_row corners (element_words es ++ rest)) (length es) ≡ map element_row_of es
  unfolding element_words
  element_rows_back es rest a =
      ap (λ (w : List ℕ). first_of (element_row corners w) (length es)) (sym (pushed_flat (λ (e : Element). e.corners ++ parity_word e.parity ∷ []) es rest))
      ∙ rows_back (element_row corners) push_element element_row_of (λ (e : Element). length e.corners ≡ corners) element_first element_next es rest a

-- the elements of those rows
pub elements_own : (es : List Element) → map element_of (map element_row_of es) ≡ es
unfolding element_of
elements_own [] = refl
elements_own (e ∷ es) =
    λ i. record { corners = e.corners; parity = parity_back_lem e.parity i } ∷ elements_own es i

-- ---- points

pub points_back : (ps rest : List ℕ) → first_of (λ (i : ℕ). get_or (ps ++ rest) i 0) (length ps) ≡ ps
points_back ps rest =
    ap (λ (w : List ℕ). first_of (λ (i : ℕ). get_or w i 0) (length ps)) (sym (point_words ps))
    ∙ rows_back (λ (w : List ℕ) (i : ℕ). get_or w i 0) (λ (p : ℕ) (w : List ℕ). p ∷ w) (λ (p : ℕ). p) (λ (p : ℕ). Unit {0})
    (λ p w u. refl) (λ p w i u. refl) ps rest (all_each (λ (p : ℕ). tt) ps)
    ∙ map-id ps
  where
    point_words : (xs : List ℕ) → pushed (λ (p : ℕ) (w : List ℕ). p ∷ w) xs rest ≡ xs ++ rest
    point_words [] = refl
    point_words (x ∷ xs) = ap (λ (r : List ℕ). x ∷ r) (point_words xs)

-- ---- vertices

module _ (F : Form) where
  -- the two slices of vertices
  record Slices : Type 0 where
    positions : List F.Coordinate
    marks : List ℕ

  abbrev push_vertex : F.Vertex → Slices → Slices
  push_vertex v s = record { positions = position_words_in F v ++ s.positions; marks = mark_words_in F v ++ s.marks }

  vertex_next : (v : F.Vertex) (s : Slices) (i : ℕ)
      → vertex_row_in F (push_vertex v s).positions (push_vertex v s).marks (suc i) ≡ vertex_row_in F s.positions s.marks i
  unfolding vertex_row_in four_row
  vertex_next v s i =
      let f = position_words_in F v in
      let m = mark_words_in F v in
      λ j.
      F.vertex
      (F.points.four
      (past_first f s.positions 4 i F.points.zero refl j)
      (past f s.positions 4 i (4 * suc i + 1) 1 F.points.zero refl refl j)
      (past f s.positions 4 i (4 * suc i + 2) 2 F.points.zero refl refl j)
      (past f s.positions 4 i (4 * suc i + 3) 3 F.points.zero refl refl j))
      (past_first m s.marks 3 i 0 refl j)
      (past m s.marks 3 i (3 * suc i + 1) 1 0 refl refl j)
      (past m s.marks 3 i (3 * suc i + 2) 2 0 refl refl j)

  pub vertices_back :
      (vs : List F.Vertex) (coordinates : List F.Coordinate) (words : List ℕ)
      → first_of (vertex_row_in F (flat_map (position_words_in F) vs ++ coordinates) (flat_map (mark_words_in F) vs ++ words)) (length vs) ≡ vs
  unfolding flat_map vertex_row_in four_row
  vertices_back vs coordinates words =
      let s : Slices = record { positions = coordinates; marks = words } in
      ap (λ (w : Slices). first_of (vertex_row_in F w.positions w.marks) (length vs)) (sym (both vs))
      ∙ rows_back (λ (w : Slices) (i : ℕ). vertex_row_in F w.positions w.marks i) push_vertex (λ (v : F.Vertex). v) (λ (v : F.Vertex). Unit {0})
      (λ v w u. vertex_first v w) (λ v w i u. vertex_next v w i) vs s (all_each (λ (v : F.Vertex). tt) vs)
      ∙ map-id vs
    where
      vertex_first : (v : F.Vertex) (s : Slices) → vertex_row_in F (push_vertex v s).positions (push_vertex v s).marks 0 ≡ v
      vertex_first v s =
          ap (λ (p : F.Point). F.vertex p (F.flags v) (F.tag v) (F.k v)) (F.points.own (F.position v)) ∙ F.whole v

      both : (xs : List F.Vertex) → pushed push_vertex xs (record { positions = coordinates; marks = words })
          ≡ record { positions = flat_map (position_words_in F) xs ++ coordinates; marks = flat_map (mark_words_in F) xs ++ words }
      both [] = refl
      both (x ∷ xs) = ap (push_vertex x) (both xs)

-- ---- curves

-- the row of a curve, and the rows of its vertices
abbrev pub curve_row_of : Curve → CurveRow
curve_row_of c = record { tag = c.tag; count = length c.vertices }

abbrev pub step_rows : List ℕ → List Parity → List StepRow
step_rows [] ps = []
step_rows (v ∷ vs) [] = record { vertex = v; step = 0 } ∷ step_rows vs []
step_rows (v ∷ vs) (p ∷ ps) = record { vertex = v; step = parity_word p } ∷ step_rows vs ps

abbrev pub row_words : StepRow → List ℕ
row_words r = r.vertex ∷ r.step ∷ []

abbrev pub own_steps : Curve → List StepRow
own_steps c = step_rows c.vertices c.parities

pub curve_rows_back : (cs : List Curve) (rest : List ℕ) → first_of (curve_row (curve_words cs ++ rest)) (length cs) ≡ map curve_row_of cs
unfolding curve_words curve_row
curve_rows_back cs rest =
    ap (λ (w : List ℕ). first_of (curve_row w) (length cs)) (sym (pushed_flat (λ (c : Curve). c.tag ∷ length c.vertices ∷ []) cs rest))
    ∙ rows_back curve_row (λ (c : Curve) (w : List ℕ). c.tag ∷ length c.vertices ∷ w) curve_row_of (λ (c : Curve). Unit {0})
    (λ c w u. first c w) (λ c w i u. next c w i) cs rest (all_each (λ (c : Curve). tt) cs)
  where
    first : (c : Curve) (w : List ℕ) → curve_row (c.tag ∷ length c.vertices ∷ w) 0 ≡ curve_row_of c
    first c w = refl

    next : (c : Curve) (w : List ℕ) (i : ℕ) → curve_row (c.tag ∷ length c.vertices ∷ w) (suc i) ≡ curve_row w i
    next c w i =
        let part = c.tag ∷ length c.vertices ∷ [] in
        λ j. record { tag = past_first part w 2 i 0 refl j; count = past part w 2 i (2 * suc i + 1) 1 0 refl refl j }

step_rows_back : (rs : List StepRow) (rest : List ℕ) → first_of (step_row (flat_map row_words rs ++ rest)) (length rs) ≡ rs
unfolding step_row
step_rows_back rs rest =
    ap (λ (w : List ℕ). first_of (step_row w) (length rs)) (sym (pushed_flat row_words rs rest))
    ∙ rows_back step_row (λ (r : StepRow) (w : List ℕ). row_words r ++ w) (λ (r : StepRow). r) (λ (r : StepRow). Unit {0})
    (λ r w u. first r w) (λ r w i u. next r w i) rs rest (all_each (λ (r : StepRow). tt) rs)
    ∙ map-id rs
  where
    first : (r : StepRow) (w : List ℕ) → step_row (row_words r ++ w) 0 ≡ r
    first r w = refl

    next : (r : StepRow) (w : List ℕ) (i : ℕ) → step_row (row_words r ++ w) (suc i) ≡ step_row w i
    next r w i = λ j. record { vertex = past_first (row_words r) w 2 i 0 refl j; step = past (row_words r) w 2 i (2 * suc i + 1) 1 0 refl refl j }

steps_words_lem : (vs : List ℕ) (ps : List Parity) → steps_words vs ps ≡ flat_map row_words (step_rows vs ps)
unfolding steps_words flat_map
steps_words_lem [] ps = refl
steps_words_lem (v ∷ vs) [] = ap (λ (r : List ℕ). v ∷ 0 ∷ r) (steps_words_lem vs [])
steps_words_lem (v ∷ vs) (p ∷ ps) = ap (λ (r : List ℕ). v ∷ parity_word p ∷ r) (steps_words_lem vs ps)

pub vertex_words_lem : (cs : List Curve) → vertex_words cs ≡ flat_map row_words (flat_map own_steps cs)
unfolding vertex_words flat_map
vertex_words_lem [] = refl
vertex_words_lem (c ∷ cs) =
    ap₂ (λ (x y : List ℕ). x ++ y) (steps_words_lem c.vertices c.parities) (vertex_words_lem cs)
    ∙ sym (flat_map_append row_words (own_steps c) (flat_map own_steps cs))

pub length_step_rows : (vs : List ℕ) (ps : List Parity) → length (step_rows vs ps) ≡ length vs
length_step_rows [] ps = refl
length_step_rows (v ∷ vs) [] = ap suc (length_step_rows vs [])
length_step_rows (v ∷ vs) (p ∷ ps) = ap suc (length_step_rows vs ps)

pub count_steps : (cs : List Curve) → length (flat_map own_steps cs) ≡ curve_vertices_of cs
unfolding flat_map curve_vertices_of
count_steps [] = refl
count_steps (c ∷ cs) =
    length-append (own_steps c) (flat_map own_steps cs) ∙ ap₂ (λ (m n : ℕ). m + n) (length_step_rows c.vertices c.parities) (count_steps cs)

pub steps_back : (cs : List Curve) (rest : List ℕ) → first_of (step_row (vertex_words cs ++ rest)) (curve_vertices_of cs) ≡ flat_map own_steps cs
steps_back cs rest =
    ap₂ (λ (w : List ℕ) (n : ℕ). first_of (step_row (w ++ rest)) n) (vertex_words_lem cs) (sym (count_steps cs)) ∙ step_rows_back (flat_map own_steps cs) rest

-- a curve has one parity fewer than vertices
abbrev pub Stepped : Curve → Type 0
Stepped c = length c.parities ≡ length c.vertices - 1

vertices_own : (vs : List ℕ) (ps : List Parity) → map (λ (r : StepRow). r.vertex) (step_rows vs ps) ≡ vs
vertices_own [] ps = refl
vertices_own (v ∷ vs) [] = ap (λ (r : List ℕ). v ∷ r) (vertices_own vs [])
vertices_own (v ∷ vs) (p ∷ ps) = ap (λ (r : List ℕ). v ∷ r) (vertices_own vs ps)

-- a step's word, where another vertex follows
step_before : (r : StepRow) (w : ℕ) (vs : List ℕ) (ps : List Parity) → step_words (r ∷ step_rows (w ∷ vs) ps) ≡ r.step ∷ step_words (step_rows (w ∷ vs) ps)
unfolding step_words
step_before r w vs [] = refl
step_before r w vs (p ∷ ps) = refl

parities_own : (vs : List ℕ) (ps : List Parity) → length ps ≡ length vs - 1 → map parity_of (step_words (step_rows vs ps)) ≡ ps
unfolding step_words
parities_own [] [] l = refl
parities_own [] (p ∷ ps) l = absurd (omega arith)
parities_own (v ∷ []) [] l = refl
parities_own (v ∷ []) (p ∷ ps) l = absurd (omega arith)
parities_own (v ∷ w ∷ vs) [] l = absurd (omega arith)
parities_own (v ∷ w ∷ vs) (p ∷ ps) l =
    ap (map parity_of) (step_before (record { vertex = v; step = parity_word p }) w vs ps)
    ∙ ap₂ (λ (q : Parity) (r : List Parity). q ∷ r) (parity_back_lem p) (parities_own (w ∷ vs) ps (omega arith))

pub curves_own : (cs : List Curve) → All Stepped cs → curves_of (map curve_row_of cs) (flat_map own_steps cs) ≡ cs
unfolding curves_of flat_map
curves_own [] a = refl
curves_own (c ∷ cs) a =
    let more = flat_map own_steps cs in
    let n = length_step_rows c.vertices c.parities in
    let t = take_at (own_steps c) more (length c.vertices) n in
    let d = drop_at (own_steps c) more (length c.vertices) n in
    ap₂ (λ (x : Curve) (xs : List Curve). x ∷ xs)
    (λ i. record {
      tag = c.tag;
      vertices = (ap (map (λ (r : StepRow). r.vertex)) t ∙ vertices_own c.vertices c.parities) i;
      parities = (ap (λ (r : List StepRow). map parity_of (step_words r)) t ∙ parities_own c.vertices c.parities a.0) i;
    })
    (ap (curves_of (map curve_row_of cs)) d ∙ curves_own cs a.1)

-- their lengths add up to the curve vertices
pub lengths_own : (cs : List Curve) → curve_lengths (map curve_row_of cs) ≡ curve_vertices_of cs
unfolding curve_lengths curve_vertices_of
lengths_own [] = refl
lengths_own (c ∷ cs) = ap (λ (n : ℕ). length c.vertices + n) (lengths_own cs)
