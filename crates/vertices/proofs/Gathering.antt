-- What each vertex gathers, read off smoothing's cells vertex by vertex.
-- Assumes nothing.
use mathlib.Core.Path.{◌≡◌, refl, sym, ◌∙◌, ap, ap₂, subst}
use mathlib.Core.Bool.{Bool, true, false, cond, ◌&&◌}
use mathlib.Core.List.{List, [], ◌∷◌, ◌++◌, map, map-append}
use mathlib.Core.Logic.{inl, inr, ◌≢◌}
use Prim.Native.Nat.{ℕ, zero, suc, ◌+◌, ◌*◌, ◌≤◌, ◌<◌}
use native.Mathlib.Nat.{mul-suc, mul-le-mul_left, eq-or-lt_of_le}
use native.Mathlib.Numerals.{add-one}
use native.Mathlib.Omega.{arith}
use lib.Dec.{eqb, ltb}
use lib.ListN.{length, get_or, take, drop, set, length-set, length-take, length-drop}
use lib.Seq.{take-suc, get_or-take, get_or-drop, sets, get_or-set_same, get_or-set_other}
use borrow.Author.Tests.{eqb-true, eqb-false, ltb-true, ltb-false}
use Rattle.geom.specs.Elements.{Element}
use Rattle.geom.specs.Form.{Fourfold, Form}
use Rattle.geom.specs.Memory.{first_of, four_row, vertex_row_in, four_words, element_row, element_of}
use Rattle.geom.specs.Vertices.{position_in}
use Rattle.geom.specs.Smoothing.{GatheredIn, nothing, ignored, update, to_corners, gather}
use Rattle.vertices.specs.Cells.{points_in, elements_of, gathered_row_in, Lent, MOST, Corners, Elements}
use Rattle.geom.proofs.Rows.{get_d_first_of}
use Rattle.vertices.proofs.Written.{get_d_sets_past, part_on}

-- ---- a row written, and the others

get_d_sets_before : {A : Type 0} (l : List A) (a : ℕ) (ws : List A) (j : ℕ) (d : A) → j < a → get_or (sets l a ws) j d ≡ get_or l j d
get_d_sets_before l a [] j d h = refl
get_d_sets_before l a (x ∷ ws) j d h =
    get_d_sets_before (set l a x) (suc a) ws j d (omega arith) ∙ get_or-set_other l a j x d (λ e. omega arith)

pub get_d_sets_at : {A : Type 0} (l : List A) (a : ℕ) (ws : List A) (k : ℕ) (d : A) → k < length ws → a + length ws ≤ length l → get_or (sets l a ws) (a + k) d ≡ get_or ws k d
get_d_sets_at l a [] k d h r = absurd (omega arith)
get_d_sets_at l a (x ∷ ws) zero d h r =
    let e : a + 0 ≡ a = omega arith in
    rw e (get_d_sets_before (set l a x) (suc a) ws a d (omega arith) ∙ get_or-set_same l a x d (omega arith))
get_d_sets_at l a (x ∷ ws) (suc k) d h r =
    let e : a + suc k ≡ suc a + k = omega arith in
    rw e (get_d_sets_at (set l a x) (suc a) ws k d (omega arith) (simp length-set (omega arith)))

apart : (v u : ℕ) → v ≢ u → u ≤ v → u < v
apart v u ne h = elim (eq-or-lt_of_le h) [ inl e ↦ absurd (ne (sym e)) | inr l ↦ l ]

-- word k of row u, of rows as wide as what was written to row v
pub other_row : {A : Type 0} (l ws : List A) (n : ℕ) (v u k : ℕ) (d : A) → length ws ≡ n → k < n → v ≢ u → get_or (sets l (n * v) ws) (n * u + k) d ≡ get_or l (n * u + k) d
other_row l ws n v u k d e h ne = go (ltb v u) refl
  where
    go : (b : Bool) → ltb v u ≡ b → get_or (sets l (n * v) ws) (n * u + k) d ≡ get_or l (n * u + k) d
    go true q =
        let p : v < u = ltb-true v u q in
        get_d_sets_past l (n * v) ws (n * u + k) d (omega (arith, mul-suc n v, mul-le-mul_left n p))
    go false q =
        let p : u < v = apart v u ne (ltb-false v u q) in
        get_d_sets_before l (n * v) ws (n * u + k) d (omega (arith, mul-suc n u, mul-le-mul_left n p))

-- ---- four words a row

module _ {A Four : Type 0} (q : Fourfold A Four) (l : List A) (v : ℕ) (p : Four) where
  pub four_same : 4 * v + 4 ≤ length l → four_row q (sets l (4 * v) (four_words q p)) v ≡ p
  unfolding four_row
  four_same h =
      let e : 4 * v + 0 ≡ 4 * v = omega arith in
      let x = rw e at (get_d_sets_at l (4 * v) (four_words q p) 0 q.zero (omega arith) (omega arith)) in
      let y = get_d_sets_at l (4 * v) (four_words q p) 1 q.zero (omega arith) (omega arith) in
      let z = get_d_sets_at l (4 * v) (four_words q p) 2 q.zero (omega arith) (omega arith) in
      let w = get_d_sets_at l (4 * v) (four_words q p) 3 q.zero (omega arith) (omega arith) in
      (λ i. q.four (x i) (y i) (z i) (w i)) ∙ q.own p

  pub four_other : (u : ℕ) → v ≢ u → four_row q (sets l (4 * v) (four_words q p)) u ≡ four_row q l u
  unfolding four_row
  four_other u ne =
      let e : 4 * u + 0 ≡ 4 * u = omega arith in
      let x = rw e at (other_row l (four_words q p) 4 v u 0 q.zero refl (omega arith) ne) in
      let y = other_row l (four_words q p) 4 v u 1 q.zero refl (omega arith) ne in
      let z = other_row l (four_words q p) 4 v u 2 q.zero refl (omega arith) ne in
      let w = other_row l (four_words q p) 4 v u 3 q.zero refl (omega arith) ne in
      λ i. q.four (x i) (y i) (z i) (w i)

-- ---- what needs no form

pub length_part : (words : List ℕ) (start k : ℕ) → start + k ≤ length words → length (take k (drop start words)) ≡ k
length_part words start k h = simp (length-take, length-drop) (omega arith)

pub part_more : (words : List ℕ) (start k : ℕ) → start + k < length words → take (k + 1) (drop start words) ≡ take k (drop start words) ++ get_or words (start + k) 0 ∷ []
part_more words start k h = part_on words start k 0 h

pub elements_corners : (words : List ℕ) (corners n count i : ℕ) → Elements words corners n count → i < n → Corners words ((corners + 1) * i) corners count
elements_corners words corners n count i e h =
    rw (add-one corners)
    (record {
      room = omega (arith, e.room, mul-suc (suc corners) i, mul-le-mul_left (suc corners) h);
      below = e.below i h;
    })

-- an element's corners by themselves
pub corners_alone : {words : List ℕ} {start n count : ℕ} → Corners words start n count → (k : ℕ) → k < length (take n (drop start words)) → get_or (take n (drop start words)) k 0 < count
corners_alone {words} {start} {n} {count} c k h =
    let l : k < n = omega (arith, length_part words start n c.room) in
    rw (get_or-take n (drop start words) k 0 l ∙ get_or-drop start words k 0) (c.below k l)

pub elements_more : (corners : ℕ) (words : List ℕ) (i : ℕ) → elements_of corners words (i + 1) ≡ elements_of corners words i ++ element_of (element_row corners words i) ∷ []
unfolding first_of
elements_more corners words i = rw (add-one i) (map-append element_of (first_of (element_row corners words) i) (element_row corners words i ∷ []))

-- ---- over a form

module _ (F : Form) where
  -- one vertex's cells are written, and all others keep theirs
  pub row_put : (sums : List F.Cell) (tallies : List ℕ) (v : ℕ) (p : F.Sum) (n t : ℕ) (sums' : List F.Cell) (tallies' : List ℕ) → Lent sums tallies (v + 1)
      → sums' ≡ sets sums (4 * v) (four_words F.sums p) → tallies' ≡ sets tallies (2 * v) (n ∷ t ∷ [])
      → (u : ℕ) → gathered_row_in F sums' tallies' u ≡ cond (eqb v u) (record { sum = p; count = n; touch = t }) (gathered_row_in F sums tallies u)
  unfolding gathered_row_in
  row_put sums tallies v p n t sums' tallies' r es et u = ap₂ (λ (a : List F.Cell) (b : List ℕ). gathered_row_in F a b u) es et ∙ go (eqb v u) refl
    where
      go : (b : Bool) → eqb v u ≡ b
          → gathered_row_in F (sets sums (4 * v) (four_words F.sums p)) (sets tallies (2 * v) (n ∷ t ∷ [])) u ≡ cond b (record { sum = p; count = n; touch = t }) (gathered_row_in F sums tallies u)
      go true q =
          let z : 2 * v + 0 ≡ 2 * v = omega arith in
          let a = four_same F.sums sums v p (omega arith) in
          let b = rw z at (get_d_sets_at tallies (2 * v) (n ∷ t ∷ []) 0 0 (omega arith) (omega arith)) in
          let c = get_d_sets_at tallies (2 * v) (n ∷ t ∷ []) 1 0 (omega arith) (omega arith) in
          subst (λ (k : ℕ). gathered_row_in F (sets sums (4 * v) (four_words F.sums p)) (sets tallies (2 * v) (n ∷ t ∷ [])) k ≡ record { sum = p; count = n; touch = t }) (eqb-true v u q)
          (λ i. record { sum = a i; count = b i; touch = c i })
      go false q =
          let z : 2 * u + 0 ≡ 2 * u = omega arith in
          let a = four_other F.sums sums v p u (eqb-false v u q) in
          let b = rw z at (other_row tallies (n ∷ t ∷ []) 2 v u 0 0 refl (omega arith) (eqb-false v u q)) in
          let c = other_row tallies (n ∷ t ∷ []) 2 v u 1 0 refl (omega arith) (eqb-false v u q) in
          λ i. record { sum = a i; count = b i; touch = c i }

  -- ---- cleared cells

  pub cleared_on : (sums : List F.Cell) (tallies : List ℕ) (i : ℕ) (sums' : List F.Cell) (tallies' : List ℕ) (z : F.Sum)
      → ((u : ℕ) → u < i → gathered_row_in F sums tallies u ≡ nothing) → z ≡ F.none
      → ((u : ℕ) → gathered_row_in F sums' tallies' u ≡ cond (eqb i u) (record { sum = z; count = 0; touch = 0 }) (gathered_row_in F sums tallies u))
      → (u : ℕ) → u < i + 1 → gathered_row_in F sums' tallies' u ≡ nothing
  cleared_on sums tallies i sums' tallies' z c e put u l = put u ∙ go (eqb i u) refl
    where
      below : (i u : ℕ) → u < i + 1 → i ≢ u → u < i
      below i u l ne = apart i u ne (omega arith)

      go : (b : Bool) → eqb i u ≡ b → cond b (record { sum = z; count = 0; touch = 0 }) (gathered_row_in F sums tallies u) ≡ nothing
      go true q = unfold nothing in ap (λ (p : F.Sum). record { sum = p; count = 0; touch = 0 }) e
      go false q = c u (below i u l (eqb-false i u q))

  -- ---- one update

  module _ (sums : List F.Cell) (tallies : List ℕ) (v rank : ℕ) (p : F.Sum) where
    -- ignored: nothing changes
    pub update_off : (t : ℕ) → t ≡ get_or tallies (2 * v + 1) 0 → (ltb 0 t && ltb t rank) ≡ true
        → (u : ℕ) → gathered_row_in F sums tallies u ≡ cond (eqb v u) (update rank p (gathered_row_in F sums tallies u)) (gathered_row_in F sums tallies u)
    unfolding update ignored gathered_row_in
    update_off t e q u = go (eqb v u) refl
      where
        go : (b : Bool) → eqb v u ≡ b → gathered_row_in F sums tallies u ≡ cond b (update rank p (gathered_row_in F sums tallies u)) (gathered_row_in F sums tallies u)
        go true r =
            let i : u ≡ v = sym (eqb-true v u r) in
            let k : ignored rank (gathered_row_in F sums tallies u) ≡ true = rw (i, ← e) q in
            sym (ap (λ (b : Bool). cond b (gathered_row_in F sums tallies u) (record { sum = F.add (four_row F.sums sums u) p; count = suc (get_or tallies (2 * u) 0); touch = rank })) k)
        go false r = refl

    -- else the result is added
    pub update_on : (s : F.Sum) (n t : ℕ) → s ≡ four_row F.sums sums v → n ≡ get_or tallies (2 * v) 0 → t ≡ get_or tallies (2 * v + 1) 0 → (ltb 0 t && ltb t rank) ≡ false
        → (a : F.Sum) → a ≡ F.add s p → (sums' : List F.Cell) (tallies' : List ℕ)
        → ((u : ℕ) → gathered_row_in F sums' tallies' u ≡ cond (eqb v u) (record { sum = a; count = n + 1; touch = rank }) (gathered_row_in F sums tallies u))
        → (u : ℕ) → gathered_row_in F sums' tallies' u ≡ cond (eqb v u) (update rank p (gathered_row_in F sums tallies u)) (gathered_row_in F sums tallies u)
    unfolding update ignored gathered_row_in
    update_on s n t es en et q a ea sums' tallies' put u = put u ∙ go (eqb v u) refl
      where
        go : (b : Bool) → eqb v u ≡ b
            → cond b (record { sum = a; count = n + 1; touch = rank }) (gathered_row_in F sums tallies u) ≡ cond b (update rank p (gathered_row_in F sums tallies u)) (gathered_row_in F sums tallies u)
        go true r =
            let i : u ≡ v = sym (eqb-true v u r) in
            let k : ignored rank (gathered_row_in F sums tallies u) ≡ false = rw (i, ← et) q in
            let m : n + 1 ≡ suc (get_or tallies (2 * u) 0) = rw i (omega arith) in
            let b : a ≡ F.add (four_row F.sums sums u) p = rw i (ea ∙ ap (λ (x : F.Sum). F.add x p) es) in
            (λ j. record { sum = b j; count = m j; touch = rank })
            ∙ sym (ap (λ (b : Bool). cond b (gathered_row_in F sums tallies u) (record { sum = F.add (four_row F.sums sums u) p; count = suc (get_or tallies (2 * u) 0); touch = rank })) k)
        go false r = refl

  -- ---- an element's corners, one by one

  corners_snoc : (rank : ℕ) (p : F.Sum) (v : ℕ) (cs : List ℕ) (c : ℕ) (g : GatheredIn F)
      → to_corners rank p v (cs ++ c ∷ []) g ≡ cond (eqb c v) (update rank p (to_corners rank p v cs g)) (to_corners rank p v cs g)
  unfolding to_corners
  corners_snoc rank p v [] c g = refl
  corners_snoc rank p v (x ∷ cs) c g = corners_snoc rank p v cs c (cond (eqb x v) (update rank p g) g)

  update_count : (rank : ℕ) (p : F.Sum) (g : GatheredIn F) → (update rank p g).count ≤ suc g.count
  unfolding update
  update_count rank p g = go (ignored rank g)
    where
      go : (b : Bool) → (cond b g (record { sum = F.add g.sum p; count = suc g.count; touch = rank })).count ≤ suc g.count
      go true = omega arith
      go false = omega arith

  corner_count : (rank : ℕ) (p : F.Sum) (g : GatheredIn F) (b : Bool) → (cond b (update rank p g) g).count ≤ suc g.count
  corner_count rank p g true = update_count rank p g
  corner_count rank p g false = omega arith

  pub corners_count : (rank : ℕ) (p : F.Sum) (v : ℕ) (cs : List ℕ) (g : GatheredIn F) → (to_corners rank p v cs g).count ≤ g.count + length cs
  unfolding to_corners
  corners_count rank p v [] g = omega arith
  corners_count rank p v (c ∷ cs) g =
      omega (arith, corners_count rank p v cs (cond (eqb c v) (update rank p g) g), corner_count rank p g (eqb c v))

  module _ (sums₀ : List F.Cell) (tallies₀ corners : List ℕ) (p : F.Sum) (rank : ℕ) where
    -- each vertex has what k of the corners give it
    abbrev pub Spread : List F.Cell → List ℕ → ℕ → Type 0
    Spread sums tallies k = (u : ℕ) → gathered_row_in F sums tallies u ≡ to_corners rank p u (take k corners) (gathered_row_in F sums₀ tallies₀ u)

    pub spread_none : Spread sums₀ tallies₀ 0
    unfolding to_corners
    spread_none u = refl

    module _ (sums : List F.Cell) (tallies : List ℕ) (k count : ℕ) (s : Spread sums tallies k) (h : k < length corners)
        (below : (j : ℕ) → j < length corners → get_or corners j 0 < count) where
      pub spread_lent : Lent sums tallies count → Lent sums tallies (get_or corners k 0 + 1)
      spread_lent l =
          let b = below k h in
          record { sum = omega (arith, l.sum); tally = omega (arith, l.tally) }

      pub spread_light : ((u : ℕ) → u < count → (gathered_row_in F sums₀ tallies₀ u).count + length corners ≤ MOST) → (gathered_row_in F sums tallies (get_or corners k 0)).count < MOST
      spread_light f =
          let v = get_or corners k 0 in
          let g = gathered_row_in F sums₀ tallies₀ v in
          omega (arith, ap (λ (g : GatheredIn F). g.count) (s v), corners_count rank p v (take k corners) g, length-take k corners, f v (below k h))

      pub spread_on : (sums' : List F.Cell) (tallies' : List ℕ)
          → ((u : ℕ) → gathered_row_in F sums' tallies' u ≡ cond (eqb (get_or corners k 0) u) (update rank p (gathered_row_in F sums tallies u)) (gathered_row_in F sums tallies u))
          → Spread sums' tallies' (k + 1)
      spread_on sums' tallies' up u =
          up u
          ∙ ap (λ (g : GatheredIn F). cond (eqb (get_or corners k 0) u) (update rank p g) g) (s u)
          ∙ sym (corners_snoc rank p u (take k corners) (get_or corners k 0) (gathered_row_in F sums₀ tallies₀ u))
          ∙ ap (λ (l : List ℕ). to_corners rank p u l (gathered_row_in F sums₀ tallies₀ u)) (sym (rw add-one (take-suc corners k 0 h)))

  -- ---- the elements of a list, one by one

  gather_snoc : (rank : ℕ) (result : List F.Point → F.Sum) (vertices : List F.Vertex) (v : ℕ) (es : List Element) (e : Element) (g : GatheredIn F)
      → gather rank result vertices v (es ++ e ∷ []) g
      ≡ to_corners rank (result (map (position_in F vertices) e.corners)) v e.corners (gather rank result vertices v es g)
  unfolding gather
  gather_snoc rank result vertices v [] e g = refl
  gather_snoc rank result vertices v (x ∷ es) e g =
      gather_snoc rank result vertices v es e (to_corners rank (result (map (position_in F vertices) x.corners)) v x.corners g)

  pub position_of : (positions : List F.Coordinate) (marks : List ℕ) (count v : ℕ) → v < count → position_in F (first_of (vertex_row_in F positions marks) count) v ≡ four_row F.points positions v
  unfolding vertex_row_in
  position_of positions marks count v h =
      ap F.position (get_d_first_of (vertex_row_in F positions marks) (F.vertex F.origin 0 0 0) v count h) ∙ (F.parts_of _ _ _ _).0

  positions_of : (positions : List F.Coordinate) (marks words : List ℕ) (start n count k : ℕ) → Corners words start n count → k ≤ n
      → map (position_in F (first_of (vertex_row_in F positions marks) count)) (take k (drop start words)) ≡ points_in F positions words start k
  positions_of positions marks words start n count zero c h = refl
  positions_of positions marks words start n count (suc k) c h =
      let at = position_in F (first_of (vertex_row_in F positions marks) count) in
      let m = rw (add-one k) at (part_more words start k (omega (arith, c.room))) in
      ap (map at) m
      ∙ map-append at (take k (drop start words)) (get_or words (start + k) 0 ∷ [])
      ∙ ap₂ (λ (xs : List F.Point) (x : F.Point). xs ++ x ∷ [])
      (positions_of positions marks words start n count k c (omega arith))
      (position_of positions marks count (get_or words (start + k) 0) (c.below k (omega arith)))
      ∙ sym (ap (map (four_row F.points positions)) m ∙ map-append (four_row F.points positions) (take k (drop start words)) (get_or words (start + k) 0 ∷ []))

  module _ (rank : ℕ) (result : List F.Point → F.Sum) (positions : List F.Coordinate) (words : List ℕ) (corners count : ℕ) (sums₀ : List F.Cell) (tallies₀ : List ℕ) where
    pub record Collecting (sums : List F.Cell) (tallies : List ℕ) (i : ℕ) : Type 0 where
      pub told : (marks : List ℕ) (u : ℕ) → gathered_row_in F sums tallies u
          ≡ gather rank result (first_of (vertex_row_in F positions marks) count) u (elements_of corners words i) (gathered_row_in F sums₀ tallies₀ u)
      pub light : (u : ℕ) → (gathered_row_in F sums tallies u).count ≤ (gathered_row_in F sums₀ tallies₀ u).count + corners * i

    pub collecting_start : Collecting sums₀ tallies₀ 0
    unfolding first_of gather
    collecting_start = record { told = λ marks u. refl; light = λ u. omega arith }

    module _ (elements : ℕ) (es : Elements words corners elements count) (sums : List F.Cell) (tallies : List ℕ) (i : ℕ) (c : Collecting sums tallies i) (h : i < elements) where
      pub collecting_light : ((u : ℕ) → u < count → (gathered_row_in F sums₀ tallies₀ u).count + corners * elements ≤ MOST)
          → (u : ℕ) → u < count → (gathered_row_in F sums tallies u).count + corners ≤ MOST
      collecting_light f u k = omega (arith, f u k, c.light u, mul-suc corners i, mul-le-mul_left corners h)

      pub collecting_on : (p : F.Sum) (sums' : List F.Cell) (tallies' : List ℕ)
          → p ≡ result (points_in F positions words ((corners + 1) * i) corners)
          → ((u : ℕ) → gathered_row_in F sums' tallies' u ≡ to_corners rank p u (take corners (drop ((corners + 1) * i) words)) (gathered_row_in F sums tallies u))
          → Collecting sums' tallies' (i + 1)
      unfolding element_row element_of
      collecting_on p sums' tallies' ep up =
          let start = (corners + 1) * i in
          let cs = elements_corners words corners elements count i es h in
          record {
            told = λ marks u.
                let vertices = first_of (vertex_row_in F positions marks) count in
                up u
                ∙ ap₂ (λ (q : F.Sum) (g : GatheredIn F). to_corners rank q u (take corners (drop start words)) g)
                (ep ∙ ap result (sym (positions_of positions marks words start corners count corners cs (omega arith)))) (c.told marks u)
                ∙ ap (λ (k : ℕ). to_corners rank (result (map (position_in F vertices) (take corners (drop (k * i) words)))) u (take corners (drop (k * i) words)) (gather rank result vertices u (elements_of corners words i) (gathered_row_in F sums₀ tallies₀ u))) (add-one corners)
                ∙ sym (gather_snoc rank result vertices u (elements_of corners words i) (element_of (element_row corners words i)) (gathered_row_in F sums₀ tallies₀ u))
                ∙ ap (λ (l : List Element). gather rank result vertices u l (gathered_row_in F sums₀ tallies₀ u)) (sym (elements_more corners words i));
            light = λ u.
                omega (
                  arith,
                  ap (λ (g : GatheredIn F). g.count) (up u),
                  corners_count rank p u (take corners (drop start words)) (gathered_row_in F sums tallies u),
                  length_part words start corners cs.room,
                  c.light u,
                  ap (λ (k : ℕ). corners * k) (add-one i),
                  mul-suc corners i,
                );
          }
