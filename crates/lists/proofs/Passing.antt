-- A pass over the lists, one list after the other with one book: what each call left makes up the definition's pass, and what did not fit in one
-- list does not fit in the whole.
-- Assumes nothing.
use mathlib.Core.Path.{◌≡◌, refl, sym, ◌∙◌, ap, subst}
use mathlib.Core.Bool.{Bool, true, false, cond}
use mathlib.Core.Logic.{◌⊎◌, inl, inr, ⊎_elim}
use mathlib.Core.List.{List, [], ◌∷◌}
use Prim.Native.Nat.{ℕ, ◌+◌, ◌*◌, ◌<◌, ◌≤◌}
use native.Mathlib.Omega.{arith}
use lib.Dec.{eqb}
use lib.ListN.{length}
use Rattle.geom.specs.declared.answer.Sizes.{Sizes}
use Rattle.geom.specs.Book as Book
use Rattle.geom.specs.Book.{Kind, cubes, simplices, Book, each, mids}
use Rattle.geom.specs.Elements.{Element, Curve}
use Rattle.geom.specs.Rules.{line, divide, curve, Went, pass_by}
use Rattle.geom.specs.Simplices.{triangle}
use Rattle.geom.specs.Cubes.{SQUARE_AXES, SQUARE, diagonal, no_square, square}
use Rattle.geom.specs.Passes.{pass}
use Rattle.geom.specs.Ledger.{face_shape, volume_shape}
use Rattle.geom.specs.Mesh.{curve_vertices_of}
use Rattle.geom.specs.Memory.{first_of, step_row, curve_row, curves_of}
use Rattle.geom.specs.Elements as Elements
use Rattle.geom.specs.Refusals.{curve_lengths}
use Rattle.geom.specs.Between.{area_rule, volume_rule}
use Rattle.book.specs.Cells.{pairs_of}
use Rattle.book.specs.Answers.{Ready}
use Rattle.geom.proofs.Well.{pass_is}
use Rattle.division.specs.Writing.{Listed}
use Rattle.division.specs.Threads.{curves_in, Wound}
use Rattle.division.proofs.Folds.{mids_grows, each_grows}
use Rattle.division.proofs.Strands.{curve_grows}
use Rattle.lists.specs.Lists.{Slices, slices, lists_of, Made, Bursts}

-- the rule of an area only adds to the book
area_grows : (kind : Kind) (base : ℕ) (b : Book) (x : Element) → length b ≤ length (area_rule kind base b x).book
unfolding square triangle divide
area_grows simplices base b x = mids_grows simplices base b (Elements.pairs_of x.corners (face_shape simplices).edges)
area_grows cubes base b x = go (eqb (Elements.point_at x.corners 0) (Elements.point_at x.corners 3)) (Elements.flat SQUARE_AXES x.corners)
  where
    go :
        (s t : Bool)
        → length b
        ≤ length
        (cond s (record { made = []; book = b })
        (cond t (no_square (mids cubes base b (diagonal x.corners ∷ []))) (divide cubes SQUARE base b x))).book
    go true t = omega arith
    go false true = mids_grows cubes base b (diagonal x.corners ∷ [])
    go false false = mids_grows cubes base b (Elements.pairs_of x.corners SQUARE.edges)

volume_grows : (kind : Kind) (base : ℕ) (b : Book) (x : Element) → length b ≤ length (volume_rule kind base b x).book
unfolding divide
volume_grows kind base b x = mids_grows kind base b (Elements.pairs_of x.corners (volume_shape kind).edges)

module _ (kind : Kind) (base room : ℕ) (s c : Sizes) (b : Slices) (start : Book) where
  -- what each list makes
  abbrev after_lines : Book.Made Element
  after_lines = each (line kind base) start (lists_of kind s b).lines

  abbrev after_areas : Book.Made Element
  after_areas = each (area_rule kind base) after_lines.book (lists_of kind s b).areas

  abbrev after_volumes : Book.Made Element
  after_volumes = each (volume_rule kind base) after_areas.book (lists_of kind s b).volumes

  abbrev after_curves : Book.Made Curve
  after_curves = each (curve kind base) after_volumes.book (lists_of kind s b).curves

  -- the pass over all of them
  abbrev before : Went
  before = record { lists = lists_of kind s b; book = start }

  abbrev went : Went
  went = pass kind base before

  -- what bursts by the rules one after the other bursts in the pass
  burst : Bursts room c (pass_by kind (area_rule kind) (volume_rule kind) base before) → Bursts room c went
  burst = subst (Bursts room c) (sym (pass_is kind base before))

  areas_longer : length after_lines.book ≤ length after_areas.book
  areas_longer = each_grows (area_rule kind base) (area_grows kind base) after_lines.book (lists_of kind s b).areas

  volumes_longer : length after_areas.book ≤ length after_volumes.book
  volumes_longer = each_grows (volume_rule kind base) (volume_grows kind base) after_areas.book (lists_of kind s b).volumes

  curves_longer : length after_volumes.book ≤ length after_curves.book
  curves_longer = each_grows (curve kind base) (curve_grows kind base) after_volumes.book (lists_of kind s b).curves

  -- ---- what did not fit

  pub full_lines : (room < length after_lines.book) ⊎ (c.lines < length after_lines.made) → Bursts room c went
  unfolding pass_by
  full_lines x =
      burst
      (⊎_elim
      (λ (l : room < length after_lines.book). inl (omega (arith, areas_longer, volumes_longer, curves_longer)))
      (λ l. inr (inl l))
      x)

  module _ {one : Book} (e : one ≡ after_lines.book) where
    areas_are : each (area_rule kind base) one (lists_of kind s b).areas ≡ after_areas
    areas_are = ap (λ (k : Book). each (area_rule kind base) k (lists_of kind s b).areas) e

    pub full_areas :
        let m = each (area_rule kind base) one (lists_of kind s b).areas in
        (room < length m.book) ⊎ (c.areas < length m.made) → Bursts room c went
    unfolding pass_by
    full_areas x =
        let q = areas_are in
        burst
        (⊎_elim
        (λ (l : room < length after_areas.book). inl (omega (arith, volumes_longer, curves_longer)))
        (λ l. inr (inr (inl l)))
        (subst (λ (m : Book.Made Element). (room < length m.book) ⊎ (c.areas < length m.made)) q x))

    module _ {two : Book} (f : two ≡ (each (area_rule kind base) one (lists_of kind s b).areas).book) where
      volumes_are : each (volume_rule kind base) two (lists_of kind s b).volumes ≡ after_volumes
      volumes_are =
          ap (λ (k : Book). each (volume_rule kind base) k (lists_of kind s b).volumes) (f ∙ ap (λ (m : Book.Made Element). m.book) areas_are)

      pub full_volumes :
          let m = each (volume_rule kind base) two (lists_of kind s b).volumes in
          (room < length m.book) ⊎ (c.volumes < length m.made) → Bursts room c went
      unfolding pass_by
      full_volumes x =
          let q = volumes_are in
          burst
          (⊎_elim
          (λ (l : room < length after_volumes.book). inl (omega (arith, curves_longer)))
          (λ l. inr (inr (inr (inl l))))
          (subst (λ (m : Book.Made Element). (room < length m.book) ⊎ (c.volumes < length m.made)) q x))

      module _ {three : Book} (g : three ≡ (each (volume_rule kind base) two (lists_of kind s b).volumes).book) {n : ℕ} (h : n ≡ s.curve_vertices) where
        -- the curves as the rule of curves reads them
        abbrev read : List Curve
        read = curves_of (first_of (curve_row b.curves) s.curves) (first_of (step_row b.steps) n)

        curves_are : each (curve kind base) three read ≡ after_curves
        curves_are =
            ap (λ (k : ℕ). each (curve kind base) three (curves_of (first_of (curve_row b.curves) s.curves) (first_of (step_row b.steps) k))) h
            ∙ ap (λ (k : Book). each (curve kind base) k (lists_of kind s b).curves) (g ∙ ap (λ (m : Book.Made Element). m.book) volumes_are)

        pub full_curves :
            let m = each (curve kind base) three read in
            (room < length m.book) ⊎ (c.curve_vertices < curve_vertices_of m.made) → Bursts room c went
        unfolding pass_by
        full_curves x =
            let q = curves_are in
            burst
            (⊎_elim
            (λ (l : room < length after_curves.book). inl l)
            (λ l. inr (inr (inr (inr l))))
            (subst (λ (m : Book.Made Curve). (room < length m.book) ⊎ (c.curve_vertices < curve_vertices_of m.made)) q x))

  -- ---- the whole

  pub whole :
      {new₁ after₁ new₂ after₂ new₃ after₃ new₄ after₄ new₅ after₅ book₁ book₂ book₃ book₄ words : List ℕ} {l a v n one two three all : ℕ}
      → curve_lengths (first_of (curve_row b.curves) s.curves) ≡ s.curve_vertices
      → Listed base room c.lines after_lines new₁ after₁ book₁ l one
      → Listed base room c.areas (each (area_rule kind base) (pairs_of book₁ one) (lists_of kind s b).areas) new₂ after₂ book₂ a two
      → Listed base room c.volumes (each (volume_rule kind base) (pairs_of book₂ two) (lists_of kind s b).volumes) new₃ after₃ book₃ v three
      → Wound base room c.curve_vertices (each (curve kind base) (pairs_of book₃ three) (curves_in b.curves b.steps s.curves)) new₄ after₄ new₅ after₅ book₄ n all
      → book₄ ≡ words
      → Made base room s c went (slices new₁ new₂ new₃ new₄ new₅) (slices after₁ after₂ after₃ after₄ after₅) words
      (record { vertices = base + all; points = s.points; lines = l; areas = a; volumes = v; curves = s.curves; curve_vertices = n })
      all
  unfolding pass_by
  whole {new₁} {after₁} {new₂} {after₂} {new₃} {after₃} {new₄} {after₄} {new₅} {after₅} {book₁} {book₂} {book₃} {book₄} {words} {l} {a} {v} {n} {one} {two} {three} {all} h L₁ L₂ L₃ L₄ same =
      let M₂ = subst (λ (m : Book.Made Element). Listed base room c.areas m new₂ after₂ book₂ a two) (areas_are L₁.entries) L₂ in
      let M₃ = subst (λ (m : Book.Made Element). Listed base room c.volumes m new₃ after₃ book₃ v three) (volumes_are L₁.entries L₂.entries) L₃ in
      let M₄ = subst (λ (m : Book.Made Curve). Wound base room c.curve_vertices m new₄ after₄ new₅ after₅ book₄ n all) (curves_are L₁.entries L₂.entries L₃.entries h) L₄ in
      let t : Sizes = record { vertices = base + all; points = s.points; lines = l; areas = a; volumes = v; curves = s.curves; curve_vertices = n } in
      subst (λ (w : Went). Made base room s c w (slices new₁ new₂ new₃ new₄ new₅) (slices after₁ after₂ after₃ after₄ after₅) words t all) (sym (pass_is kind base before))
      (record {
        ready = subst (Ready base room all) same M₄.ready;
        entries = ap (λ (k : List ℕ). pairs_of k all) (sym same) ∙ M₄.entries;
        counts =
            record {
              vertices = refl;
              points = refl;
              lines = L₁.counted;
              areas = M₂.counted;
              volumes = M₃.counted;
              curves = refl;
              steps = M₄.counted;
              line = L₁.within;
              area = M₂.within;
              volume = M₃.within;
              step = M₄.within;
            };
        wrote = record { lines = L₁.list; areas = M₂.list; volumes = M₃.list; curves = M₄.list; steps = M₄.strung };
      })

-- ---- what the rule of curves asks for

pub lengths_stand : (s : Sizes) {n m : ℕ} → n ≡ s.curve_vertices → 2 * s.curve_vertices ≤ m → 2 * n ≤ m
lengths_stand s e l = omega arith

pub curves_stand : (s c : Sizes) {m : ℕ} → s.curves ≤ c.curves → 2 * c.curves ≤ m → 2 * s.curves ≤ m
curves_stand s c l k = omega arith
