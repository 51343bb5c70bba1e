-- A pass leaves a mesh that can be written and read back: flags of four bits, elements with their corners, curves with one parity fewer than vertices.
-- Assumes nothing.
use mathlib.Core.Path.{◌≡◌, refl, sym, ◌∙◌, ap, subst}
use mathlib.Core.Bool.{Bool, true, false, cond}
use mathlib.Core.List.{List, [], ◌∷◌, map}
use Prim.Native.Nat.{ℕ, zero, suc, ◌+◌, ◌*◌, ◌-◌, ◌≤◌}
use native.Mathlib.Omega.{arith}
use lib.Bits.{and_le_l}
use lib.Dec.{T, eqb, leb→le, le→leb}
use lib.ListN.{length, take, drop, length-map}
use Rattle.geom.specs.declared.parity.Parity.{Parity}
use Rattle.geom.specs.Book.{Kind, cubes, simplices, Pair, Book, seek, book_or, each, place, mids}
use Rattle.geom.specs.Elements.{Curve, Lists}
use Rattle.geom.specs.Ledger.{face_shape, volume_shape}
use Rattle.geom.specs.Rules.{steps, between, doubled, curve_from, curve, pass_by, Went}
use Rattle.geom.specs.Passes.{pass}
use Rattle.geom.specs.Form.{Form}
use Rattle.geom.specs.Vertices.{midpoint_in, pair_in, vertex_in}
use Rattle.geom.specs.Smoothing.{GatheredIn, moved_in, settled_in, settled_from_in, smoothed_in, with_midpoints_in, gathered_in}
use Rattle.geom.specs.Memory.{CurveRow, StepRow, step_words, curves_of, parity_of, area_corners, volume_corners}
use Rattle.geom.specs.Refusals.{good_flags}
use Rattle.geom.specs.Refinement.{StateIn, pass_over, went}
use Rattle.geom.specs.Between.{All, Proper, IsArea, IsVolume, Good}
use Rattle.geom.proofs.Lists.{all_map, all_append, all_of_map, all_each, true_is}
use Rattle.geom.proofs.Back.{Stepped}
use Rattle.geom.proofs.Well.{pass_is, pass_good}
use Rattle.geom.proofs.Standing.{FlaggedIn, Formed}

-- ---- flags

below_flags : (n : ℕ) → n ≤ 15 → good_flags n ≡ true
unfolding good_flags
below_flags n l = true_is _ (le→leb n 15 l)

flags_below : (n : ℕ) → good_flags n ≡ true → n ≤ 15
unfolding good_flags
flags_below n e = leb→le n 15 (subst T (sym e) tt)

module _ (F : Form) where
  some_flagged : (vs : List F.Vertex) (i : ℕ) → All (FlaggedIn F) vs → FlaggedIn F (vertex_in F vs i)
  some_flagged [] i a = ap good_flags (F.parts_of F.origin 0 0 0).1 ∙ below_flags 0 (omega arith)
  some_flagged (v ∷ vs) zero a = a.0
  some_flagged (v ∷ vs) (suc i) a = some_flagged vs i a.1

  -- a midpoint's flags are those that both ends have
  pair_flagged : (vs : List F.Vertex) (q : Pair) → All (FlaggedIn F) vs → FlaggedIn F (pair_in F vs q)
  unfolding pair_in midpoint_in
  pair_flagged vs q a =
      let x = vertex_in F vs q.first in
      let y = vertex_in F vs q.second in
      ap good_flags (F.parts_of _ _ _ _).1
      ∙ below_flags _ (omega (arith, and_le_l (F.flags x) (F.flags y), flags_below (F.flags x) (some_flagged vs q.first a)))

  -- smoothing leaves flags alone
  settled_flagged : (time : Bool) (v : F.Vertex) (g : GatheredIn F) → FlaggedIn F v → FlaggedIn F (settled_in F time v g)
  unfolding settled_in
  settled_flagged time v g a = go (eqb g.count 0)
    where
      go : (b : Bool) → FlaggedIn F (cond b v (F.vertex (moved_in F time v (F.mean g.sum g.count)) (F.flags v) (F.tag v) (F.k v)))
      go true = a
      go false = ap good_flags (F.parts_of _ _ _ _).1 ∙ a

  pub flags_kept :
      (kind : Kind) (time : Bool) (l : Lists) (vs : List F.Vertex) (new : Book) → All (FlaggedIn F) vs
      → All (FlaggedIn F) (smoothed_in F kind time l (with_midpoints_in F vs new))
  unfolding smoothed_in settled_from_in with_midpoints_in
  flags_kept kind time l vs new a =
      let all = with_midpoints_in F vs new in
      go all 0 all (all_append (FlaggedIn F) vs (map (pair_in F vs) new) a (all_of_map (FlaggedIn F) (pair_in F vs) new (all_each (λ (q : Pair). pair_flagged vs q a) new)))
    where
      go : (us : List F.Vertex) (n : ℕ) (xs : List F.Vertex) → All (FlaggedIn F) xs → All (FlaggedIn F) (settled_from_in F kind time l us n xs)
      go us n [] f = tt
      go us n (x ∷ xs) f = (settled_flagged time x (gathered_in F kind l us n) f.0, go us (suc n) xs f.1)

-- ---- a curve's parities

length_mids : (kind : Kind) (base : ℕ) (qs : List Pair) (book : Book) → length (mids kind base book qs).made ≡ length qs
unfolding mids each place
length_mids kind base [] book = refl
length_mids kind base (q ∷ qs) book = ap suc (length_mids kind base qs (book_or book q (seek kind base book q)))

length_doubled : (ps : List Parity) → length (doubled ps) ≡ 2 * length ps
unfolding doubled
length_doubled [] = refl
length_doubled (p ∷ ps) = omega (arith, length_doubled ps)

pub length_between : (ms ws : List ℕ) → length ms ≡ length ws → length (between ms ws) ≡ 2 * length ws
unfolding between
length_between [] [] l = refl
length_between [] (w ∷ ws) l = absurd (omega arith)
length_between (v ∷ ms) [] l = absurd (omega arith)
length_between (v ∷ ms) (w ∷ ws) l = omega (arith, length_between ms ws (omega arith))

length_steps : (u : ℕ) (ws : List ℕ) (ps : List Parity) → length ps ≡ length ws → length (steps u ws ps) ≡ length ws
unfolding steps
length_steps u [] [] l = refl
length_steps u [] (p ∷ ps) l = absurd (omega arith)
length_steps u (w ∷ ws) [] l = absurd (omega arith)
length_steps u (w ∷ ws) (p ∷ ps) l = omega (arith, length_steps w ws ps (omega arith))

module _ (kind : Kind) (base : ℕ) where
  curve_stepped : (book : Book) (c : Curve) → Stepped c → All Stepped (curve kind base book c).made
  unfolding curve
  curve_stepped book c s = go c.vertices refl
    where
      go : (vs : List ℕ) → c.vertices ≡ vs → All Stepped (curve_from kind base book c vs).made
      go [] e = (s, tt)
      go (u ∷ ws) e =
          let n : length c.parities ≡ length ws = omega (arith, s, ap length e) in
          let qs = steps u ws c.parities in
          let m : length (mids kind base book qs).made ≡ length ws = length_mids kind base qs book ∙ length_steps u ws c.parities n in
          (omega (arith, length_doubled c.parities, length_between (mids kind base book qs).made ws m), tt)

  curves_stepped : (cs : List Curve) (book : Book) → All Stepped cs → All Stepped (each (curve kind base) book cs).made
  unfolding each
  curves_stepped [] book a = tt
  curves_stepped (c ∷ cs) book a =
      let next = (curve kind base book c).book in
      all_append Stepped (curve kind base book c).made (each (curve kind base) next cs).made (curve_stepped book c a.0) (curves_stepped cs next a.1)

length_words : (rs : List StepRow) → length (step_words rs) ≡ length rs - 1
unfolding step_words
length_words [] = refl
length_words (r ∷ []) = refl
length_words (r ∷ s ∷ rs) = omega (arith, length_words (s ∷ rs))

-- the curves of any rows
pub rows_stepped : (cs : List CurveRow) (rs : List StepRow) → All Stepped (curves_of cs rs)
unfolding curves_of
rows_stepped [] rs = tt
rows_stepped (c ∷ cs) rs =
    let part = take c.count rs in (
      length-map (step_words part) parity_of ∙ length_words part ∙ ap (λ (n : ℕ). n - 1) (sym (length-map part (λ (r : StepRow). r.vertex))),
      rows_stepped cs (drop c.count rs),
    )

-- ---- a pass

pub face_corners : (kind : Kind) → (face_shape kind).count ≡ area_corners kind
face_corners cubes = refl
face_corners simplices = refl

pub volume_corners_lem : (kind : Kind) → (volume_shape kind).count ≡ volume_corners kind
volume_corners_lem cubes = refl
volume_corners_lem simplices = refl

pub formed :
    {F : Form} (kind : Kind) (time : Bool) (base : ℕ) (s : StateIn F) → Good kind base (went s) → All (FlaggedIn F) s.mesh.vertices → All Stepped s.mesh.lists.curves
    → Formed kind (pass_over kind time base s).mesh
unfolding pass_over pass_by
formed {F} kind time base s good flags curves =
    let w = (pass_good kind base (went s) good).well in
    let after = (pass kind base (went s)).lists in
    let n = base + length (pass kind base (went s)).book in
    record {
      flags = flags_kept F kind time _ s.mesh.vertices _ flags;
      lines = all_map (λ x (p : Proper n 2 x). p.long) after.lines w.lines;
      areas = all_map (λ x (p : IsArea kind n x). p.long ∙ face_corners kind) after.areas w.areas;
      volumes = all_map (λ x (p : IsVolume kind n x). p.long ∙ volume_corners_lem kind) after.volumes w.volumes;
      curves = stepped;
    }
  where
    stepped : All Stepped (pass kind base (went s)).lists.curves
    stepped =
        subst (λ (x : Went). All Stepped x.lists.curves) (sym (pass_is kind base (went s))) (curves_stepped kind base s.mesh.lists.curves _ curves)
