-- Curves, one after the other: the places where they begin, how many vertices they have, and what the loop that judges them knows.
-- Assumes nothing.
use mathlib.Core.Path.{◌≡◌, refl, sym, ◌∙◌, ap}
use mathlib.Core.Logic.{◌⊎◌, inl, inr}
use mathlib.Core.List.{List, [], ◌∷◌, ◌++◌}
use Prim.Native.Nat.{ℕ, zero, suc, ◌+◌, ◌*◌, ◌≤◌, ◌<◌}
use native.Mathlib.Nat.{eq-or-lt_of_le, add-zero, add_assoc}
use native.Mathlib.Numerals.{add-one}
use native.Mathlib.Omega.{arith}
use lib.ListN.{length, drop}
use Rattle.geom.specs.Elements.{Curve}
use Rattle.geom.specs.Mesh.{curve_vertices_of}
use Rattle.geom.specs.Refinement.{LIMIT}
use Rattle.geom.specs.Memory.{first_of}
use Rattle.geom.specs.File.{Read, Reader, read, stop, and_then, ◌>>=◌, done, curve, curves}
use Rattle.geom.proofs.Rows.{length_first_of}
use Rattle.fields.specs.Fields.{word_at, curve_at, curve_place, curves_at, Reads, Wound}

-- ---- curves, the last read last

module _ (count lent : ℕ) where
  abbrev before : Curve → List Curve → Reader (List Curve)
  before c cs = done (c ∷ cs)

  abbrev onward : ℕ → List Curve → Reader (List Curve)
  onward some cs = ◌>>=◌ (curve count lent (some + curve_vertices_of cs)) (λ (c : Curve). done (cs ++ c ∷ []))

  last : (x : Curve) (xs : List Curve) (q : Read Curve) → and_then (and_then q (λ (y : Curve). done (xs ++ y ∷ []))) (before x) ≡ and_then q (λ (y : Curve). done (x ∷ xs ++ y ∷ []))
  last x xs (read y b) = refl
  last x xs (stop n) = refl

  middle : (some : ℕ) (x : Curve) (p : Read (List Curve)) → and_then (and_then p (onward (some + length x.vertices))) (before x) ≡ and_then (and_then p (before x)) (onward some)
  unfolding curve_vertices_of
  middle some x (read xs b) =
      last x xs (curve count lent (some + length x.vertices + curve_vertices_of xs) b)
      ∙ ap (λ (k : ℕ). and_then (curve count lent k b) (λ (y : Curve). done (x ∷ xs ++ y ∷ []))) (add_assoc some (length x.vertices) (curve_vertices_of xs))
  middle some x (stop n) = refl

  curves_snoc : (n some : ℕ) (bytes : List ℕ) → curves count lent (suc n) some bytes ≡ and_then (curves count lent n some bytes) (onward some)
  unfolding curves curve_vertices_of
  curves_snoc zero some bytes = ap (λ (k : ℕ). and_then (curve count lent k bytes) (λ (y : Curve). done (y ∷ []))) (sym (add-zero some))
  curves_snoc (suc n) some bytes = first (curves_snoc n) (curve count lent some bytes)
    where
      first : ((some : ℕ) (b : List ℕ) → curves count lent (suc n) some b ≡ and_then (curves count lent n some b) (onward some)) → (q : Read Curve)
          → and_then q (λ (x : Curve). ◌>>=◌ (curves count lent (suc n) (some + length x.vertices)) (before x))
          ≡ and_then (and_then q (λ (x : Curve). ◌>>=◌ (curves count lent n (some + length x.vertices)) (before x))) (onward some)
      first rest (read x b) =
          ap (λ (p : Read (List Curve)). and_then p (before x)) (rest (some + length x.vertices) b)
          ∙ middle some x (curves count lent n (some + length x.vertices) b)
      first rest (stop k) = refl

  -- stopped, whatever was to be read behind
  off : (i n k some : ℕ) (bytes : List ℕ) → curves count lent (suc i) some bytes ≡ stop k → i < n → curves count lent n some bytes ≡ stop k
  off i zero k some bytes e h = absurd (omega arith)
  off i (suc n) k some bytes e h = go (off i n k some bytes e) (eq-or-lt_of_le {n = i} {m = n} (omega arith))
    where
      go : (i < n → curves count lent n some bytes ≡ stop k) → (i ≡ n) ⊎ (i < n) → curves count lent (suc n) some bytes ≡ stop k
      go rest (inl q) = rw (← q) e
      go rest (inr l) = curves_snoc n some bytes ∙ rw (rest l) refl

pub vertices_snoc : (cs : List Curve) (c : Curve) → curve_vertices_of (cs ++ c ∷ []) ≡ curve_vertices_of cs + length c.vertices
unfolding curve_vertices_of
vertices_snoc [] c = omega arith
vertices_snoc (d ∷ cs) c = omega (arith, vertices_snoc cs c)

pub vertex_count : (bytes : List ℕ) (p : ℕ) → length (curve_at bytes p).vertices ≡ word_at bytes (p + 4)
unfolding curve_at
vertex_count bytes p = length_first_of (λ (i : ℕ). word_at bytes (p + 8 + 4 * i)) (word_at bytes (p + 4))

-- what holds below i, and of i
below_suc : (P : ℕ → Type 0) (i : ℕ) → ((j : ℕ) → j < i → P j) → P i → (j : ℕ) → j < suc i → P j
below_suc P i f p j h = go (eq-or-lt_of_le {n = j} {m = i} (omega arith))
  where
    go : (j ≡ i) ⊎ (j < i) → P j
    go (inl e) = rw e p
    go (inr l) = f j l

-- ---- the loop

-- the first i curves were read; the next begins at `from`
pub record Winding (bytes : List ℕ) (at n count lent from total i : ℕ) : Type 0 where
  pub place : from ≡ curve_place bytes at i
  pub sum : total ≡ curve_vertices_of (curves_at bytes at i)
  pub reads : Reads bytes at from (curves_at bytes at i) (curves count lent i 0)
  pub end : from ≡ at + (5 * total + 7 * i)
  pub some : (j : ℕ) → j < i → 0 < word_at bytes (curve_place bytes at j + 4)
  pub room : total ≤ lent
  pub few : total ≤ LIMIT

module _ (bytes : List ℕ) (at n count lent : ℕ) where
  pub winding_start : at ≤ length bytes → Winding bytes at n count lent at 0 0
  unfolding curves curve_place first_of curve_vertices_of
  winding_start h =
      record {
        place = refl;
        sum = refl;
        reads = record { reads = refl; stands = h };
        end = omega arith;
        some = λ j l. absurd (omega arith);
        room = omega arith;
        few = omega arith;
      }

  module _ (from total i : ℕ) (w : Winding bytes at n count lent from total i) where
    next : curves count lent (suc i) 0 (drop at bytes) ≡ and_then (curve count lent total (drop from bytes)) (λ (c : Curve). done (curves_at bytes at i ++ c ∷ []))
    next =
        let z : 0 + curve_vertices_of (curves_at bytes at i) ≡ total = omega (arith, w.sum) in
        curves_snoc count lent i 0 (drop at bytes) ∙ rw (w.reads.reads, z) refl

    pub winding_off : (k : ℕ) → i < n → curve count lent total (drop from bytes) ≡ stop k → curves count lent n 0 (drop at bytes) ≡ stop k
    winding_off k h e = off count lent i n k 0 (drop at bytes) (next ∙ rw e refl) h

    pub winding_on : (v : ℕ) → i < n → Wound bytes from count lent total v → Winding bytes at n count lent (from + (5 * v + 7)) (total + v) (i + 1)
    unfolding curve_place first_of
    winding_on v h s =
        let e : curve_at bytes from ≡ curve_at bytes (curve_place bytes at i) = ap (curve_at bytes) w.place in
        let m : length (curve_at bytes (curve_place bytes at i)).vertices ≡ v = vertex_count bytes (curve_place bytes at i) ∙ sym (s.value ∙ ap (λ (p : ℕ). word_at bytes (p + 4)) w.place) in
        rw (add-one i)
        (record {
          place = rw (← w.place, ← s.value) refl;
          sum = omega (arith, w.sum, vertices_snoc (curves_at bytes at i) (curve_at bytes (curve_place bytes at i)), m);
          reads = record { reads = next ∙ rw (s.reads.reads, e) refl; stands = s.reads.stands };
          end = omega (arith, w.end);
          some = below_suc (λ (j : ℕ). 0 < word_at bytes (curve_place bytes at j + 4)) i w.some (rw (← w.place, ← s.value) s.some);
          room = s.room;
          few = s.few;
        })
