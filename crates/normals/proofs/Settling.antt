-- Each vertex's sum normalised in place; and the three loops together: cleared, gathered, normalised.
-- Assumes nothing.
use mathlib.Core.Path.{◌≡◌, refl, sym, ◌∙◌, ap, ap₂}
use mathlib.Core.List.{List, ◌++◌, flat_map}
use Prim.Native.Nat.{ℕ, ◌+◌, ◌*◌, ◌≤◌, ◌<◌}
use native.Mathlib.Nat.{mul-suc, mul-le-mul_left}
use native.Mathlib.Omega.{arith}
use lib.Ieee.{Float}
use lib.ListN.{length, drop}
use lib.Seq.{sets, length-sets}
use Rattle.geom.specs.Memory.{first_of, over}
use Rattle.geom.proofs.Rows.{length_first_of, first_of_same}
use Rattle.vertices.proofs.Written.{laid_on, laid_over, length_flat}
use Rattle.normals.specs.Cells.{Cleared, Holds, Reads}

-- what is written for a case of the enum is written for the normal that is that case
pub written_as : {B : Type 0} (cells : B → List Float) (before : List Float) (k : ℕ) {n case : B} {after : List Float} → n ≡ case → after ≡ sets before k (cells case) → after ≡ sets before k (cells n)
written_as cells before k e w = rw e w

module _ {A B : Type 0} {row : List Float → ℕ → A} {words : A → List Float} {width : ℕ} {origin : A} (r : Reads row words width origin)
    (cells : B → List Float) (wide : (b : B) → length (cells b) ≡ width) (normalised : A → B) (count : ℕ) where
  -- the normals of the sums that the cells hold
  abbrev of : List Float → ℕ → B
  of held i = normalised (row held i)

  pub record Settling (held now : List Float) (i : ℕ) : Type 0 where
    pub written : now ≡ sets held (width * 0) (flat_map cells (first_of (of held) i))

  pub settling_start : (held : List Float) → Settling held held 0
  unfolding first_of flat_map
  settling_start held = record { written = refl }

  module _ (held now : List Float) (i : ℕ) (s : Settling held now i) where
    pub settling_length : length now ≡ length held
    settling_length = ap length s.written ∙ length-sets held (width * 0) (flat_map cells (first_of (of held) i))

    -- row i lies within the cells
    pub settling_room : i < count → width * count ≤ length held → width * i + width ≤ length now
    settling_room h room = omega (arith, settling_length, mul-suc width i, mul-le-mul_left width h)

    -- row i still holds what it held
    same : row now i ≡ row held i
    same =
        ap (λ (l : List Float). row l i) s.written
        ∙ r.past held (flat_map cells (first_of (of held) i)) (width * 0) i
        (omega (arith, length_flat cells width wide (first_of (of held) i), ap (λ (k : ℕ). width * k) (length_first_of (of held) i)))

    pub settling_on : i < count → (sum : A) (n : B) (now' : List Float) → sum ≡ row now i → n ≡ normalised sum → now' ≡ sets now (width * i) (cells n)
        → Settling held now' (i + 1)
    settling_on h sum n now' es en e =
        let z : i ≡ 0 + i = omega arith in
        record {
          written =
              e
              ∙ ap₂ (λ (k : ℕ) (b : B). sets now (width * k) (cells b)) z (en ∙ ap normalised (es ∙ same))
              ∙ laid_on cells width wide held now (of held) 0 i s.written;
        }

    pub settling_done : i ≤ count → count ≤ i → width * count ≤ length held → now ≡ over held (flat_map cells (first_of (of held) count))
    settling_done end h room =
        let e : i ≡ count = omega arith in
        (rw e at s.written) ∙ laid_over cells width wide held (of held) count room

  -- cleared, gathered and normalised: the normals of what each vertex gathers from the origin on, over what the lent words were
  pub shaded : (gathered : ℕ → A → A) (out s₁ s₂ s₃ : List Float) → Cleared out (width * count) s₁
      → Holds row width count s₁ (λ (u : ℕ). gathered u (row s₁ u)) s₂
      → s₃ ≡ over s₂ (flat_map cells (first_of (of s₂) count))
      → s₃ ≡ over out (flat_map cells (first_of (λ (u : ℕ). normalised (gathered u origin)) count))
  unfolding over
  shaded gathered out s₁ s₂ s₃ c g e =
      let at : ℕ → B = λ u. normalised (gathered u origin) in
      let ns = flat_map cells (first_of at count) in
      let same : first_of (of s₂) count ≡ first_of at count =
      first_of_same (of s₂) at count (λ u h. ap normalised (g.rows u h ∙ ap (gathered u) (r.cleared s₁ count c.clear u h)))
      in
      let l : length ns ≡ width * count = length_flat cells width wide (first_of at count) ∙ ap (λ (k : ℕ). width * k) (length_first_of at count) in
      e
      ∙ ap (λ (xs : List B). over s₂ (flat_map cells xs)) same
      ∙ ap (λ (k : ℕ). ns ++ drop k s₂) l
      ∙ ap (λ (rest : List Float). ns ++ rest) (g.rest ∙ c.rest)
      ∙ ap (λ (k : ℕ). ns ++ drop k out) (sym l)
