-- Tetrahedra: what a tetrahedron's normal is by its corners and its parity, its minors four at once, and what it adds to each vertex.
-- Assumes nothing.
use mathlib.Core.Path.{◌≡◌, refl, sym, ◌∙◌, ap, ap₂, subst}
use mathlib.Core.List.{List, [], ◌∷◌, ◌++◌}
use Prim.Native.Nat.{ℕ, ◌+◌, ◌*◌, ◌≤◌}
use native.Mathlib.Omega.{arith}
use lib.Ieee.{Float, add, sub, sum, neg, round, units, odd, binary32}
use lib.ListN.{length, get_or, take, drop}
use Rattle.numbers.proofs.Products.{sign_moves}
use Rattle.numbers.specs.Binary32 as Binary32
use Rattle.numbers.specs.Binary32.{◌⊖◌, ◌⊗◌}
use Rattle.numbers.specs.Points3 as Points3
use Rattle.numbers.specs.Points4 as Points4
use Rattle.numbers.specs.declared.vec4.Vec4.{Vec4}
use Rattle.geom.specs.declared.parity.Parity.{Parity}
use Rattle.geom.specs.declared.parity.Parity.TheVariants.{Even, Odd}
use Rattle.geom.specs.Elements.{Element}
use Rattle.geom.specs.Floats as Floats
use Rattle.geom.specs.Floats.{points4}
use Rattle.geom.specs.Memory.{element_row, element_of, parity_of}
use Rattle.geom.specs.Normals.{sign, to_corners, axis, volume_normal}
use Rattle.geom.proofs.Signs.{sign_even, sign_odd}
use Rattle.vertices.specs.Cells.{point_row, vertices_of, Elements}
use Rattle.vertices.proofs.Gathering.{part_more, position_of}
use Rattle.normals.specs.Cells.{element_at, Below, Holds}
use Rattle.normals.proofs.Adding.{three_words, corners_below}
use Rattle.normals4.specs.Cells.{products, first_axes, second_axes, third_axes, cross_products, minors_of, signs_of, volume_step}

-- ---- the minors, four at once

-- the determinants of three axes each, worked out together
pub minors_are : (a b c a₁ a₂ a₃ b₁ b₂ b₃ c₁ c₂ c₃ m₁ m₂ m₃ f₁ f₂ f₃ d r : Vec4)
    → b₁ ≡ first_axes b → b₂ ≡ second_axes b → b₃ ≡ third_axes b → c₁ ≡ first_axes c → c₂ ≡ second_axes c → c₃ ≡ third_axes c
    → a₁ ≡ first_axes a → m₁ ≡ cross_products b₂ b₃ c₂ c₃ → f₁ ≡ products a₁ m₁
    → a₂ ≡ second_axes a → m₂ ≡ cross_products b₁ b₃ c₁ c₃ → f₂ ≡ products a₂ m₂
    → a₃ ≡ third_axes a → m₃ ≡ cross_products b₁ b₂ c₁ c₂ → f₃ ≡ products a₃ m₃
    → d ≡ Points4.difference f₁ f₂ → r ≡ Points4.sum d f₃ → r ≡ minors_of a b c
unfolding minors_of axis Points3.determinant Points4.difference Points4.sum
minors_are a b c a₁ a₂ a₃ b₁ b₂ b₃ c₁ c₂ c₃ m₁ m₂ m₃ f₁ f₂ f₃ d r eb₁ eb₂ eb₃ ec₁ ec₂ ec₃ ea₁ em₁ ef₁ ea₂ em₂ ef₂ ea₃ em₃ ef₃ ed er =
    let first = ef₁ ∙ ap₂ products ea₁ (em₁ ∙ (λ i. cross_products (eb₂ i) (eb₃ i) (ec₂ i) (ec₃ i))) in
    let second = ef₂ ∙ ap₂ products ea₂ (em₂ ∙ (λ i. cross_products (eb₁ i) (eb₃ i) (ec₁ i) (ec₃ i))) in
    let third = ef₃ ∙ ap₂ products ea₃ (em₃ ∙ (λ i. cross_products (eb₁ i) (eb₂ i) (ec₁ i) (ec₂ i))) in
    er ∙ ap₂ Points4.sum (ed ∙ ap₂ Points4.difference first second) third

-- 0 - s for -s, of a sign
pub from_none : (p : Parity) → Binary32.zero ⊖ sign p ≡ neg (sign p)
from_none Even = rw sign_even (unfold neg add sub sum round units odd in refl)
from_none Odd = rw sign_odd (unfold neg add sub sum round units odd in refl)

-- the minors times their signs, each times the sign by parity, are the sign by parity times the signed minors
signed : (p : Parity) (n : Vec4) → products (signs_of p) n ≡ Points4.scaled (sign p) (record { x = neg n.x; y = n.y; z = neg n.z; w = n.w })
unfolding Points4.scaled
signed p n =
    λ i. record { x = sign_moves binary32 (sign p) n.x i; y = sign p ⊗ n.y; z = sign_moves binary32 (sign p) n.z i; w = sign p ⊗ n.w }

-- ---- a tetrahedron's normal, from the positions of its corners

module _ (positions : List Float) (count : ℕ) (p : Parity) (marks : List ℕ) where
  pub volume_is : (a b c d : ℕ) → Below (a ∷ b ∷ c ∷ d ∷ []) count → (o v₁ v₂ v₃ d₁ d₂ d₃ n k r : Vec4)
      → o ≡ point_row positions a → v₁ ≡ point_row positions b → v₂ ≡ point_row positions c → v₃ ≡ point_row positions d
      → d₁ ≡ Points4.difference v₁ o → d₂ ≡ Points4.difference v₂ o → d₃ ≡ Points4.difference v₃ o
      → n ≡ minors_of d₁ d₂ d₃ → k ≡ signs_of p → r ≡ products k n
      → r ≡ volume_normal (vertices_of positions marks count) (record { corners = a ∷ b ∷ c ∷ d ∷ []; parity = p })
  unfolding volume_normal minors_of
  volume_is a b c d t o v₁ v₂ v₃ d₁ d₂ d₃ n k r eo e₁ e₂ e₃ f₁ f₂ f₃ en ek er =
      let w = eo ∙ sym (position_of Floats.binary32 positions marks count a (t.below 0 (omega arith))) in
      let x = f₁ ∙ ap₂ Points4.difference (e₁ ∙ sym (position_of Floats.binary32 positions marks count b (t.below 1 (omega arith)))) w in
      let y = f₂ ∙ ap₂ Points4.difference (e₂ ∙ sym (position_of Floats.binary32 positions marks count c (t.below 2 (omega arith)))) w in
      let z = f₃ ∙ ap₂ Points4.difference (e₃ ∙ sym (position_of Floats.binary32 positions marks count d (t.below 3 (omega arith)))) w in
      er ∙ ap₂ products ek (en ∙ (λ i. minors_of (x i) (y i) (z i))) ∙ signed p (minors_of _ _ _)

-- ---- the tetrahedron that the words stand for

four_words_lem : (words : List ℕ) (s : ℕ) → s + 4 ≤ length words
    → take 4 (drop s words) ≡ get_or words s 0 ∷ get_or words (s + 1) 0 ∷ get_or words (s + 2) 0 ∷ get_or words (s + 3) 0 ∷ []
four_words_lem words s h =
    part_more words s 3 (omega arith) ∙ ap (λ (l : List ℕ). l ++ get_or words (s + 3) 0 ∷ []) (three_words words s (omega arith))

module _ (words : List ℕ) (i count : ℕ) where
  module _ (es : Elements words 4 (i + 1) count) (a b c d : ℕ) (ea : a ≡ get_or words (5 * i) 0) (eb : b ≡ get_or words (5 * i + 1) 0)
      (ec : c ≡ get_or words (5 * i + 2) 0) (ed : d ≡ get_or words (5 * i + 3) 0) where
    four_are : a ∷ b ∷ c ∷ d ∷ [] ≡ take 4 (drop (5 * i) words)
    four_are = (λ j. ea j ∷ eb j ∷ ec j ∷ ed j ∷ []) ∙ sym (four_words_lem words (5 * i) (omega (arith, es.room)))

    pub four_below : Below (a ∷ b ∷ c ∷ d ∷ []) count
    four_below = subst (λ (cs : List ℕ). Below cs count) (sym four_are) (corners_below words 4 (i + 1) count i es (omega arith))

    tetrahedron_is : ◌≡◌ {A = Element} (record { corners = a ∷ b ∷ c ∷ d ∷ []; parity = parity_of (get_or words (5 * i + 4) 0) }) (element_at 4 words i)
    unfolding element_row element_of
    tetrahedron_is = λ j. record { corners = four_are j; parity = parity_of (get_or words (5 * i + 4) 0) }

    pub tetrahedron_on : (positions : List Float) (n : Vec4)
        → ((marks : List ℕ) → n ≡ volume_normal (vertices_of positions marks count) (record { corners = a ∷ b ∷ c ∷ d ∷ []; parity = parity_of (get_or words (5 * i + 4) 0) }))
        → (s s' : List Float) → Holds point_row 4 count s (λ (u : ℕ). to_corners Points4.sum n u (a ∷ b ∷ c ∷ d ∷ []) (point_row s u)) s'
        → (marks : List ℕ) → Holds point_row 4 count s (λ (u : ℕ). volume_step (vertices_of positions marks count) (element_at 4 words i) u (point_row s u)) s'
    unfolding volume_step
    tetrahedron_on positions n en s s' g marks =
        let vertices = vertices_of positions marks count in
        record {
          rows = λ u h.
              g.rows u h
              ∙ ap (λ (m : Vec4). to_corners Points4.sum m u (a ∷ b ∷ c ∷ d ∷ []) (point_row s u)) (en marks)
              ∙ ap (λ (y : Element). volume_step vertices y u (point_row s u)) tetrahedron_is;
          rest = g.rest;
        }
