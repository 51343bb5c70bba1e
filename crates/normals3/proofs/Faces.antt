-- Triangles: what a triangle's normal is by its corners and its parity, and what it adds to each vertex.
-- Assumes nothing.
use mathlib.Core.Path.{◌≡◌, refl, sym, ◌∙◌, ap, ap₂, subst}
use mathlib.Core.Bool.{Bool, true, false, cond}
use mathlib.Core.List.{List, [], ◌∷◌}
use Prim.Native.Nat.{ℕ, ◌+◌, ◌*◌}
use native.Mathlib.Omega.{arith}
use lib.Ieee.{Float}
use lib.ListN.{get_or, take, drop}
use Rattle.numbers.specs.Points3 as Points3
use Rattle.numbers.specs.declared.vec3.Vec3.{Vec3}
use Rattle.geom.specs.declared.parity.Parity.{Parity}
use Rattle.geom.specs.Elements.{Element}
use Rattle.geom.specs.Floats as Floats
use Rattle.geom.specs.Memory.{element_row, element_of, parity_of}
use Rattle.geom.specs.Normals.{sign, to_corners, xyz, area_normal, three_corners}
use Rattle.vertices.specs.Cells.{point_row, vertices_of, Elements}
use Rattle.vertices.proofs.Gathering.{position_of}
use Rattle.normals.specs.Cells.{element_at, Below, Holds, vector_row}
use Rattle.normals.proofs.Adding.{three_words, corners_below}
use Rattle.normals3.specs.Cells.{area_step}

-- ---- a triangle's normal, from the positions of its corners

module _ (positions : List Float) (count : ℕ) (p : Parity) (marks : List ℕ) where
  pub area_is : (a b c : ℕ) → Below (a ∷ b ∷ c ∷ []) count → (v₁ v₂ v₃ d₁ d₂ n r : Vec3) (k : Float)
      → v₁ ≡ xyz (point_row positions a) → v₂ ≡ xyz (point_row positions b) → v₃ ≡ xyz (point_row positions c)
      → d₁ ≡ Points3.difference v₂ v₁ → d₂ ≡ Points3.difference v₃ v₂ → n ≡ Points3.cross d₁ d₂ → k ≡ sign p → r ≡ Points3.scaled k n
      → r ≡ area_normal (vertices_of positions marks count) (record { corners = a ∷ b ∷ c ∷ []; parity = p })
  unfolding area_normal
  area_is a b c t v₁ v₂ v₃ d₁ d₂ n r k e₁ e₂ e₃ f₁ f₂ en ek er =
      let x = e₁ ∙ ap xyz (sym (position_of Floats.binary32 positions marks count a (t.below 0 (omega arith)))) in
      let y = e₂ ∙ ap xyz (sym (position_of Floats.binary32 positions marks count b (t.below 1 (omega arith)))) in
      let z = e₃ ∙ ap xyz (sym (position_of Floats.binary32 positions marks count c (t.below 2 (omega arith)))) in
      er ∙ ap₂ Points3.scaled ek (en ∙ ap₂ Points3.cross (f₁ ∙ ap₂ Points3.difference y x) (f₂ ∙ ap₂ Points3.difference z y))

-- ---- the triangle that the words stand for

module _ (words : List ℕ) (i count : ℕ) where
  module _ (es : Elements words 3 (i + 1) count) (a b c : ℕ) (ea : a ≡ get_or words (4 * i) 0) (eb : b ≡ get_or words (4 * i + 1) 0) (ec : c ≡ get_or words (4 * i + 2) 0) where
    three_are : a ∷ b ∷ c ∷ [] ≡ take 3 (drop (4 * i) words)
    three_are = (λ j. ea j ∷ eb j ∷ ec j ∷ []) ∙ sym (three_words words (4 * i) (omega (arith, es.room)))

    pub three_below : Below (a ∷ b ∷ c ∷ []) count
    three_below = subst (λ (cs : List ℕ). Below cs count) (sym three_are) (corners_below words 3 (i + 1) count i es (omega arith))

    triangle_is : ◌≡◌ {A = Element} (record { corners = a ∷ b ∷ c ∷ []; parity = parity_of (get_or words (4 * i + 3) 0) }) (element_at 3 words i)
    unfolding element_row element_of
    triangle_is = λ j. record { corners = three_are j; parity = parity_of (get_or words (4 * i + 3) 0) }

    -- two corners are the same: nothing is added
    pub triangle_off : (r : Bool) → r ≡ three_corners (a ∷ b ∷ c ∷ []) → r ≡ false → (positions : List Float) (marks : List ℕ) (s : List Float)
        → Holds vector_row 3 count s (λ (u : ℕ). area_step (vertices_of positions marks count) (element_at 3 words i) u (vector_row s u)) s
    unfolding element_row element_of area_step
    triangle_off r t e positions marks s =
        let q : three_corners (take 3 (drop (4 * i) words)) ≡ false = sym (ap three_corners three_are) ∙ sym t ∙ e in
        let vertices = vertices_of positions marks count in
        let x = element_at 3 words i in
        record {
          rows = λ u h. sym (ap (λ (b : Bool). cond b (to_corners Points3.sum (area_normal vertices x) u x.corners (vector_row s u)) (vector_row s u)) q);
          rest = refl;
        }

    -- else its normal, to each corner
    pub triangle_on : (r : Bool) → r ≡ three_corners (a ∷ b ∷ c ∷ []) → r ≡ true → (positions : List Float) (n : Vec3)
        → ((marks : List ℕ) → n ≡ area_normal (vertices_of positions marks count) (record { corners = a ∷ b ∷ c ∷ []; parity = parity_of (get_or words (4 * i + 3) 0) }))
        → (s s' : List Float) → Holds vector_row 3 count s (λ (u : ℕ). to_corners Points3.sum n u (a ∷ b ∷ c ∷ []) (vector_row s u)) s'
        → (marks : List ℕ) → Holds vector_row 3 count s (λ (u : ℕ). area_step (vertices_of positions marks count) (element_at 3 words i) u (vector_row s u)) s'
    unfolding area_step
    triangle_on r t e positions n en s s' g marks =
        let vertices = vertices_of positions marks count in
        let x : Element = record { corners = a ∷ b ∷ c ∷ []; parity = parity_of (get_or words (4 * i + 3) 0) } in
        record {
          rows = λ u h.
              g.rows u h
              ∙ ap (λ (m : Vec3). to_corners Points3.sum m u (a ∷ b ∷ c ∷ []) (vector_row s u)) (en marks)
              ∙ sym (ap (λ (b : Bool). cond b (to_corners Points3.sum (area_normal vertices x) u x.corners (vector_row s u)) (vector_row s u)) (sym t ∙ e))
              ∙ ap (λ (y : Element). area_step vertices y u (vector_row s u)) triangle_is;
          rest = g.rest;
        }
