-- Simplices: the pieces tell what was divided. Corner i of piece i is corner i of the element, and the first piece has its parity.
-- Assumes nothing.
use mathlib.Core.Path.{◌≡◌, refl, sym, ◌∙◌, ap, ap₂}
use mathlib.Core.List.{List, [], ◌∷◌}
use Prim.Native.Nat.{ℕ, zero, suc}
use native.Mathlib.Omega.{arith}
use lib.ListN.{length, take, drop, length-append}
use lib.Seq.{take_at, drop_at}
use Rattle.geom.specs.declared.parity.Parity.{Parity}
use Rattle.geom.specs.declared.parity.Parity.TheVariants.{Even}
use Rattle.geom.specs.Book.{simplices, Book, each}
use Rattle.geom.specs.Elements.{Element, Lists, Shape, point_at, pick, flat, pieces, assemble}
use Rattle.geom.specs.Rules.{divide, pass_by}
use Rattle.geom.specs.Simplices.{TRIANGLE, TETRAHEDRON, triangle, tetrahedron, simplex_pass}
use Rattle.geom.specs.Passes.{passes}
use Rattle.geom.specs.Between.{All, Proper, Well}
use Rattle.geom.proofs.Lists.{spelled}
use Rattle.geom.proofs.Steps.{passes_good}

-- corner i of the first piece, corner i + 1 of the second, and so on, k of them
corners_back : ℕ → ℕ → List Element → List ℕ
corners_back i zero es = []
corners_back i (suc k) [] = []
corners_back i (suc k) (e ∷ es) = point_at e.corners i ∷ corners_back (suc i) k es

parity_back : List Element → Parity
parity_back [] = Even
parity_back (e ∷ es) = e.parity

-- what was divided
abbrev regain : ℕ → List Element → Element
regain k es = record { corners = corners_back 0 k es; parity = parity_back es }

-- a shape whose pieces tell what was divided
record Telling (shape : Shape) (k : ℕ) : Type 0 where
  many : (p : Parity) (corners middles : List ℕ) → length (assemble shape p corners middles) ≡ suc k
  tells :
      (e : Element) (middles : List ℕ) → length e.corners ≡ shape.count
      → regain shape.count (assemble shape e.parity e.corners middles) ≡ e

triangle_tells : Telling TRIANGLE 3
unfolding assemble pieces flat pick corners_back parity_back
triangle_tells =
    record {
      many = λ p corners middles. refl;
      tells = λ e middles l.
          let s = spelled 3 e.corners l in
          ap (λ (c : List ℕ). regain 3 (assemble TRIANGLE e.parity c middles)) s
          ∙ ap (λ (c : List ℕ). record { corners = c; parity = e.parity }) (sym s);
    }

tetrahedron_tells : Telling TETRAHEDRON 7
unfolding assemble pieces flat pick corners_back parity_back
tetrahedron_tells =
    record {
      many = λ p corners middles. refl;
      tells = λ e middles l.
          let s = spelled 4 e.corners l in
          ap (λ (c : List ℕ). regain 4 (assemble TETRAHEDRON e.parity c middles)) s
          ∙ ap (λ (c : List ℕ). record { corners = c; parity = e.parity }) (sym s);
    }

-- lists whose pieces are equal are equal, whatever the vertex counts and the books
blocks :
    (shape : Shape) (k : ℕ) → Telling shape k → (b₁ b₂ n₁ n₂ : ℕ) (xs ys : List Element) → All (Proper n₁ shape.count) xs
    → All (Proper n₂ shape.count) ys → (book₁ book₂ : Book)
    → (each (divide simplices shape b₁) book₁ xs).made ≡ (each (divide simplices shape b₂) book₂ ys).made → xs ≡ ys
unfolding each divide
blocks shape k t b₁ b₂ n₁ n₂ [] [] f g book₁ book₂ e = refl
blocks shape k t b₁ b₂ n₁ n₂ [] (y ∷ ys) f g book₁ book₂ e =
    let m = divide simplices shape b₂ book₂ y in
    let l : length m.made ≡ suc k = t.many y.parity y.corners _ in
    absurd (omega (arith, ap length e, length-append m.made (each (divide simplices shape b₂) m.book ys).made))
blocks shape k t b₁ b₂ n₁ n₂ (x ∷ xs) [] f g book₁ book₂ e =
    let m = divide simplices shape b₁ book₁ x in
    let l : length m.made ≡ suc k = t.many x.parity x.corners _ in
    absurd (omega (arith, ap length e, length-append m.made (each (divide simplices shape b₁) m.book xs).made))
blocks shape k t b₁ b₂ n₁ n₂ (x ∷ xs) (y ∷ ys) f g book₁ book₂ e =
    let m₁ = divide simplices shape b₁ book₁ x in
    let m₂ = divide simplices shape b₂ book₂ y in
    let r₁ = (each (divide simplices shape b₁) m₁.book xs).made in
    let r₂ = (each (divide simplices shape b₂) m₂.book ys).made in
    let l₁ : length m₁.made ≡ suc k = t.many x.parity x.corners _ in
    let l₂ : length m₂.made ≡ suc k = t.many y.parity y.corners _ in
    let first : m₁.made ≡ m₂.made =
    sym (take_at m₁.made r₁ (suc k) l₁) ∙ ap (take (suc k)) e ∙ take_at m₂.made r₂ (suc k) l₂ in
    let rest : r₁ ≡ r₂ = sym (drop_at m₁.made r₁ (suc k) l₁) ∙ ap (drop (suc k)) e ∙ drop_at m₂.made r₂ (suc k) l₂ in
    ap₂ (λ (z : Element) (zs : List Element). z ∷ zs)
    (sym (t.tells x _ f.0.long) ∙ ap (regain shape.count) first ∙ t.tells y _ g.0.long)
    (blocks shape k t b₁ b₂ n₁ n₂ xs ys f.1 g.1 m₁.book m₂.book rest)

module _ (b₁ b₂ : ℕ) (lists₁ lists₂ : Lists) (well₁ : Well simplices b₁ lists₁) (well₂ : Well simplices b₂ lists₂) where
  pub areas_back :
      (n : ℕ) → (passes simplices b₁ lists₁ n).lists.areas ≡ (passes simplices b₂ lists₂ n).lists.areas → lists₁.areas ≡ lists₂.areas
  unfolding passes simplex_pass pass_by triangle
  areas_back zero e = e
  areas_back (suc n) e =
      areas_back n
      (blocks TRIANGLE 3 triangle_tells b₁ b₂ _ _ _ _
      (passes_good simplices b₁ lists₁ well₁ n).well.areas (passes_good simplices b₂ lists₂ well₂ n).well.areas _ _ e)

  pub volumes_back :
      (n : ℕ) → (passes simplices b₁ lists₁ n).lists.volumes ≡ (passes simplices b₂ lists₂ n).lists.volumes
      → lists₁.volumes ≡ lists₂.volumes
  unfolding passes simplex_pass pass_by tetrahedron
  volumes_back zero e = e
  volumes_back (suc n) e =
      volumes_back n
      (blocks TETRAHEDRON 7 tetrahedron_tells b₁ b₂ _ _ _ _
      (passes_good simplices b₁ lists₁ well₁ n).well.volumes (passes_good simplices b₂ lists₂ well₂ n).well.volumes _ _ e)
