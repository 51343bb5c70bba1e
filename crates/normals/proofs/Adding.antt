-- What each vertex's cell holds while sums are gathered, vertex by vertex: over the width of a cell, for 3D and 4D alike.
-- Assumes nothing.
use mathlib.Core.Path.{◌≡◌, refl, sym, ◌∙◌, ap}
use mathlib.Core.Bool.{Bool, true, false, cond}
use mathlib.Core.List.{List, [], ◌∷◌, ◌++◌}
use Prim.Native.Nat.{ℕ, suc, ◌+◌, ◌*◌, ◌≤◌, ◌<◌}
use native.Mathlib.Nat.{mul-suc, mul-le-mul_left}
use native.Mathlib.Omega.{arith}
use lib.Dec.{eqb}
use lib.Ieee.{Float}
use lib.ListN.{length, get_or, take, drop, set}
use lib.Seq.{get_or-take, get_or-drop, sets, drop-set-lt}
use borrow.Author.Tests.{eqb-true}
use Rattle.geom.specs.declared.vertex.Vertex.{Vertex}
use Rattle.geom.specs.Elements.{Element}
use Rattle.geom.specs.Memory.{first_of}
use Rattle.geom.specs.Normals.{to_corners}
use Rattle.vertices.specs.Cells.{Elements, vertices_of, elements_of}
use Rattle.vertices.proofs.Gathering.{length_part, part_more, elements_more}
use Rattle.normals.specs.Cells.{element_at, Below, Holds, Reads, Folds}

-- ---- an element's corners, one by one

drop_sets : (l : List Float) (a : ℕ) (ws : List Float) (n : ℕ) → a + length ws ≤ n → drop n (sets l a ws) ≡ drop n l
drop_sets l a [] n h = refl
drop_sets l a (x ∷ ws) n h = drop_sets (set l a x) (suc a) ws n (omega arith) ∙ drop-set-lt n l a x (omega arith)

module _ {A : Type 0} {row : List Float → ℕ → A} {words : A → List Float} {width : ℕ} {origin : A} (r : Reads row words width origin) (add : A → A → A) (n : A) (count : ℕ) where
  -- a row below the count lies whole within the count's words
  pub row_room : (c : ℕ) → c < count → width * c + width ≤ width * count
  row_room c h = omega (arith, mul-suc width c, mul-le-mul_left width h)

  -- the last corner after those before it
  corners_snoc : (u : ℕ) (cs : List ℕ) (c : ℕ) (s : A) → to_corners add n u (cs ++ c ∷ []) s ≡ cond (eqb c u) (add (to_corners add n u cs s) n) (to_corners add n u cs s)
  unfolding to_corners
  corners_snoc u [] c s = refl
  corners_snoc u (x ∷ cs) c s = corners_snoc u cs c (cond (eqb x u) (add s n) s)

  -- some corners have the normal
  pub record Spread (held : List Float) (cs : List ℕ) (sums : List Float) : Type 0 where
    pub holds : Holds row width count held (λ (u : ℕ). to_corners add n u cs (row held u)) sums

  pub spread_start : (held : List Float) → Spread held [] held
  unfolding to_corners
  spread_start held = record { holds = record { rows = λ u h. refl; rest = refl } }

  pub spread_on : (held : List Float) (cs : List ℕ) (c : ℕ) (s s' : List Float) → Spread held cs s → c < count → width * count ≤ length s
      → s' ≡ sets s (width * c) (words (add (row s c) n)) → Spread held (cs ++ c ∷ []) s'
  spread_on held cs c s s' g h room e =
      record {
        holds =
            record {
              rows = λ u k.
                  corner u
                  ∙ ap (λ (x : A). cond (eqb c u) (add x n) x) (g.holds.rows u k)
                  ∙ sym (corners_snoc u cs c (row held u));
              rest =
                  ap (drop (width * count)) e
                  ∙ drop_sets s (width * c) (words (add (row s c) n)) (width * count) (omega (arith, r.wide (add (row s c) n), row_room c h))
                  ∙ g.holds.rest;
            };
      }
    where
      corner : (u : ℕ) → row s' u ≡ cond (eqb c u) (add (row s u) n) (row s u)
      corner u =
          ap (λ (l : List Float). row l u) e
          ∙ r.put s c (add (row s c) n) (omega (arith, row_room c h)) u
          ∙ go (eqb c u) refl
        where
          go : (b : Bool) → eqb c u ≡ b → cond b (add (row s c) n) (row s u) ≡ cond b (add (row s u) n) (row s u)
          go true q = ap (λ (k : ℕ). add (row s k) n) (eqb-true c u q)
          go false q = refl

-- ---- the elements of a list, one by one

-- three words from a place on
pub three_words : (words : List ℕ) (s : ℕ) → s + 3 ≤ length words → take 3 (drop s words) ≡ get_or words s 0 ∷ get_or words (s + 1) 0 ∷ get_or words (s + 2) 0 ∷ []
three_words words s h =
    let z : s + 0 ≡ s = omega arith in
    part_more words s 2 (omega arith)
    ∙ ap (λ (l : List ℕ). l ++ get_or words (s + 2) 0 ∷ [])
    (part_more words s 1 (omega arith)
    ∙ ap (λ (l : List ℕ). l ++ get_or words (s + 1) 0 ∷ []) (part_more words s 0 (omega arith) ∙ ap (λ (k : ℕ). get_or words k 0 ∷ []) z))

-- the corners of an element lie below the count
pub corners_below : (words : List ℕ) (corners n count i : ℕ) → Elements words corners n count → i < n → Below (take corners (drop (suc corners * i) words)) count
corners_below words corners n count i e h =
    record {
      below = λ k l.
          let r = length_part words (suc corners * i) corners (omega (arith, e.room, mul-suc (suc corners) i, mul-le-mul_left (suc corners) h)) in
          let m : k < corners = omega arith in
          rw (get_or-take corners (drop (suc corners * i) words) k 0 m, get_or-drop (suc corners * i) words k 0) (e.below i h k m);
    }

module _ {A : Type 0} {gather : List Vertex → ℕ → List Element → A → A} {step : List Vertex → Element → ℕ → A → A} (f : Folds gather step) (row : List Float → ℕ → A)
    (width corners : ℕ) (positions : List Float) (words : List ℕ) (elements count : ℕ) (held : List Float) where
  pub record Gathering (sums : List Float) (i : ℕ) : Type 0 where
    pub holds : (marks : List ℕ) → Holds row width count held (λ (u : ℕ). gather (vertices_of positions marks count) u (elements_of corners words i) (row held u)) sums

  pub gathering_start : Gathering held 0
  unfolding first_of
  gathering_start =
      record {
        holds = λ marks. record { rows = λ u h. sym (f.none (vertices_of positions marks count) u (row held u)); rest = refl };
      }

  pub gathering_on : (sums : List Float) (i : ℕ) (sums' : List Float) → Gathering sums i
      → ((marks : List ℕ) → Holds row width count sums (λ (u : ℕ). step (vertices_of positions marks count) (element_at corners words i) u (row sums u)) sums')
      → Gathering sums' (i + 1)
  gathering_on sums i sums' g put =
      record {
        holds = λ marks.
            let vertices = vertices_of positions marks count in
            record {
              rows = λ u k.
                  (put marks).rows u k
                  ∙ ap (step vertices (element_at corners words i) u) ((g.holds marks).rows u k)
                  ∙ sym (f.snoc vertices u (elements_of corners words i) (element_at corners words i) (row held u))
                  ∙ ap (λ (es : List Element). gather vertices u es (row held u)) (sym (elements_more corners words i));
              rest = (put marks).rest ∙ (g.holds marks).rest;
            };
      }

  pub gathering_done : (sums : List Float) (i : ℕ) → Gathering sums i → i ≤ elements → elements ≤ i
      → (marks : List ℕ) → Holds row width count held (λ (u : ℕ). gather (vertices_of positions marks count) u (elements_of corners words elements) (row held u)) sums
  gathering_done sums i g end h marks = let e : i ≡ elements = omega arith in rw e at (g.holds marks)
