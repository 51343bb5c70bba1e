-- Smoothing as a whole: cleared cells, then the three lists in the kind's order, and then the vertices are moved.
-- Assumes nothing.
use mathlib.Core.Path.{◌≡◌, ◌∙◌, ap}
use mathlib.Core.Bool.{Bool}
use mathlib.Core.List.{List, flat_map}
use Prim.Native.Nat.{ℕ, ◌<◌}
use Rattle.geom.specs.Book.{Kind, cubes, simplices}
use Rattle.geom.specs.Elements.{Lists}
use Rattle.geom.specs.Form.{Form}
use Rattle.geom.specs.Memory.{first_of, vertex_row_in, position_words_in, over}
use Rattle.geom.specs.Smoothing.{GatheredIn, nothing, gather, gathered_in, smoothed_in}
use Rattle.vertices.specs.Cells.{gathered_row_in}
use Rattle.vertices.proofs.Settling.{settled_row, settled_smoothed}

module _ (F : Form) where
  pub none_counted : (g : GatheredIn F) → g ≡ nothing → g.count ≡ 0
  unfolding nothing
  none_counted g e = ap (λ (g : GatheredIn F). g.count) e

  -- one list after the other, from nothing
  thrice : (f g h : GatheredIn F → GatheredIn F) (x x' x'' x''' : GatheredIn F) → x ≡ nothing → x' ≡ f x → x'' ≡ g x' → x''' ≡ h x'' → x''' ≡ h (g (f nothing))
  thrice f g h x x' x'' x''' e e' e'' e''' = e''' ∙ ap h (e'' ∙ ap g (e' ∙ ap f e))

  -- the cells after each list
  module _ (l : Lists) (vertices : List F.Vertex) (count : ℕ) (s s' s'' s₃ : List F.Cell) (t t' t'' t₃ : List ℕ) (cleared : (u : ℕ) → u < count → gathered_row_in F s t u ≡ nothing) where
    -- lines, squares, cubes
    pub cubes_gathered : ((u : ℕ) → gathered_row_in F s' t' u ≡ gather 1 F.line vertices u l.lines (gathered_row_in F s t u))
        → ((u : ℕ) → gathered_row_in F s'' t'' u ≡ gather 2 F.square vertices u l.areas (gathered_row_in F s' t' u))
        → ((u : ℕ) → gathered_row_in F s₃ t₃ u ≡ gather 3 F.cube vertices u l.volumes (gathered_row_in F s'' t'' u))
        → (u : ℕ) → u < count → gathered_row_in F s₃ t₃ u ≡ gathered_in F cubes l vertices u
    unfolding gathered_in
    cubes_gathered e e' e'' u h =
        thrice (gather 1 F.line vertices u l.lines) (gather 2 F.square vertices u l.areas) (gather 3 F.cube vertices u l.volumes) _ _ _ _ (cleared u h) (e u) (e' u) (e'' u)

    -- tetrahedra, triangles, lines
    pub simplices_gathered : ((u : ℕ) → gathered_row_in F s' t' u ≡ gather 1 F.tetrahedron vertices u l.volumes (gathered_row_in F s t u))
        → ((u : ℕ) → gathered_row_in F s'' t'' u ≡ gather 1 F.triangle vertices u l.areas (gathered_row_in F s' t' u))
        → ((u : ℕ) → gathered_row_in F s₃ t₃ u ≡ gather 1 F.segment vertices u l.lines (gathered_row_in F s'' t'' u))
        → (u : ℕ) → u < count → gathered_row_in F s₃ t₃ u ≡ gathered_in F simplices l vertices u
    unfolding gathered_in
    simplices_gathered e e' e'' u h =
        thrice (gather 1 F.tetrahedron vertices u l.volumes) (gather 1 F.triangle vertices u l.areas) (gather 1 F.segment vertices u l.lines) _ _ _ _ (cleared u h) (e u) (e' u) (e'' u)

  -- vertices that stand as they were until all is gathered are then moved to the definition's
  pub moved_at_last : (kind : Kind) (time : Bool) (l : Lists) (marks : List ℕ) (count : ℕ) (p p' p'' : List F.Coordinate) (sums : List F.Cell) (tallies : List ℕ) → p' ≡ p
      → p'' ≡ over p' (flat_map (position_words_in F) (first_of (settled_row F time p' marks sums tallies) count))
      → ((u : ℕ) → u < count → gathered_row_in F sums tallies u ≡ gathered_in F kind l (first_of (vertex_row_in F p marks) count) u)
      → p'' ≡ over p (flat_map (position_words_in F) (smoothed_in F kind time l (first_of (vertex_row_in F p marks) count)))
  moved_at_last kind time l marks count p p' p'' sums tallies stay moved all =
      moved
      ∙ ap (λ (q : List F.Coordinate). over q (flat_map (position_words_in F) (first_of (settled_row F time q marks sums tallies) count))) stay
      ∙ ap (λ (vs : List F.Vertex). over p (flat_map (position_words_in F) vs)) (settled_smoothed F kind time l p marks sums tallies count all)
