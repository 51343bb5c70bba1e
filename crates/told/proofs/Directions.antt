-- What normalising leaves of as many cells as a vector has components: the first vector is the point that they hold, and what is written are all of them.
-- Assumes nothing.
use mathlib.Core.Path.{◌≡◌, ◌∙◌}
use mathlib.Core.Bool.{Bool}
use mathlib.Core.List.{List, append-nil}
use native.Mathlib.Omega.{arith}
use Prim.Native.Nat.{◌+◌}
use lib.Ieee.{Float, nan}
use lib.ListN.{length, drop_of_length-le}
use lib.Seq.{sets, sets-eq}
use Rattle.std.specs.Prelude.{is_some}
use Rattle.numbers.specs.Binary32.{zero}
use Rattle.numbers.specs.Normal.{normalised3, normalised4, cells3, cells4}
use Rattle.numbers.proofs.Normals.{wide3, wide4}
use Rattle.geom.specs.Memory.{four_row}
use Rattle.geom.proofs.Rows.{get_d_any}
use Rattle.vertices.specs.Cells.{point_row}
use Rattle.normals.specs.Cells.{vector_row}
use Rattle.told.specs.Cells.{point3, point4, Normalised3, Normalised4}

whole : (l ws : List Float) → length ws ≡ length l → sets l 0 ws ≡ ws
whole l ws e = sets-eq ws l 0 (omega arith) ∙ rw (drop_of_length-le l {i = 0 + length ws} (omega arith)) (append-nil ws)

row3 : (l : List Float) → length l ≡ 3 → vector_row l 0 ≡ point3 l
unfolding vector_row point3
row3 l e =
    λ i. record { x = get_d_any l 0 zero nan (omega arith) i; y = get_d_any l 1 zero nan (omega arith) i; z = get_d_any l 2 zero nan (omega arith) i }

row4 : (l : List Float) → length l ≡ 4 → point_row l 0 ≡ point4 l
unfolding four_row point4
row4 l e =
    λ i. record {
      x = get_d_any l 0 zero nan (omega arith) i;
      y = get_d_any l 1 zero nan (omega arith) i;
      z = get_d_any l 2 zero nan (omega arith) i;
      w = get_d_any l 3 zero nan (omega arith) i;
    }

module _ {before after : List Float} {answer : Bool} where
  pub left_by3 : length before ≡ 3 → after ≡ sets before 0 (cells3 (normalised3 (vector_row before 0))) → answer ≡ is_some (normalised3 (vector_row before 0)) → Normalised3 before after answer
  left_by3 l e d =
      record {
        cells = e ∙ whole before (cells3 (normalised3 (vector_row before 0))) (omega (arith, wide3 (normalised3 (vector_row before 0)))) ∙ rw (row3 before l);
        direction = d ∙ rw (row3 before l);
      }

  pub left_by4 : length before ≡ 4 → after ≡ sets before 0 (cells4 (normalised4 (point_row before 0))) → answer ≡ is_some (normalised4 (point_row before 0)) → Normalised4 before after answer
  left_by4 l e d =
      record {
        cells = e ∙ whole before (cells4 (normalised4 (point_row before 0))) (omega (arith, wide4 (normalised4 (point_row before 0)))) ∙ rw (row4 before l);
        direction = d ∙ rw (row4 before l);
      }
