-- Vectors in cells of 3 words, and points in cells of 4: what is owed of a row.
-- Assumes nothing.
use mathlib.Core.Path.{◌≡◌, refl, subst}
use mathlib.Core.Bool.{Bool, true, false, cond}
use mathlib.Core.List.{List}
use Prim.Native.Nat.{ℕ, ◌+◌, ◌*◌, ◌≤◌}
use native.Mathlib.Omega.{arith}
use lib.Dec.{eqb}
use lib.Ieee.{Float}
use lib.ListN.{length}
use lib.Seq.{sets}
use borrow.Author.Tests.{eqb-true, eqb-false}
use Rattle.numbers.specs.Binary32 as Binary32
use Rattle.numbers.specs.Points3 as Points3
use Rattle.numbers.specs.Points4 as Points4
use Rattle.numbers.specs.declared.vec3.Vec3.{Vec3}
use Rattle.numbers.specs.declared.vec4.Vec4.{Vec4}
use Rattle.geom.specs.Floats.{points4}
use Rattle.geom.specs.Memory.{four_row}
use Rattle.vertices.specs.Cells.{position_words, point_row}
use Rattle.vertices.proofs.Written.{get_d_sets_past}
use Rattle.vertices.proofs.Gathering.{get_d_sets_at, other_row, four_same, four_other}
use Rattle.normals.specs.Cells.{Reads, vector_words, vector_row}

-- ---- vectors in cells

vector_same : (l : List Float) (v : ℕ) (p : Vec3) → 3 * v + 3 ≤ length l → vector_row (sets l (3 * v) (vector_words p)) v ≡ p
unfolding vector_row
vector_same l v p h =
    let e : 3 * v + 0 ≡ 3 * v = omega arith in
    let x = rw e at (get_d_sets_at l (3 * v) (vector_words p) 0 Binary32.zero (omega arith) (omega arith)) in
    let y = get_d_sets_at l (3 * v) (vector_words p) 1 Binary32.zero (omega arith) (omega arith) in
    let z = get_d_sets_at l (3 * v) (vector_words p) 2 Binary32.zero (omega arith) (omega arith) in
    λ i. record { x = x i; y = y i; z = z i }

pub vectors : Reads vector_row vector_words 3 Points3.origin
unfolding vector_row
vectors =
    record {
      wide = λ p. refl;
      put = λ l v p h u. go l v p h u (eqb v u) refl;
      past = λ l ws a i h.
          let e : 3 * i + 0 ≡ 3 * i = omega arith in
          let x = rw e at (get_d_sets_past l a ws (3 * i + 0) Binary32.zero (omega arith)) in
          let y = get_d_sets_past l a ws (3 * i + 1) Binary32.zero (omega arith) in
          let z = get_d_sets_past l a ws (3 * i + 2) Binary32.zero (omega arith) in
          λ j. record { x = x j; y = y j; z = z j };
      cleared = λ l n f u h.
          let x = f (3 * u) (omega arith) in
          let y = f (3 * u + 1) (omega arith) in
          let z = f (3 * u + 2) (omega arith) in
          λ j. record { x = x j; y = y j; z = z j };
    }
  where
    go : (l : List Float) (v : ℕ) (p : Vec3) → 3 * v + 3 ≤ length l → (u : ℕ) (b : Bool) → eqb v u ≡ b
        → vector_row (sets l (3 * v) (vector_words p)) u ≡ cond b p (vector_row l u)
    go l v p h u true q = subst (λ (k : ℕ). vector_row (sets l (3 * v) (vector_words p)) k ≡ p) (eqb-true v u q) (vector_same l v p h)
    go l v p h u false q =
        let e : 3 * u + 0 ≡ 3 * u = omega arith in
        let ne = eqb-false v u q in
        let x = rw e at (other_row l (vector_words p) 3 v u 0 Binary32.zero refl (omega arith) ne) in
        let y = other_row l (vector_words p) 3 v u 1 Binary32.zero refl (omega arith) ne in
        let z = other_row l (vector_words p) 3 v u 2 Binary32.zero refl (omega arith) ne in
        λ i. record { x = x i; y = y i; z = z i }

-- ---- points in cells

pub points : Reads point_row position_words 4 Points4.origin
unfolding four_row Points4.origin
points =
    record {
      wide = λ p. refl;
      put = λ l v p h u. go l v p h u (eqb v u) refl;
      past = λ l ws a i h.
          let e : 4 * i + 0 ≡ 4 * i = omega arith in
          let x = rw e at (get_d_sets_past l a ws (4 * i + 0) Binary32.zero (omega arith)) in
          let y = get_d_sets_past l a ws (4 * i + 1) Binary32.zero (omega arith) in
          let z = get_d_sets_past l a ws (4 * i + 2) Binary32.zero (omega arith) in
          let w = get_d_sets_past l a ws (4 * i + 3) Binary32.zero (omega arith) in
          λ j. record { x = x j; y = y j; z = z j; w = w j };
      cleared = λ l n f u h.
          let x = f (4 * u) (omega arith) in
          let y = f (4 * u + 1) (omega arith) in
          let z = f (4 * u + 2) (omega arith) in
          let w = f (4 * u + 3) (omega arith) in
          λ j. record { x = x j; y = y j; z = z j; w = w j };
    }
  where
    go : (l : List Float) (v : ℕ) (p : Vec4) → 4 * v + 4 ≤ length l → (u : ℕ) (b : Bool) → eqb v u ≡ b
        → point_row (sets l (4 * v) (position_words p)) u ≡ cond b p (point_row l u)
    go l v p h u true q = subst (λ (k : ℕ). point_row (sets l (4 * v) (position_words p)) k ≡ p) (eqb-true v u q) (four_same points4 l v p h)
    go l v p h u false q = four_other points4 l v p u (eqb-false v u q)
