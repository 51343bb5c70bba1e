-- No coordinate of a binary32 mesh leaves -1,024 to 1,024, however often it is refined: binary32 is steady. No limit on the lists is needed, nor that binary32
-- holds the coordinates handed in, nor that vertex numbers are below the count.
-- Assumes nothing.
use mathlib.Core.Path.{◌≡◌, refl, sym, ap₂, subst}
use mathlib.Core.Bool.{Bool, true, false, ◌&&◌, ◌||◌}
use mathlib.Core.List.{List, [], ◌∷◌}
use mathlib.Core.Logic.{⊎_elim}
use Prim.Native.Nat.{ℕ, zero, suc, ◌+◌, ◌*◌, ◌^◌, ◌≤◌, ◌<◌}
use native.Mathlib.Nat.{le_trans, le_of_eq, le_of_lt, mul-one, add-zero, mul-pos, eq-or-lt_of_le}
use native.Mathlib.Omega.{arith}
use lib.Dec.{T, eqb, ltb, ltb→lt, lt→ltb, eqb→eq, eqb_refl, lit<}
use lib.IntN.{pos, negsuc}
use lib.Ieee.{Float, nan, inf, fin, le, up, down}
use lib.Ieee.Fits.{and_i, and_l, and_r, down_pos}
use lib.ListN.{length, get_or, take, drop}
use Rattle.numbers.specs.declared.vec4.Vec4.{Vec4}
use Rattle.numbers.specs.Binary32.{◌⊕◌, ◌⊗◌, half, count}
use Rattle.numbers.specs.Points4 as Points4
use Rattle.numbers.proofs.Small.{Small, least_or_equal, Cap, cap_whole, small_add, small_weight, small_none, small_zero, Sum, sum_none, sum_one_more, small_mean}
use Rattle.geom.specs.Floats.{good_coordinate, binary32, points4, column_rule, cube_rule, LINE_WEIGHTS}
use Rattle.geom.specs.Refusals.{good_position_in}
use Rattle.geom.specs.Soundness.{Axis, x_axis, y_axis, z_axis, w_axis, on}
use Rattle.geom.specs.Between.{All}
use Rattle.geom.proofs.Lists.{all_map, all_take, all_drop, true_is}
use Rattle.geom.proofs.Steady.{GoodAt, Gives, Steady}

-- ---- four axes

pub record All4 (P : Float → Type 0) (v : Vec4) : Type 0 where
  pub on_x : P v.x
  pub on_y : P v.y
  pub on_z : P v.z
  pub on_w : P v.w

abbrev pub Good : Vec4 → Type 0
Good = All4 (Small 1024)

sum4 : (A B C : ℕ) (p q : Vec4) → Cap (A + B) C → All4 (Small A) p → All4 (Small B) q → All4 (Small C) (Points4.sum p q)
unfolding Points4.sum
sum4 A B C p q cap h k =
    record {
      on_x = small_add A B C p.x q.x cap h.on_x k.on_x;
      on_y = small_add A B C p.y q.y cap h.on_y k.on_y;
      on_z = small_add A B C p.z q.z cap h.on_z k.on_z;
      on_w = small_add A B C p.w q.w cap h.on_w k.on_w;
    }

weighted : (j A C : ℕ) (p : Vec4) → C < 2 ^ 24 → A ≡ C * 2 ^ suc j → All4 (Small A) p → All4 (Small C) (Points4.scaled (fin false 1 (negsuc j)) p)
unfolding Points4.scaled
weighted j A C p l e h =
    record {
      on_x = small_weight j A C p.x (cap_whole C l) e h.on_x;
      on_y = small_weight j A C p.y (cap_whole C l) e h.on_y;
      on_z = small_weight j A C p.z (cap_whole C l) e h.on_z;
      on_w = small_weight j A C p.w (cap_whole C l) e h.on_w;
    }

weightless : (p : Vec4) → Good p → All4 (Small 0) (Points4.scaled (fin false 0 (pos 0)) p)
unfolding Points4.scaled
weightless p h =
    record {
      on_x = small_none 1024 p.x h.on_x;
      on_y = small_none 1024 p.y h.on_y;
      on_z = small_none 1024 p.z h.on_z;
      on_w = small_none 1024 p.w h.on_w;
    }

origin_good : Good Points4.origin
unfolding Points4.origin
origin_good = record { on_x = small_zero 1024; on_y = small_zero 1024; on_z = small_zero 1024; on_w = small_zero 1024 }

-- ---- a midpoint

midpoint_good : (p q : Vec4) → Good p → Good q → Good (Points4.midpoint p q)
unfolding Points4.midpoint
midpoint_good p q h k = weighted 0 2048 1024 (Points4.sum p q) (lit< tt) refl (sum4 1024 1024 2048 p q (cap_whole 2048 (lit< tt)) h k)

midpoint_by_axis :
    (i : Axis) (p q a b : Vec4) → on points4 i a ≡ on points4 i p → on points4 i b ≡ on points4 i q
    → on points4 i (Points4.midpoint a b) ≡ on points4 i (Points4.midpoint p q)
unfolding Points4.midpoint Points4.scaled Points4.sum
midpoint_by_axis x_axis p q a b h k = ap₂ (λ (x y : Float). half ⊗ (x ⊕ y)) h k
midpoint_by_axis y_axis p q a b h k = ap₂ (λ (x y : Float). half ⊗ (x ⊕ y)) h k
midpoint_by_axis z_axis p q a b h k = ap₂ (λ (x y : Float). half ⊗ (x ⊕ y)) h k
midpoint_by_axis w_axis p q a b h k = ap₂ (λ (x y : Float). half ⊗ (x ⊕ y)) h k

-- ---- what an element gives

all_get : (ps : List Vec4) (i : ℕ) → All Good ps → Good (get_or ps i Points4.origin)
all_get [] i a = origin_good
all_get (p ∷ ps) zero a = a.0
all_get (p ∷ ps) (suc i) a = all_get ps i a.1

line_good : (ps : List Vec4) → All Good ps → Good (column_rule LINE_WEIGHTS ps)
unfolding column_rule Points4.columns
line_good ps a =
    let h : (i : ℕ) → All4 (Small 512) (Points4.scaled half (get_or ps i Points4.origin)) = λ i. weighted 0 1024 512 (get_or ps i Points4.origin) (lit< tt) refl (all_get ps i a) in
    let k : (i : ℕ) → All4 (Small 0) (Points4.scaled (fin false 0 (pos 0)) (get_or ps i Points4.origin)) = λ i. weightless (get_or ps i Points4.origin) (all_get ps i a) in
    sum4 1024 0 1024 _ _ (cap_whole 1024 (lit< tt)) (sum4 1024 0 1024 _ _ (cap_whole 1024 (lit< tt)) (sum4 512 512 1024 _ _ (cap_whole 1024 (lit< tt)) (h 0) (h 1)) (k 2)) (k 3)

-- four columns of the same weight, 1 / 2 ^ (j + 1), of which each comes to at most C
columns_good :
    (j C : ℕ) (ps : List Vec4) → C + C + C + C < 2 ^ 24 → 1024 ≡ C * 2 ^ suc j → All Good ps
    → All4 (Small (C + C + C + C)) (column_rule (record { x = fin false 1 (negsuc j); y = fin false 1 (negsuc j); z = fin false 1 (negsuc j); w = fin false 1 (negsuc j) }) ps)
unfolding column_rule Points4.columns
columns_good j C ps l e a =
    let h : (i : ℕ) → All4 (Small C) (Points4.scaled (fin false 1 (negsuc j)) (get_or ps i Points4.origin)) = λ i. weighted j 1024 C (get_or ps i Points4.origin) (omega arith) e (all_get ps i a) in
    sum4 (C + C + C) C (C + C + C + C) _ _ (cap_whole (C + C + C + C) l)
    (sum4 (C + C) C (C + C + C) _ _ (cap_whole (C + C + C) (omega arith)) (sum4 C C (C + C) _ _ (cap_whole (C + C) (omega arith)) (h 0) (h 1)) (h 2)) (h 3)

cube_good : (ps : List Vec4) → All Good ps → Good (cube_rule ps)
unfolding cube_rule
cube_good ps a =
    sum4 512 512 1024 _ _ (cap_whole 1024 (lit< tt))
    (columns_good 2 128 (take 4 ps) (lit< tt) refl (all_take Good 4 ps a))
    (columns_good 2 128 (drop 4 ps) (lit< tt) refl (all_drop Good 4 ps a))

-- sums of corners, and of what was gathered
summed : (c : ℕ) (s p : Vec4) → All4 (Sum c) s → Good p → All4 (Sum (suc c)) (Points4.sum s p)
unfolding Points4.sum
summed c s p h k =
    record {
      on_x = sum_one_more c s.x p.x k.on_x h.on_x;
      on_y = sum_one_more c s.y p.y k.on_y h.on_y;
      on_z = sum_one_more c s.z p.z k.on_z h.on_z;
      on_w = sum_one_more c s.w p.w k.on_w h.on_w;
    }

no_sum : All4 (Sum 0) Points4.origin
unfolding Points4.origin
no_sum = record { on_x = sum_none; on_y = sum_none; on_z = sum_none; on_w = sum_none }

averaged : (c : ℕ) (s : Vec4) → 0 < c → All4 (Sum c) s → Good (Points4.quotient s (count c))
unfolding Points4.quotient
averaged c s P h =
    record {
      on_x = small_mean c s.x P h.on_x;
      on_y = small_mean c s.y P h.on_y;
      on_z = small_mean c s.z P h.on_z;
      on_w = small_mean c s.w P h.on_w;
    }

added_sum : (c : ℕ) (s : Vec4) (ps : List Vec4) → All Good ps → All4 (Sum c) s → All4 (Sum (c + length ps)) (Points4.added s ps)
unfolding Points4.added
added_sum c s [] a h = subst (λ (n : ℕ). All4 (Sum n) s) (sym (add-zero c)) h
added_sum c s (p ∷ ps) a h =
    let e : suc c + length ps ≡ c + suc (length ps) = omega arith in
    subst (λ (n : ℕ). All4 (Sum n) (Points4.added (Points4.sum s p) ps)) e (added_sum (suc c) (Points4.sum s p) ps a.1 (summed c s p h a.0))

mean_good : (ps : List Vec4) → 0 < length ps → All Good ps → Good (Points4.mean ps)
unfolding Points4.mean
mean_good ps P a =
    let e : 0 + length ps ≡ length ps = omega arith in
    averaged (length ps) (Points4.added Points4.origin ps) P (subst (λ (n : ℕ). All4 (Sum n) (Points4.added Points4.origin ps)) e (added_sum 0 Points4.origin ps a no_sum))

-- ---- as refusal 6 judges it: the test passes exactly where the number is at most 1,024

same_or_less : (a b : ℕ) (c : Bool) → T (ltb b a || (eqb a b && c)) → b ≤ a
same_or_less a b c t = go (ltb b a) (ltb→lt b a) (λ s. eqb→eq a b (and_l (eqb a b) c s)) t
  where
    go : (p : Bool) → (T p → b < a) → (T (eqb a b && c) → a ≡ b) → T (p || (eqb a b && c)) → b ≤ a
    go true f g t = le_of_lt (f tt)
    go false f g t = le_of_eq (sym (g t))

or_l : (a b : Bool) → T a → T (a || b)
or_l true b t = tt
or_l false b t = absurd t

or_r : (a b : Bool) → T b → T (a || b)
or_r true b t = tt
or_r false b t = t

small_of_good : (x : Float) → T (good_coordinate x) → Small 1024 x
unfolding good_coordinate le
small_of_good nan t = absurd t
small_of_good (inf true) t = absurd t
small_of_good (inf false) t = absurd t
small_of_good (fin true m e) t =
    le_trans (le_of_eq (sym (mul-one (m * up e))))
    (same_or_less (1024 * down e) (m * up e * 1) _ (and_l (le (fin true 1 (pos 10)) (fin true m e)) (le (fin true m e) (fin false 1 (pos 10))) t))
small_of_good (fin false m e) t =
    le_trans (le_of_eq (sym (mul-one (m * up e))))
    (least_or_equal (m * up e * 1) (1024 * down e) _ (and_r (le (fin true 1 (pos 10)) (fin false m e)) (le (fin false m e) (fin false 1 (pos 10))) t))

at_most : (a b : ℕ) → a ≤ b → T (ltb a b || (eqb a b && true))
at_most a b h =
    ⊎_elim
    (λ (p : a ≡ b). or_r (ltb a b) (eqb a b && true) (subst (λ (x : ℕ). T (eqb a x && true)) p (and_i (eqb a a) true (eqb_refl a) tt)))
    (λ (q : a < b). or_l (ltb a b) (eqb a b && true) (lt→ltb a b q))
    (eq-or-lt_of_le h)

at_least : (a b : ℕ) → b ≤ a → T (ltb b a || (eqb a b && true))
at_least a b h =
    ⊎_elim
    (λ (p : b ≡ a). or_r (ltb b a) (eqb a b && true) (subst (λ (x : ℕ). T (eqb x b && true)) p (and_i (eqb b b) true (eqb_refl b) tt)))
    (λ (q : b < a). or_l (ltb b a) (eqb a b && true) (lt→ltb b a q))
    (eq-or-lt_of_le h)

-- a negative number is below a positive one
some_sum : (a b : ℕ) → 0 < b → T (ltb 0 (a + b))
some_sum a b h = lt→ltb 0 (a + b) (omega arith)

sum_some : (a b : ℕ) → 0 < a → T (ltb 0 (a + b))
sum_some a b h = lt→ltb 0 (a + b) (omega arith)

good_of_small : (x : Float) → Small 1024 x → T (good_coordinate x)
unfolding good_coordinate le
good_of_small nan h = absurd h
good_of_small (inf s) h = absurd h
good_of_small (fin true m e) h =
    and_i (le (fin true 1 (pos 10)) (fin true m e)) (le (fin true m e) (fin false 1 (pos 10)))
    (at_least (1024 * down e) (m * up e * 1) (le_trans (le_of_eq (mul-one (m * up e))) h))
    (or_l (ltb 0 (m * up e * 1 + 1024 * down e)) _ (some_sum (m * up e * 1) (1024 * down e) (mul-pos (lit< tt) (down_pos e))))
good_of_small (fin false m e) h =
    and_i (le (fin true 1 (pos 10)) (fin false m e)) (le (fin false m e) (fin false 1 (pos 10)))
    (or_l (ltb 0 (1024 * down e + m * up e * 1)) _ (sum_some (1024 * down e) (m * up e * 1) (mul-pos (lit< tt) (down_pos e))))
    (at_most (m * up e * 1) (1024 * down e) (le_trans (le_of_eq (mul-one (m * up e))) h))

coordinate_good : (x : Float) → Small 1024 x → good_coordinate x ≡ true
coordinate_good x h = true_is (good_coordinate x) (good_of_small x h)

pub position_good : (p : Vec4) → GoodAt binary32 p → Good p
unfolding good_position_in
position_good p e =
    let a = good_coordinate p.x in
    let b = good_coordinate p.y in
    let c = good_coordinate p.z in
    let d = good_coordinate p.w in
    let t : T (a && b && c && d) = subst T (sym e) tt in
    record {
      on_x = small_of_good p.x (and_l a b (and_l (a && b) c (and_l (a && b && c) d t)));
      on_y = small_of_good p.y (and_r a b (and_l (a && b) c (and_l (a && b && c) d t)));
      on_z = small_of_good p.z (and_r (a && b) c (and_l (a && b && c) d t));
      on_w = small_of_good p.w (and_r (a && b && c) d t);
    }

good_position_lem : (p : Vec4) → Good p → GoodAt binary32 p
unfolding good_position_in
good_position_lem p h =
    rw (coordinate_good p.x h.on_x, coordinate_good p.y h.on_y, coordinate_good p.z h.on_z, coordinate_good p.w h.on_w) refl

all_good : (ps : List Vec4) → All (GoodAt binary32) ps → All Good ps
all_good ps = all_map position_good ps

mean_gives : Gives binary32 Good Points4.mean
mean_gives ps n a = mean_good ps n (all_good ps a)

pub steady_binary32 : Steady binary32
steady_binary32 =
    record {
      by_axis = midpoint_by_axis;
      origin = good_position_lem Points4.origin origin_good;
      midpoint = λ p q h k. good_position_lem (Points4.midpoint p q) (midpoint_good p q (position_good p h) (position_good q k));
      Given = Good;
      Added = λ n s. All4 (Sum n) s;
      none = no_sum;
      add = summed;
      mean = λ n s P h. good_position_lem (Points4.quotient s (count n)) (averaged n s P h);
      segment = mean_gives;
      triangle = mean_gives;
      tetrahedron = mean_gives;
      line = λ ps n a. line_good ps (all_good ps a);
      square = λ ps n a. columns_good 1 256 ps (lit< tt) refl (all_good ps a);
      cube = λ ps n a. cube_good ps (all_good ps a);
    }
