-- The sums of which normals are made, of a mesh and of the same with every parity changed, side by side: on each axis both are +0, or they differ in the sign alone;
-- and none is above 2 ^ 58, since coordinates lie within 1,024 and 1,048,576 elements have at most 2 ^ 22 corners.
-- Assumes nothing.
use mathlib.Core.Path.{◌≡◌, refl, sym, ap, ◌∙◌, subst}
use mathlib.Core.Logic.{inl}
use mathlib.Core.Bool.{Bool, true, false, cond}
use mathlib.Core.List.{List, [], ◌∷◌, map}
use Prim.Native.Nat.{ℕ, suc, ◌+◌, ◌*◌, ◌^◌, ◌≤◌, ◌<◌}
use native.Mathlib.Nat.{le_trans, lt_of_le_of_lt, add-zero, suc-mul, mul-suc, mul_assoc, mul-le-mul_right}
use native.Mathlib.Omega.{arith}
use lib.Dec.{T, eqb, leb→le, lit<}
use lib.Ieee.{Float, nan, inf, fin, fits, neg, down}
use lib.Ieee as Ieee
use lib.Ieee.Fits.{add-fits, mul-fits}
use lib.ListN.{length}
use Rattle.numbers.specs.declared.vec3.Vec3.{Vec3}
use Rattle.numbers.specs.declared.vec4.Vec4.{Vec4}
use Rattle.numbers.specs.Binary32 as Binary32
use Rattle.numbers.specs.Binary32.{◌⊕◌, ◌⊖◌, ◌⊗◌, one}
use Rattle.numbers.specs.Points3 as Points3
use Rattle.numbers.specs.Points4 as Points4
use Rattle.numbers.proofs.Products.{sign_moves}
use Rattle.numbers.proofs.Small.{Small, Cap, cap_whole, cap_shifted, small_add, small_sub, small_neg, small_mul}
use Rattle.numbers.proofs.Negation.{neg_neg, mul_neg}
use Rattle.numbers.proofs.Mirror.{Mirrored, mirrored_on}
use Rattle.geom.specs.declared.parity.Parity.{Parity}
use Rattle.geom.specs.declared.parity.Parity.TheVariants.{Even, Odd}
use Rattle.geom.specs.Parity.{flipped}
use Rattle.geom.specs.declared.vertex.Vertex.{Vertex}
use Rattle.geom.specs.Elements.{Element, point_at}
use Rattle.geom.specs.Between.{All, Proper}
use Rattle.geom.specs.Vertices.{position_at}
use Rattle.geom.specs.Normals.{sign, corner, to_corners, xyz, area_normal, three_corners, gather3, origin3, axis, volume_normal, gather4}
use Rattle.geom.specs.Turning.{flipped_element}
use Rattle.geom.proofs.Stays.{All4, Good}
use Rattle.geom.proofs.Signs.{sign_even, sign_odd}

-- ---- one term

-- 3 * 2 ^ 34: what a minor, the largest term, is at most
abbrev TERM : ℕ
TERM = 3 * 2 ^ 34

-- what an element adds on one axis, and with the other parity
record Term (a b : Float) : Type 0 where
  held : T (fits Ieee.binary32 a)
  small : Small TERM a
  negated : b ≡ neg a

sign_small : (p : Parity) → Small 1 (sign p)
unfolding neg
sign_small Even = rw sign_even (leb→le 1 1 tt)
sign_small Odd = rw sign_odd (leb→le 1 1 tt)

other_sign : (p : Parity) (x : Float) → sign (flipped p) ⊗ x ≡ neg (sign p ⊗ x)
other_sign Even x = ap (λ (k : Float). k ⊗ x) sign_odd ∙ minus x ∙ sym (ap (λ (k : Float). neg (k ⊗ x)) sign_even)
  where
    minus : (x : Float) → neg one ⊗ x ≡ neg (one ⊗ x)
    minus x = sign_moves Ieee.binary32 one x ∙ mul_neg Ieee.binary32 one x
other_sign Odd x =
    ap (λ (k : Float). k ⊗ x) sign_even
    ∙ sym (ap (λ (k : Float). neg (k ⊗ x)) sign_odd ∙ ap neg (sign_moves Ieee.binary32 one x ∙ mul_neg Ieee.binary32 one x) ∙ neg_neg (one ⊗ x))

cap_term : Cap (1 * TERM) TERM
cap_term = cap_shifted 3 34 (lit< tt) (leb→le 207 277 tt)

signed : (p : Parity) (x : Float) → Small TERM x → Term (sign p ⊗ x) (sign (flipped p) ⊗ x)
signed p x h =
    record { held = mul-fits Ieee.binary32 (sign p) x; small = small_mul 1 TERM TERM (sign p) x cap_term (sign_small p) h; negated = other_sign p x }

-- a larger bound
small_more : (A B : ℕ) (x : Float) → A ≤ B → Small A x → Small B x
small_more A B nan l h = h
small_more A B (inf s) l h = h
small_more A B (fin s m e) l h = le_trans h (mul-le-mul_right (down e) l)

-- coordinates within 1,024
abbrev pub Placed : List Vertex → Type 0
Placed vertices = (v : ℕ) → Good (position_at vertices v)

apart : (a b : Float) → Small 1024 a → Small 1024 b → Small 2048 (a ⊖ b)
apart a b h k = small_sub 1024 1024 2048 a b (cap_whole 2048 (lit< tt)) h k

product : (a b : Float) → Small 2048 a → Small 2048 b → Small (2 ^ 22) (a ⊗ b)
product a b h k = small_mul 2048 2048 (2 ^ 22) a b (cap_whole (2 ^ 22) (lit< tt)) h k

crossed : (a b c d : Float) → Small 2048 a → Small 2048 b → Small 2048 c → Small 2048 d → Small (2 ^ 23) (a ⊗ b ⊖ c ⊗ d)
crossed a b c d ha hb hc hd =
    small_sub (2 ^ 22) (2 ^ 22) (2 ^ 23) (a ⊗ b) (c ⊗ d) (cap_whole (2 ^ 23) (lit< tt)) (product a b ha hb) (product c d hc hd)

-- ---- what a triangle adds

record Terms3 (a b : Vec3) : Type 0 where
  on_x : Term a.x b.x
  on_y : Term a.y b.y
  on_z : Term a.z b.z

crossed_term : (p : Parity) (a b c d : Float) → Small 2048 a → Small 2048 b → Small 2048 c → Small 2048 d
    → Term (sign p ⊗ (a ⊗ b ⊖ c ⊗ d)) (sign (flipped p) ⊗ (a ⊗ b ⊖ c ⊗ d))
crossed_term p a b c d ha hb hc hd =
    signed p (a ⊗ b ⊖ c ⊗ d) (small_more (2 ^ 23) TERM (a ⊗ b ⊖ c ⊗ d) (leb→le (2 ^ 23) TERM tt) (crossed a b c d ha hb hc hd))

area_terms : (vertices : List Vertex) → Placed vertices → (e : Element) → Terms3 (area_normal vertices e) (area_normal vertices (flipped_element e))
unfolding area_normal xyz Points3.scaled Points3.cross Points3.difference flipped_element
area_terms vertices placed e =
    let a = corner vertices e 0 in
    let b = corner vertices e 1 in
    let c = corner vertices e 2 in
    let pa = placed (point_at e.corners 0) in
    let pb = placed (point_at e.corners 1) in
    let pc = placed (point_at e.corners 2) in
    let ux = apart b.x a.x pb.on_x pa.on_x in
    let uy = apart b.y a.y pb.on_y pa.on_y in
    let uz = apart b.z a.z pb.on_z pa.on_z in
    let vx = apart c.x b.x pc.on_x pb.on_x in
    let vy = apart c.y b.y pc.on_y pb.on_y in
    let vz = apart c.z b.z pc.on_z pb.on_z in
    record {
      on_x = crossed_term e.parity (b.y ⊖ a.y) (c.z ⊖ b.z) (b.z ⊖ a.z) (c.y ⊖ b.y) uy vz uz vy;
      on_y = crossed_term e.parity (b.z ⊖ a.z) (c.x ⊖ b.x) (b.x ⊖ a.x) (c.z ⊖ b.z) uz vx ux vz;
      on_z = crossed_term e.parity (b.x ⊖ a.x) (c.y ⊖ b.y) (b.y ⊖ a.y) (c.x ⊖ b.x) ux vy uy vx;
    }

-- ---- what a tetrahedron adds

record Terms4 (a b : Vec4) : Type 0 where
  on_x : Term a.x b.x
  on_y : Term a.y b.y
  on_z : Term a.z b.z
  on_w : Term a.w b.w

-- one axis of the three differences
record Column (v : Vec3) : Type 0 where
  first : Small 2048 v.x
  second : Small 2048 v.y
  third : Small 2048 v.z

expanded : (a b c d e : Float) → Small 2048 a → Small 2048 b → Small 2048 c → Small 2048 d → Small 2048 e → Small (2 ^ 34) (a ⊗ (b ⊗ c ⊖ d ⊗ e))
expanded a b c d e ha hb hc hd he =
    small_mul 2048 (2 ^ 23) (2 ^ 34) a (b ⊗ c ⊖ d ⊗ e) (cap_shifted 1 34 (lit< tt) (leb→le 207 277 tt)) ha (crossed b c d e hb hc hd he)

minor : (p q r : Vec3) → Column p → Column q → Column r → Small TERM (Points3.determinant p q r)
unfolding Points3.determinant
minor p q r a b c =
    let first = expanded p.x q.y r.z r.y q.z a.first b.second c.third c.second b.third in
    let second = expanded q.x p.y r.z r.y p.z b.first a.second c.third c.second a.third in
    let third = expanded r.x p.y q.z q.y p.z c.first a.second b.third b.second a.third in
    small_add (2 ^ 35) (2 ^ 34) TERM _ _ (cap_shifted 3 34 (lit< tt) (leb→le 207 277 tt))
    (small_sub (2 ^ 34) (2 ^ 34) (2 ^ 35) _ _ (cap_shifted 1 35 (lit< tt) (leb→le 208 277 tt)) first second) third

apart4 : (p q : Vec4) → Good p → Good q → All4 (Small 2048) (Points4.difference p q)
unfolding Points4.difference
apart4 p q h k =
    record {
      on_x = apart p.x q.x h.on_x k.on_x;
      on_y = apart p.y q.y h.on_y k.on_y;
      on_z = apart p.z q.z h.on_z k.on_z;
      on_w = apart p.w q.w h.on_w k.on_w;
    }

column : {x y z : Float} → Small 2048 x → Small 2048 y → Small 2048 z → Column (record { x = x; y = y; z = z })
column a b c = record { first = a; second = b; third = c }

volume_terms : (vertices : List Vertex) → Placed vertices → (e : Element) → Terms4 (volume_normal vertices e) (volume_normal vertices (flipped_element e))
unfolding volume_normal axis Points4.scaled flipped_element
volume_terms vertices placed e =
    let o = placed (point_at e.corners 0) in
    let a = apart4 (corner vertices e 1) (corner vertices e 0) (placed (point_at e.corners 1)) o in
    let b = apart4 (corner vertices e 2) (corner vertices e 0) (placed (point_at e.corners 2)) o in
    let c = apart4 (corner vertices e 3) (corner vertices e 0) (placed (point_at e.corners 3)) o in
    let xs = column a.on_x b.on_x c.on_x in
    let ys = column a.on_y b.on_y c.on_y in
    let zs = column a.on_z b.on_z c.on_z in
    let ws = column a.on_w b.on_w c.on_w in
    record {
      on_x = signed e.parity _ (small_neg TERM _ (minor _ _ _ ys zs ws));
      on_y = signed e.parity _ (minor _ _ _ xs zs ws);
      on_z = signed e.parity _ (small_neg TERM _ (minor _ _ _ xs ys ws));
      on_w = signed e.parity _ (minor _ _ _ xs ys zs);
    }

-- ---- two sums side by side, on one axis

-- k terms at most
record Beside (k : ℕ) (s t : Float) : Type 0 where
  held : T (fits Ieee.binary32 s)
  small : Small (k * TERM) s
  mirrored : Mirrored s t

nothing_yet : Beside 0 Binary32.zero Binary32.zero
unfolding fits
nothing_yet = record { held = tt; small = leb→le 0 0 tt; mirrored = inl (refl, refl) }

beside_more : (j k : ℕ) (s t : Float) → j ≤ k → Beside j s t → Beside k s t
beside_more j k s t l h =
    record { held = h.held; small = small_more (j * TERM) (k * TERM) s (mul-le-mul_right TERM l) h.small; mirrored = h.mirrored }

one_more : (k : ℕ) (s t m n : Float) → suc k ≤ 2 ^ 22 → Beside k s t → Term m n → Beside (suc k) (s ⊕ m) (t ⊕ n)
one_more k s t m n l h g =
    let room : suc k * 3 < 2 ^ 24 = lt_of_le_of_lt (mul-le-mul_right 3 l) (lit< {m = 2 ^ 22 * 3} {n = 2 ^ 24} tt) in
    let cap : Cap (suc k * TERM) (suc k * TERM) =
    subst (λ (b : ℕ). Cap b b) (mul_assoc (suc k) 3 (2 ^ 34)) (cap_shifted (suc k * 3) 34 room (leb→le 207 277 tt)) in
    record {
      held = add-fits Ieee.binary32 s m;
      small = small_add (k * TERM) TERM (suc k * TERM) s m (subst (λ (b : ℕ). Cap b (suc k * TERM)) (suc-mul k TERM) cap) h.small g.small;
      mirrored = subst (λ (z : Float). Mirrored (s ⊕ m) (t ⊕ z)) (sym g.negated) (mirrored_on s t m h.held g.held h.mirrored);
    }

-- how a dimension's sum is gathered: from each element that counts, to each corner
record Gathers {A : Type 0} (add : A → A → A) (normal : Element → A) (counts : List ℕ → Bool) (gather : ℕ → List Element → A → A) : Type 0 where
  none : (v : ℕ) (s : A) → gather v [] s ≡ s
  more :
      (v : ℕ) (e : Element) (es : List Element) (s : A)
      → gather v (e ∷ es) s ≡ gather v es (cond (counts e.corners) (to_corners add (normal e) v e.corners s) s)

-- on an axis of the vectors that are added
module _ {A : Type 0} {add : A → A → A} (on : A → Float) (adds : (p q : A) → on (add p q) ≡ on p ⊕ on q) where
  corners_beside :
      (m n : A) → Term (on m) (on n) → (cs : List ℕ) (v k : ℕ) (s t : A) → k + length cs ≤ 2 ^ 22 → Beside k (on s) (on t)
      → Beside (k + length cs) (on (to_corners add m v cs s)) (on (to_corners add n v cs t))
  unfolding to_corners
  corners_beside m n g [] v k s t l h = subst (λ (j : ℕ). Beside j (on s) (on t)) (sym (add-zero k)) h
  corners_beside m n g (c ∷ cs) v k s t l h =
      let e : suc k + length cs ≡ k + suc (length cs) = omega arith in
      subst (λ (j : ℕ). Beside j (on (to_corners add m v cs (cond (eqb c v) (add s m) s))) (on (to_corners add n v cs (cond (eqb c v) (add t n) t)))) e
      (corners_beside m n g cs v (suc k) (cond (eqb c v) (add s m) s) (cond (eqb c v) (add t n) t) (omega arith) (go (eqb c v)))
    where
      go : (b : Bool) → Beside (suc k) (on (cond b (add s m) s)) (on (cond b (add t n) t))
      go true = rw (adds s m, adds t n) (one_more k (on s) (on t) (on m) (on n) (omega arith) h g)
      go false = beside_more k (suc k) (on s) (on t) (omega arith) h

  module _ {normal : Element → A} {counts : List ℕ → Bool} {gather : ℕ → List Element → A → A} (gathers : Gathers add normal counts gather)
      (term : (e : Element) → Term (on (normal e)) (on (normal (flipped_element e)))) (n c : ℕ) where
    element_beside :
        (e : Element) → Proper n c e → (v k : ℕ) (s t : A) → k + c ≤ 2 ^ 22 → Beside k (on s) (on t)
        → Beside (k + c) (on (cond (counts e.corners) (to_corners add (normal e) v e.corners s) s))
        (on (cond (counts e.corners) (to_corners add (normal (flipped_element e)) v e.corners t) t))
    element_beside e p v k s t l h = go (counts e.corners)
      where
        all : Beside (k + c) (on (to_corners add (normal e) v e.corners s)) (on (to_corners add (normal (flipped_element e)) v e.corners t))
        all =
            subst (λ (j : ℕ). Beside (k + j) (on (to_corners add (normal e) v e.corners s)) (on (to_corners add (normal (flipped_element e)) v e.corners t))) p.long
            (corners_beside (normal e) (normal (flipped_element e)) (term e) e.corners v k s t (omega (arith, p.long)) h)

        go : (b : Bool) → Beside (k + c) (on (cond b (to_corners add (normal e) v e.corners s) s)) (on (cond b (to_corners add (normal (flipped_element e)) v e.corners t) t))
        go true = all
        go false = beside_more k (k + c) (on s) (on t) (omega arith) h

    gathered_beside :
        (v : ℕ) (es : List Element) (k : ℕ) (s t : A) → All (Proper n c) es → k + c * length es ≤ 2 ^ 22 → Beside k (on s) (on t)
        → Beside (k + c * length es) (on (gather v es s)) (on (gather v (map flipped_element es) t))
    unfolding flipped_element
    gathered_beside v [] k s t a l h =
        let z : k ≡ k + c * 0 = omega arith in
        rw (gathers.none v s, gathers.none v t) (subst (λ (j : ℕ). Beside j (on s) (on t)) z h)
    gathered_beside v (e ∷ es) k s t a l h =
        let f = flipped_element e in
        let s' = cond (counts e.corners) (to_corners add (normal e) v e.corners s) s in
        let t' = cond (counts e.corners) (to_corners add (normal f) v e.corners t) t in
        let m : c * suc (length es) ≡ c * length es + c = mul-suc c (length es) in
        let j : k + c + c * length es ≡ k + c * suc (length es) = omega arith in
        rw (gathers.more v e es s, gathers.more v f (map flipped_element es) t)
        (subst (λ (i : ℕ). Beside i (on (gather v es s')) (on (gather v (map flipped_element es) t'))) j
        (gathered_beside v es (k + c) s' t' a.1 (omega arith) (element_beside e a.0 v k s t (omega arith) h)))

-- ---- in three dimensions, and in four

-- what is left of it at the end: the sums are numbers, whose squares are
pub record Side (s t : Float) : Type 0 where
  pub small : Small (2 ^ 58) s
  pub mirrored : Mirrored s t

side : {k : ℕ} {s t : Float} → k ≤ 2 ^ 22 → Beside k s t → Side s t
side {k} {s} {t} l h =
    record {
      small = small_more (k * TERM) (2 ^ 58) s (le_trans (mul-le-mul_right TERM l) (leb→le (2 ^ 22 * TERM) (2 ^ 58) tt)) h.small;
      mirrored = h.mirrored;
    }

pub record Sides3 (s t : Vec3) : Type 0 where
  pub on_x : Side s.x t.x
  pub on_y : Side s.y t.y
  pub on_z : Side s.z t.z

pub record Sides4 (s t : Vec4) : Type 0 where
  pub on_x : Side s.x t.x
  pub on_y : Side s.y t.y
  pub on_z : Side s.z t.z
  pub on_w : Side s.w t.w

module _ (vertices : List Vertex) (placed : Placed vertices) (n v : ℕ) (es : List Element) (few : length es ≤ 2 ^ 20) where
  pub sums3_sides : All (Proper n 3) es → Sides3 (gather3 vertices v es origin3) (gather3 vertices v (map flipped_element es) origin3)
  unfolding gather3 Points3.sum
  sums3_sides a =
      let g : Gathers Points3.sum (area_normal vertices) three_corners (gather3 vertices) = record { none = λ v s. refl; more = λ v e es s. refl } in
      let l : 0 + 3 * length es ≤ 2 ^ 22 = omega arith in
      let t = area_terms vertices placed in
      record {
        on_x = side l (gathered_beside (λ p. p.x) (λ p q. refl) g (λ e. (t e).on_x) n 3 v es 0 origin3 origin3 a l nothing_yet);
        on_y = side l (gathered_beside (λ p. p.y) (λ p q. refl) g (λ e. (t e).on_y) n 3 v es 0 origin3 origin3 a l nothing_yet);
        on_z = side l (gathered_beside (λ p. p.z) (λ p q. refl) g (λ e. (t e).on_z) n 3 v es 0 origin3 origin3 a l nothing_yet);
      }

  pub sums4_sides : All (Proper n 4) es → Sides4 (gather4 vertices v es Points4.origin) (gather4 vertices v (map flipped_element es) Points4.origin)
  unfolding gather4 Points4.sum Points4.origin
  sums4_sides a =
      let g : Gathers Points4.sum (volume_normal vertices) (λ c. true) (gather4 vertices) = record { none = λ v s. refl; more = λ v e es s. refl } in
      let l : 0 + 4 * length es ≤ 2 ^ 22 = omega arith in
      let t = volume_terms vertices placed in
      let o = Points4.origin in
      record {
        on_x = side l (gathered_beside (λ p. p.x) (λ p q. refl) g (λ e. (t e).on_x) n 4 v es 0 o o a l nothing_yet);
        on_y = side l (gathered_beside (λ p. p.y) (λ p q. refl) g (λ e. (t e).on_y) n 4 v es 0 o o a l nothing_yet);
        on_z = side l (gathered_beside (λ p. p.z) (λ p q. refl) g (λ e. (t e).on_z) n 4 v es 0 o o a l nothing_yet);
        on_w = side l (gathered_beside (λ p. p.w) (λ p q. refl) g (λ e. (t e).on_w) n 4 v es 0 o o a l nothing_yet);
      }
