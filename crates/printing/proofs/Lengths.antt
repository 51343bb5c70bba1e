-- How long a listing is: at most 144,395 bytes for 1,024 cells a list and numbers of four digits. Assumes nothing.
use mathlib.Core.Path.{◌≡◌, refl, ap}
use mathlib.Core.Bool.{Bool, true, false}
use mathlib.Core.List.{List, [], ◌∷◌, ◌++◌, flat_map}
use Prim.Native.Nat.{ℕ, suc, ◌+◌, ◌*◌, ◌/◌, ◌%◌, ◌≤◌, ◌<◌}
use native.Mathlib.Omega.{arith}
use native.Mathlib.Nat.{mul-suc, mul-le-mul_left}
use lib.Dec.{ltb}
use lib.Ieee.{binary32, to_bits}
use lib.ListN.{length, length-append}
use borrow.Author.Tests.{ltb-true, ltb-false}
use Rattle.geom.specs.declared.parity.Parity.{Parity}
use Rattle.geom.specs.declared.parity.Parity.TheVariants.{Even, Odd}
use Rattle.geom.specs.declared.vertex.Vertex.{Vertex}
use Rattle.geom.specs.Elements.{Element, Curve}
use Rattle.geom.specs.Mesh.{Mesh, curve_vertices_of}
use Rattle.geom.specs.Listing.{NEWLINE, PASSES, REFUSED, AFTER, digit, decimal, spaced, bits, numbers, letter, vertex_line, vertex_lines, point_line, element_line, curve_line, listing, refusal}
use Rattle.geom.specs.Between.{All, Below}
use Rattle.geom.proofs.Back.{Stepped}
use Rattle.listing.proofs.Numerals.{decimal_small, decimal_large}
use Rattle.listing.proofs.Parts.{length_hexadecimal}

-- ---- digits

-- one digit more for ten times as much
one_more : (b k : ℕ) → ((n : ℕ) → n < b → length (decimal n) ≤ k) → (n : ℕ) → n < 10 * b → length (decimal n) ≤ suc k
one_more b k f n l = go (ltb n 10) refl
  where
    go : (t : Bool) → ltb n 10 ≡ t → length (decimal n) ≤ suc k
    go true e = omega (arith, ap length (decimal_small n (ltb-true n 10 e)))
    go false e =
        let m = ltb-false n 10 e in
        omega (arith, ap length (decimal_large n m), length-append (decimal (n / 10)) (digit (n % 10) ∷ []), f (n / 10) (omega arith))

one_digit : (n : ℕ) → n < 10 → length (decimal n) ≤ 1
one_digit n l = omega (arith, ap length (decimal_small n l))

three_digits : (n : ℕ) → n < 1000 → length (decimal n) ≤ 3
three_digits n l = one_more 100 2 (λ m k. one_more 10 1 one_digit m (omega arith)) n (omega arith)

four_digits : (n : ℕ) → n < 10000 → length (decimal n) ≤ 4
four_digits n l = one_more 1000 3 three_digits n (omega arith)

-- ---- words

numbers_short : (vs : List ℕ) → Below 10000 vs → length (numbers vs) ≤ 5 * length vs
unfolding numbers flat_map
numbers_short [] a = omega arith
numbers_short (v ∷ vs) a = omega (arith, length-append (spaced (decimal v)) (numbers vs), four_digits v a.0, numbers_short vs a.1)

length_letter : (p : Parity) → length (letter p) ≡ 2
length_letter Even = refl
length_letter Odd = refl

letters_short : (ps : List Parity) → length (flat_map letter ps) ≡ 2 * length ps
unfolding flat_map
letters_short [] = omega arith
letters_short (p ∷ ps) = omega (arith, length-append (letter p) (flat_map letter ps), length_letter p, letters_short ps)

-- ---- lines

vertex_short : (i : ℕ) (v : Vertex) → i < 10000 → length (vertex_line i v) ≤ 43
unfolding vertex_line
vertex_short i v l =
    let x = bits v.position.x in
    let y = bits v.position.y in
    let z = bits v.position.z in
    let w = bits v.position.w in
    let a : List ℕ = 118 ∷ spaced (decimal i) in
    omega (
      arith,
      four_digits i l,
      length-append (a ++ x ++ y ++ z ++ w) (NEWLINE ∷ []),
      length-append (a ++ x ++ y ++ z) w,
      length-append (a ++ x ++ y) z,
      length-append (a ++ x) y,
      length-append a x,
      length_hexadecimal (to_bits binary32 v.position.x),
      length_hexadecimal (to_bits binary32 v.position.y),
      length_hexadecimal (to_bits binary32 v.position.z),
      length_hexadecimal (to_bits binary32 v.position.w),
    )

vertices_short : (i : ℕ) (vs : List Vertex) → i + length vs ≤ 10000 → length (vertex_lines i vs) ≤ 43 * length vs
unfolding vertex_lines
vertices_short i [] l = omega arith
vertices_short i (v ∷ vs) l =
    omega (arith, length-append (vertex_line i v) (vertex_lines (suc i) vs), vertex_short i v (omega arith), vertices_short (suc i) vs (omega arith))

point_short : (v : ℕ) → v < 10000 → length (point_line v) ≤ 7
unfolding point_line
point_short v l = omega (arith, length-append (112 ∷ numbers (v ∷ [])) (NEWLINE ∷ []), numbers_short (v ∷ []) (l, tt))

element_short : (name k : ℕ) (e : Element) → (length e.corners ≡ k) × Below 10000 e.corners → length (element_line name e) ≤ 5 * k + 4
unfolding element_line
element_short name k e a =
    let vs = e.corners in
    omega (
      arith,
      length-append (name ∷ numbers vs ++ letter e.parity) (NEWLINE ∷ []),
      length-append (name ∷ numbers vs) (letter e.parity),
      length_letter e.parity,
      numbers_short vs a.1,
      a.0,
    )

curve_short : (c : Curve) → Stepped c → Below 10000 c.vertices → length (curve_line c) ≤ 7 * length c.vertices + 2
unfolding curve_line
curve_short c s b =
    omega (
      arith,
      length-append (99 ∷ numbers c.vertices ++ flat_map letter c.parities) (NEWLINE ∷ []),
      length-append (99 ∷ numbers c.vertices) (flat_map letter c.parities),
      letters_short c.parities,
      numbers_short c.vertices b,
      s,
    )

-- ---- lists of lines

points_short : (vs : List ℕ) → Below 10000 vs → length (flat_map point_line vs) ≤ 7 * length vs
unfolding flat_map
points_short [] a = omega arith
points_short (v ∷ vs) a = omega (arith, length-append (point_line v) (flat_map point_line vs), point_short v a.0, points_short vs a.1)

elements_short :
    (name k : ℕ) (es : List Element) → All (λ (e : Element). (length e.corners ≡ k) × Below 10000 e.corners) es
    → length (flat_map (element_line name) es) ≤ (5 * k + 4) * length es
unfolding flat_map
elements_short name k [] a = omega arith
elements_short name k (e ∷ es) a =
    omega (
      arith,
      length-append (element_line name e) (flat_map (element_line name) es),
      element_short name k e a.0,
      elements_short name k es a.1,
      mul-suc (5 * k + 4) (length es),
    )

curves_short :
    (cs : List Curve) → All Stepped cs → All (λ (c : Curve). Below 10000 c.vertices) cs
    → length (flat_map curve_line cs) ≤ 7 * curve_vertices_of cs + 2 * length cs
unfolding flat_map curve_vertices_of
curves_short [] s b = omega arith
curves_short (c ∷ cs) s b =
    omega (arith, length-append (curve_line c) (flat_map curve_line cs), curve_short c s.0 b.0, curves_short cs s.1 b.1)

-- ---- the whole

-- a mesh of at most 1,024 entries in each list, whose numbers have four digits at most
pub record Short (a v : ℕ) (m : Mesh) : Type 0 where
  pub vertices : length m.vertices ≤ 1024
  pub points : length m.points ≤ 1024
  pub lines : length m.lists.lines ≤ 1024
  pub areas : length m.lists.areas ≤ 1024
  pub volumes : length m.lists.volumes ≤ 1024
  pub curves : length m.lists.curves ≤ 1024
  pub steps : curve_vertices_of m.lists.curves ≤ 1024
  pub point : Below 10000 m.points
  pub line : All (λ (e : Element). (length e.corners ≡ 2) × Below 10000 e.corners) m.lists.lines
  pub area : All (λ (e : Element). (length e.corners ≡ a) × Below 10000 e.corners) m.lists.areas
  pub volume : All (λ (e : Element). (length e.corners ≡ v) × Below 10000 e.corners) m.lists.volumes
  pub stepped : All Stepped m.lists.curves
  pub curve : All (λ (c : Curve). Below 10000 c.vertices) m.lists.curves

pub listing_short : (passes a v : ℕ) (m : Mesh) → passes < 1000 → a ≤ 4 → v ≤ 8 → Short a v m → length (listing passes m) ≤ 144395
unfolding listing
listing_short passes a v m p la lv s =
    let h = PASSES ++ spaced (decimal passes) in
    let vs : List ℕ = NEWLINE ∷ vertex_lines 0 m.vertices in
    let ps = flat_map point_line m.points in
    let ls = flat_map (element_line 108) m.lists.lines in
    let as' = flat_map (element_line 97) m.lists.areas in
    let ss = flat_map (element_line 115) m.lists.volumes in
    let cs = flat_map curve_line m.lists.curves in
    omega (
      arith,
      length-append (h ++ vs ++ ps ++ ls ++ as' ++ ss) cs,
      length-append (h ++ vs ++ ps ++ ls ++ as') ss,
      length-append (h ++ vs ++ ps ++ ls) as',
      length-append (h ++ vs ++ ps) ls,
      length-append (h ++ vs) ps,
      length-append h vs,
      three_digits passes p,
      vertices_short 0 m.vertices (omega (arith, s.vertices)),
      points_short m.points s.point,
      elements_short 108 2 m.lists.lines s.line,
      elements_short 97 a m.lists.areas s.area,
      elements_short 115 v m.lists.volumes s.volume,
      curves_short m.lists.curves s.stepped s.curve,
      mul-le-mul_left (5 * a + 4) s.areas,
      mul-le-mul_left (5 * v + 4) s.volumes,
      s.vertices,
      s.points,
      s.lines,
      s.curves,
      s.steps,
    )

pub refusal_short : (n passes : ℕ) → n < 1000 → passes < 1000 → length (refusal n passes) ≤ 22
unfolding refusal
refusal_short n passes l p =
    let a = REFUSED ++ spaced (decimal n) in
    let b = spaced (decimal passes) in
    omega (
      arith,
      three_digits n l,
      three_digits passes p,
      length-append (a ++ spaced AFTER ++ b) (NEWLINE ∷ []),
      length-append (a ++ spaced AFTER) b,
      length-append a (spaced AFTER),
    )
