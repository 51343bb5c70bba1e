-- Document 01, section 8: the listing of a refined mesh, and the line of a refusal, as bytes.
-- Every line ends with a newline, the last too; one space stands between words.
-- Tags, k and flags are not printed.
-- Assumes nothing.
use Rattle.std.specs.Prelude.{cond, ℕ, zero, suc, ◌+◌, ◌/◌, ◌%◌, ◌^◌, eqb, ltb, Float}
use mathlib.Core.List.{List, [], ◌∷◌, ◌++◌, map, flat_map}
use Rattle.std.specs.Float.{binary32}
use Rattle.std.specs.Float.Ieee.{to_bits}
use Rattle.geom.specs.declared.parity.Parity.{Parity}
use Rattle.geom.specs.declared.parity.Parity.TheVariants.{Even, Odd}
use Rattle.geom.specs.declared.vertex.Vertex.{Vertex}
use Rattle.geom.specs.Elements.{Element, Curve}
use Rattle.geom.specs.Mesh.{Mesh}

abbrev pub SPACE : ℕ
SPACE = 32

abbrev pub NEWLINE : ℕ
NEWLINE = 10

-- ---- numbers

-- a digit below 16: `0` to `9`, then `A` to `F`
unfoldable pub digit : ℕ → ℕ
digit d = cond (ltb d 10) (48 + d) (55 + d)

-- the decimal digits of n in front of others, for an n of at most k digits
unfoldable pub decimal_before : ℕ → ℕ → List ℕ → List ℕ
decimal_before zero n after = after
decimal_before (suc k) n after =
    let here = digit (n % 10) ∷ after in
    let more = decimal_before k (n / 10) here in
    cond (eqb (n / 10) 0) here more

-- a number in decimal, with no zero in front
unfoldable pub decimal : ℕ → List ℕ
decimal n = decimal_before (suc n) n []

-- 8 hexadecimal digits, in capitals
unfoldable pub hexadecimal : ℕ → List ℕ
hexadecimal n =
    map (λ (k : ℕ). digit (n / 16 ^ k % 16)) (7 ∷ 6 ∷ 5 ∷ 4 ∷ 3 ∷ 2 ∷ 1 ∷ 0 ∷ [])

-- ---- lines

-- a word after a space
abbrev pub spaced : List ℕ → List ℕ
spaced word = SPACE ∷ word

abbrev pub bits : Float → List ℕ
bits c = spaced (hexadecimal (to_bits binary32 c))

-- v: number and bits of x, y, z, w in hexadecimal
unfoldable pub vertex_line : ℕ → Vertex → List ℕ
vertex_line i v =
    118 ∷ spaced (decimal i)
    ++ bits v.position.x
    ++ bits v.position.y
    ++ bits v.position.z
    ++ bits v.position.w
    ++ NEWLINE ∷ []

-- the vertices from number i on
unfoldable pub vertex_lines : ℕ → List Vertex → List ℕ
vertex_lines i [] = []
vertex_lines i (v ∷ vs) = vertex_line i v ++ vertex_lines (suc i) vs

-- vertex numbers, and e or o
unfoldable pub numbers : List ℕ → List ℕ
numbers = flat_map (λ (v : ℕ). spaced (decimal v))

abbrev pub letter : Parity → List ℕ
letter Even = spaced (101 ∷ [])
letter Odd = spaced (111 ∷ [])

unfoldable pub point_line : ℕ → List ℕ
point_line v = 112 ∷ numbers (v ∷ []) ++ NEWLINE ∷ []

unfoldable pub element_line : ℕ → Element → List ℕ
element_line name e = name ∷ numbers e.corners ++ letter e.parity ++ NEWLINE ∷ []

-- for c after all vertices
unfoldable pub curve_line : Curve → List ℕ
curve_line c = 99 ∷ numbers c.vertices ++ flat_map letter c.parities ++ NEWLINE ∷ []

-- `passes`, `refused`, `after`
abbrev pub PASSES : List ℕ
PASSES = 112 ∷ 97 ∷ 115 ∷ 115 ∷ 101 ∷ 115 ∷ []

abbrev pub REFUSED : List ℕ
REFUSED = 114 ∷ 101 ∷ 102 ∷ 117 ∷ 115 ∷ 101 ∷ 100 ∷ []

abbrev pub AFTER : List ℕ
AFTER = 97 ∷ 102 ∷ 116 ∷ 101 ∷ 114 ∷ []

-- First the number of whole passes; then v, p, l, a, s (volumes), c.
unfoldable pub listing : ℕ → Mesh → List ℕ
listing passes m =
    PASSES ++ spaced (decimal passes) ++ NEWLINE ∷ vertex_lines 0 m.vertices
    ++ flat_map point_line m.points
    ++ flat_map (element_line 108) m.lists.lines
    ++ flat_map (element_line 97) m.lists.areas
    ++ flat_map (element_line 115) m.lists.volumes
    ++ flat_map curve_line m.lists.curves

-- A refusal prints only `refused N after P`, where P is the number of whole passes.
unfoldable pub refusal : ℕ → ℕ → List ℕ
refusal n passes = REFUSED ++ spaced (decimal n) ++ spaced AFTER ++ spaced (decimal passes) ++ NEWLINE ∷ []
