-- Document 01, section 5: the ledger of faces, its refinement over a book, and what closed means.
-- A ledger gives every ordered list of vertices an entry. Its refinement is a function of the ledger and the book alone: it sums over all
-- lists of three (or four) vertex numbers, and asks no cell of a mesh.
-- Says nothing of lines, areas or curves.
-- Assumes nothing.
use Rattle.std.specs.Prelude.{◌≡◌, Bool, true, false, cond, ◌&&◌, List, [], ◌∷◌, map, ℕ, zero, suc, ◌+◌, eqb, ℤ, pos, ◌+ℤ◌, neg_ℤ, length}
use Rattle.geom.specs.declared.parity.Parity.{Parity}
use Rattle.geom.specs.declared.parity.Parity.TheVariants.{Even, Odd}
use Rattle.geom.specs.Book.{Kind, cubes, simplices, Book, midpoint}
use Rattle.geom.specs.Elements.{Element, Row, Shape, Lists, pairs_of, pieces, assemble}
use Rattle.geom.specs.Rules.{same, turned}
use Rattle.geom.specs.Simplices.{TRIANGLE, TETRAHEDRON}
use Rattle.geom.specs.Cubes.{SQUARE, CUBE}
use Rattle.geom.specs.Passes.{book_after}

-- A ledger gives every ordered list of vertices an entry, a signed whole number.
abbrev pub Ledger : Type 0
Ledger = List ℕ → ℤ

-- the same list of vertices
unfoldable pub same_list : List ℕ → List ℕ → Bool
same_list [] [] = true
same_list [] (y ∷ ys) = false
same_list (x ∷ xs) [] = false
same_list (x ∷ xs) (y ∷ ys) = eqb x y && same_list xs ys

-- sign + if even
abbrev pub signed : Parity → ℤ → ℤ
signed Even z = z
signed Odd z = neg_ℤ z

-- z put on each of some faces, with its parity's sign; faces that coincide add up, from 0
unfoldable pub spread : ℤ → List Element → Ledger
spread z [] t = pos 0
spread z (f ∷ fs) t = cond (same_list f.corners t) (signed f.parity z) (pos 0) +ℤ spread z fs t

-- A tetrahedron adds sign times +, -, +, - to the triples left by omitting corner 0, 1, 2, 3.
abbrev pub TETRAHEDRON_FACES : List Row
TETRAHEDRON_FACES =
    same (1 ∷ 2 ∷ 3 ∷ []) ∷
    turned (0 ∷ 2 ∷ 3 ∷ []) ∷
    same (0 ∷ 1 ∷ 3 ∷ []) ∷
    turned (0 ∷ 1 ∷ 2 ∷ []) ∷
    []

-- A cube adds sign times -, +, -, +, -, + to [0,1,2,3], [0,1,4,5], [0,2,4,6], [1,3,5,7], [2,3,6,7], [4,5,6,7].
abbrev pub CUBE_FACES : List Row
CUBE_FACES =
    turned (0 ∷ 1 ∷ 2 ∷ 3 ∷ []) ∷
    same (0 ∷ 1 ∷ 4 ∷ 5 ∷ []) ∷
    turned (0 ∷ 2 ∷ 4 ∷ 6 ∷ []) ∷
    same (1 ∷ 3 ∷ 5 ∷ 7 ∷ []) ∷
    turned (2 ∷ 3 ∷ 6 ∷ 7 ∷ []) ∷
    same (4 ∷ 5 ∷ 6 ∷ 7 ∷ []) ∷
    []

abbrev pub face_table : Kind → List Row
face_table cubes = CUBE_FACES
face_table simplices = TETRAHEDRON_FACES

-- the shape of a volume, and of a face of one
abbrev pub volume_shape : Kind → Shape
volume_shape cubes = CUBE
volume_shape simplices = TETRAHEDRON

abbrev pub face_shape : Kind → Shape
face_shape cubes = SQUARE
face_shape simplices = TRIANGLE

-- the faces of a volume with their signs; nothing is added to a flat square
unfoldable pub faces : Kind → Element → List Element
faces kind v = pieces (face_shape kind).axes v.parity v.corners (face_table kind)

-- the signed whole number that the mesh's volumes add up to from 0
unfoldable pub ledger : Kind → List Element → Ledger
ledger kind [] t = pos 0
ledger kind (v ∷ vs) t = spread (pos 1) (faces kind v) t +ℤ ledger kind vs t

-- The pieces that an entry is put on: those of section 3 (triangle; the flipped piece negated) or, for a square [a,b,c,d],
-- [a,ab,ac,ad], [ab,b,ad,bd], [ac,ad,c,cd], [ad,bd,cd,d], flat ones left out; the midpoints as the book has them.
unfoldable pub face_pieces : Kind → ℕ → Book → List ℕ → List Element
face_pieces kind base book c =
    let s = face_shape kind in
    assemble s Even c (map (midpoint kind base book) (pairs_of c s.edges))

-- the sum of f over the numbers below n
unfoldable pub sum_below : ℕ → (ℕ → ℤ) → ℤ
sum_below zero f = pos 0
sum_below (suc n) f = sum_below n f +ℤ f n

-- the sum of f over all lists of k numbers below n
unfoldable pub sum_lists : ℕ → ℕ → (List ℕ → ℤ) → ℤ
sum_lists n zero f = f []
sum_lists n (suc k) f = sum_below n (λ (i : ℕ). sum_lists n k (λ (c : List ℕ). f (i ∷ c)))

-- Every entry put on its pieces; pieces that coincide add up. (An entry 0 adds 0 to its pieces.) The lists that can have an entry are those of k numbers below n.
unfoldable pub put : ℕ → ℕ → (List ℕ → List Element) → Ledger → Ledger
put n k pieces_of l t = sum_lists n k (λ (c : List ℕ). spread (l c) (pieces_of c) t)

-- Refining puts every face's entry on the face's pieces. The vertices are those below the count after the pass, base + the book's length.
unfoldable pub refine : Kind → ℕ → Book → Ledger → Ledger
refine kind base book l = put (base + length book) (face_shape kind).count (face_pieces kind base book) l

-- a ledger refined n times: the k-th time over the midpoints after pass k, as the book is made from the lists handed in
unfoldable pub refined : Kind → ℕ → Lists → ℕ → Ledger → Ledger
refined kind base lists zero l = l
refined kind base lists (suc n) l = refine kind base (book_after kind base lists (suc n)) (refined kind base lists n l)

-- Closed: every entry is 0.
unfoldable pub Closed : Ledger → Type 0
Closed l = (t : List ℕ) → l t ≡ pos 0
