-- Document 02, U8: the ledger of cubes through triangulation. Model makers start from cubes and print tetrahedra.
-- Reading and replacing are functions of a ledger alone and ask no cell of a mesh.
-- Says nothing of triangles that a mesh lists as areas: a ledger is of volumes.
-- Assumes nothing. What is claimed of different corners has a mesh that meets it (proofs/Around).
use Rattle.std.specs.Prelude.{◌≡◌, Bool, true, false, cond, not, ◌&&◌, ◌||◌, List, [], ◌∷◌, ℕ, eqb, pos}
use Rattle.geom.specs.declared.parity.Parity.TheVariants.{Even, Odd}
use Rattle.geom.specs.Book.{cubes, simplices, Pair, pair}
use Rattle.geom.specs.Elements.{Element, pick, flat}
use Rattle.geom.specs.Ledger.{Ledger, ledger, put}
use Rattle.geom.specs.Refusals.{every}

-- Equal neighbours: x = y or y = z in [x,y,z], as in the triangles that section 6 drops. [x,y,x] has none.
abbrev pub UNREAD : List (List Pair)
UNREAD =
    (pair 0 1 ∷ []) ∷
    (pair 1 2 ∷ []) ∷
    []

-- a ledger read without triples that have equal neighbours
unfoldable pub read : Ledger → Ledger
read l t = cond (flat UNREAD t) (pos 0) (l t)

-- [a,b,d] minus [a,c,d], for a square [a,b,c,d]
unfoldable pub triangles : List ℕ → List Element
triangles square =
    record { corners = pick square (0 ∷ 1 ∷ 3 ∷ []); parity = Even }
    ∷ record { corners = pick square (0 ∷ 2 ∷ 3 ∷ []); parity = Odd }
    ∷ []

-- A ledger of squares with each square replaced by its triangles; triangles that coincide add up. The squares are those of vertices below n.
unfoldable pub replaced : ℕ → Ledger → Ledger
replaced n = put n 4 triangles

-- The ledger of the tetrahedra, as it is read, is the ledger of the cubes with each square replaced, read the same way.
abbrev pub LedgerCut : ℕ → List Element → List Element → Type 0
LedgerCut n solids tetrahedra =
    (face : List ℕ) → read (ledger simplices tetrahedra) face ≡ read (replaced n (ledger cubes solids)) face

-- no vertex twice
unfoldable pub among : ℕ → List ℕ → Bool
among x [] = false
among x (y ∷ ys) = eqb x y || among x ys

unfoldable pub different : List ℕ → Bool
different [] = true
different (x ∷ xs) = not (among x xs) && different xs

-- every element's corners are different
abbrev pub Different : List Element → Type 0
Different vs = every (λ (v : Element). different v.corners) vs ≡ true
