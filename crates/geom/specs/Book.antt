-- Document 01, section 2: the midpoint book, as list rules: vertex numbers alone.
-- The book is the list of its directed pairs in order of creation. `base` is the vertex count handed in, and each entry made one vertex,
-- so the vertex of entry e is base + e.
-- Says nothing of a vertex's position, flags, tag or k, of the room that is lent, or of how the book is kept and searched in memory.
-- Assumes nothing.
use Rattle.std.specs.Prelude.{Bool, cond, ◌&&◌, List, [], ◌∷◌, ◌++◌, ℕ, suc, ◌+◌, eqb, length}

-- the two kinds of mesh
pub data Kind : Type 0 where
  cubes : Kind
  simplices : Kind

-- a directed pair of vertices
pub record Pair : Type 0 where
  pub first : ℕ
  pub second : ℕ

-- the pair [a,b]
abbrev pub pair : ℕ → ℕ → Pair
pair a b = record { first = a; second = b }

-- directed: [a,b] isn't [b,a]
abbrev pub same_pair : Pair → Pair → Bool
same_pair p q = eqb p.first q.first && eqb p.second q.second

-- the pairs in order of creation
abbrev pub Book : Type 0
Book = List Pair

-- The search of the book ends with the vertex that it found or with none.
pub data Found : Type 0 where
  found : ℕ → Found
  none : Found

-- the search from the front, `base` being the vertex of the first entry
unfoldable pub find : ℕ → Book → Pair → Found
find base [] q = none
find base (p ∷ book) q = cond (same_pair p q) (found base) (find (suc base) book q)

-- Cubes only: [a,a] gives a itself, with no entry.
unfoldable pub seek : Kind → ℕ → Book → Pair → Found
seek cubes base book q = cond (eqb q.first q.second) (found q.first) (find base book q)
seek simplices base book q = find base book q

-- what a search found, or else v
abbrev pub vertex_or : ℕ → Found → ℕ
vertex_or v (found w) = w
vertex_or v none = v

-- the book after a search for q: a new entry at the end where there was none
abbrev pub book_or : Book → Pair → Found → Book
book_or book q (found w) = book
book_or book q none = book ++ q ∷ []

-- A pair that is in the book gives its vertex, else a vertex is made: the next number.
unfoldable pub midpoint : Kind → ℕ → Book → Pair → ℕ
midpoint kind base book q = vertex_or (base + length book) (seek kind base book q)

-- what a rule makes, and the book after it
pub record Made (A : Type 0) : Type 0 where
  pub made : List A
  pub book : Book

-- a rule for each entry of a list, in list order, with one book through all
unfoldable pub each : {A B : Type 0} → (Book → A → Made B) → Book → List A → Made B
each rule book [] = record { made = []; book = book }
each rule book (x ∷ xs) =
    let m = rule book x in
    let rest = each rule m.book xs in
    record { made = m.made ++ rest.made; book = rest.book }

-- the book's rule: the midpoint of one pair, and the book after it
unfoldable pub place : Kind → ℕ → Book → Pair → Made ℕ
place kind base book q = record { made = midpoint kind base book q ∷ []; book = book_or book q (seek kind base book q) }

-- the midpoints of some pairs, made in this order
unfoldable pub mids : Kind → ℕ → Book → List Pair → Made ℕ
mids kind base = each (place kind base)
