-- Document 01, sections 2 to 4: the rules of an area and of a volume by the kind, and what holds of lists and book between passes: every number
-- is that of a vertex, every element has its kind's number of corners, and every entry of the book is younger than its ends.
-- Says nothing of words in memory. No promise of an entry speaks of it: contracts of a pass's parts do.
-- Assumes nothing.
use Rattle.std.specs.Prelude.{◌≡◌, List, [], ◌∷◌, ℕ, suc, ◌+◌, ◌<◌, length}
use Rattle.geom.specs.Book.{Kind, cubes, simplices, Pair, Book, Made}
use Rattle.geom.specs.Elements.{Element, Curve, Lists}
use Rattle.geom.specs.Rules.{divide, Went}
use Rattle.geom.specs.Simplices.{triangle}
use Rattle.geom.specs.Cubes.{square}
use Rattle.geom.specs.Ledger.{face_shape, volume_shape}

-- the rule of an area, and of a volume
abbrev pub area_rule : Kind → ℕ → Book → Element → Made Element
area_rule cubes = square
area_rule simplices = triangle

abbrev pub volume_rule : Kind → ℕ → Book → Element → Made Element
volume_rule kind = divide kind (volume_shape kind)

-- P holds of each entry
abbrev pub All : {A : Type 0} → (A → Type 0) → List A → Type 0
All P [] = Unit {0}
All P (x ∷ xs) = P x × All P xs

-- numbers below n
abbrev pub Below : ℕ → List ℕ → Type 0
Below n = All (λ (x : ℕ). x < n)

-- k numbers below n
pub record Fits (n k : ℕ) (c : List ℕ) : Type 0 where
  pub long : length c ≡ k
  pub below : Below n c

-- an element with k corners, all below n
abbrev pub Proper : ℕ → ℕ → Element → Type 0
Proper n k e = Fits n k e.corners

-- an area and a volume of the kind
abbrev pub IsArea : Kind → ℕ → Element → Type 0
IsArea kind n = Proper n (face_shape kind).count

abbrev pub IsVolume : Kind → ℕ → Element → Type 0
IsVolume kind n = Proper n (volume_shape kind).count

-- Every vertex number is below the count n, and every element has its kind's number of corners.
pub record Well (kind : Kind) (n : ℕ) (l : Lists) : Type 0 where
  pub lines : All (Proper n 2) l.lines
  pub areas : All (IsArea kind n) l.areas
  pub volumes : All (IsVolume kind n) l.volumes
  pub curves : All (λ (c : Curve). Below n c.vertices) l.curves

-- both ends are below m
pub record Low (m : ℕ) (q : Pair) : Type 0 where
  pub start : q.first < m
  pub stop : q.second < m

-- a book whose entries are younger than their ends, b being the vertex of the first
abbrev pub Rising : ℕ → Book → Type 0
Rising b [] = Unit {0}
Rising b (p ∷ book) = Low b p × Rising (suc b) book

-- what holds between passes
pub record Good (kind : Kind) (base : ℕ) (w : Went) : Type 0 where
  pub rising : Rising base w.book
  pub well : Well kind (base + length w.book) w.lists
