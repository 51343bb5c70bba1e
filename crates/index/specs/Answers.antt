-- What the functions of the index answer, for keys of two words.
-- Says nothing of where a new entry hangs when there is no cell left for it.
-- Assumes nothing.
use Rattle.std.specs.Prelude.{◌≡◌, Bool, true, false, List, [], ◌∷◌, ◌++◌, ℕ, suc, ◌<◌, Result, Ok, Err}
use Rattle.index.specs.Cells.{NONE, Layout, cells, key_at, keys_of, bucket_of, bucket_at, pairs}
use Rattle.index.specs.Trees.{Linked, Open}

-- the bucket of a key among n
pub record InBucket (L : Layout) (n : ℕ) (q : List ℕ) (h : ℕ) : Type 0 where
  pub is : h ≡ bucket_of L n q
  pub below : h < n

-- e is the entry of the key q
pub record Holds (L : Layout) (words : List ℕ) (made : ℕ) (q : List ℕ) (e : ℕ) : Type 0 where
  pub below : e < made
  pub is : key_at L words e ≡ q

-- no entry has the key q, and a new one, where a cell is left, hangs from the word at
pub record Lacks (L : Layout) (words : List ℕ) (made : ℕ) (q : List ℕ) (at : ℕ) : Type 0 where
  pub absent : (e : ℕ) → e < made → key_at L words e ≡ q → ⊥
  pub hangs : made < cells L words → Open L words made q at

-- the search's answer: the key's entry, or that there is none
abbrev pub Sought : List ℕ → ℕ → List ℕ → Result ℕ ℕ → Type 0
Sought words made q (Ok e) = Holds pairs words made q e
Sought words made q (Err at) = Lacks pairs words made q at

-- whether a link leads to the entry of the key q
abbrev pub Names : List ℕ → ℕ → List ℕ → ℕ → Bool → Type 0
Names words made q link true = Holds pairs words made q link
Names words made q link false = link < made → key_at pairs words link ≡ q → ⊥

-- whether a link leads to an entry of bucket h
abbrev pub Believed : List ℕ → ℕ → ℕ → ℕ → Bool → Type 0
Believed words made h link true = (link < made) × (bucket_at pairs words link ≡ h)
Believed words made h link false = link < made → bucket_at pairs words link ≡ h → ⊥

-- a new entry for the key q can be made, and hangs from the word at
pub record Free (L : Layout) (words : List ℕ) (made : ℕ) (q : List ℕ) (at : ℕ) : Type 0 where
  pub lent : made < cells L words
  pub few : made < NONE
  pub absent : (e : ℕ) → e < made → key_at L words e ≡ q → ⊥
  pub place : Open L words made q at

-- one entry more, with the key q
pub record Entered (L : Layout) (words : List ℕ) (made : ℕ) (q : List ℕ) (after : List ℕ) : Type 0 where
  pub linked : Linked L after (suc made)
  pub keys : keys_of L after (suc made) ≡ keys_of L words made ++ q ∷ []
