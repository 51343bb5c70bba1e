-- Rows of elements in words.
-- Assumes nothing.
use mathlib.Core.Path.{◌≡◌, refl, ◌∙◌}
use mathlib.Core.List.{List, [], ◌∷◌, ◌++◌}
use Prim.Native.Nat.{ℕ, suc, ◌+◌, ◌*◌, ◌≤◌}
use native.Mathlib.Omega.{arith}
use native.Mathlib.Nat.{mul-suc}
use native.Mathlib.Numerals.{add-one}
use lib.ListN.{length, take, drop, length-drop, length-map}
use lib.Seq.{length-take-le}
use Rattle.geom.specs.Elements.{Element, point_at, pick}
use Rattle.geom.specs.Memory.{element_words, parity_word}
use Rattle.geom.proofs.Rows.{flat_map_append}

-- the words of one element
abbrev pub row_words : Element → List ℕ
row_words e = e.corners ++ parity_word e.parity ∷ []

pub words_append : (xs ys : List Element) → element_words (xs ++ ys) ≡ element_words xs ++ element_words ys
unfolding element_words
words_append = flat_map_append row_words

-- a row more
pub row_on : (k i : ℕ) → suc k * i + (k + 1) ≡ suc k * (i + 1)
row_on k i = rw (add-one k, add-one i, mul-suc) refl

-- as many points as places
pub length_pick : (points table : List ℕ) (from k : ℕ) → from + suc k ≤ length table → length (pick points (take k (drop from table))) ≡ k
unfolding pick
length_pick points table from k l =
    length-map (take k (drop from table)) (point_at points) ∙ length-take-le k (drop from table) (omega (arith, length-drop from table))
