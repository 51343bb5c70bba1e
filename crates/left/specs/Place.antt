-- Where the words that a caller is handed of a list stand, as two numbers: the bench, 0 the first and 1 the second, and how many words from its start.
-- Says nothing of what the words mean.
-- Assumes nothing.
use Rattle.std.specs.Prelude.{◌≡◌, cond, List, ℕ, ◌%◌, eqb, length, get_or, take}
use Rattle.geom.specs.Refusals.{side}

-- the part of one of a list's two slices that two numbers stand for
abbrev pub part_at : {A : Type 0} → List ℕ → List A → List A → List A
part_at place first second = take (get_or place 1 0) (cond (eqb (get_or place 0 0) 0) first second)

-- the two numbers, and that the part is what is left of the list: so many words, or all there are, on the bench that the last whole pass wrote
pub record Placed {A : Type 0} (passes words : ℕ) (first second : List A) (place : List ℕ) : Type 0 where
  pub bench : get_or place 0 0 ≡ passes % 2
  pub count : get_or place 1 0 ≡ length (take words (side passes first second))
  pub part : part_at place first second ≡ take words (side passes first second)
