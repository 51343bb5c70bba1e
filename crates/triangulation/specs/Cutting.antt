-- The pieces that a table in memory makes of an element, and of a list of elements.
-- Says nothing of which table is a square's or a cube's: the entry's contract names the definition's own (`Triangulation.antt` of `geom`).
-- Assumes nothing.
use Rattle.std.specs.Prelude.{◌≡◌, true, ℕ, suc, ◌+◌, ◌*◌, ◌-◌, ◌≤◌, ◌<◌, length, get_or, take, drop}
use mathlib.Core.List.{List, [], ◌∷◌, map, flat_map}
use Rattle.geom.specs.declared.parity.Parity.{Parity}
use Rattle.geom.specs.Parity.{times}
use Rattle.geom.specs.Book.{Pair, pair}
use Rattle.geom.specs.Elements.{Element, pick, flat, unless, pieces as pieces_of}
use Rattle.geom.specs.Memory.{first_of, element_row, element_of, parity_of}
use Rattle.division.specs.Shapes.{below, row_of}

-- the neighbours in the list of a piece with so many corners, each pair alone
unfoldable pub neighbours : ℕ → List (List Pair)
neighbours size = first_of (λ (i : ℕ). pair i (suc i) ∷ []) (size - 1)

-- the piece whose row of the table begins at a word, or nothing where it has equal neighbours
abbrev pub cut_from : ℕ → List ℕ → ℕ → Parity → List ℕ → List Element
cut_from size table from p points =
    unless (flat (neighbours size) (pick points (take size (drop from table))))
    (record { corners = pick points (take size (drop from table)); parity = times (parity_of (get_or table (from + size) 0)) p })
    []

-- the pieces of an element by the rows of a table
unfoldable pub cut_by : ℕ → List ℕ → ℕ → Parity → List ℕ → List Element
cut_by size table pieces p points = pieces_of (neighbours size) p points (map row_of (first_of (element_row size table) pieces))

-- the pieces of the first elements of a list in memory, in list order
unfoldable pub cut_all : ℕ → ℕ → List ℕ → ℕ → List ℕ → ℕ → List Element
cut_all corners size table pieces old rows =
    flat_map (λ (e : Element). cut_by size table pieces e.parity e.corners) (map element_of (first_of (element_row corners old) rows))

-- a table for pieces of so many corners speaks of corners that there are
pub record Speaks (corners size : ℕ) (table : List ℕ) : Type 0 where
  pub some : 0 < size
  pub places : below corners table ≡ true

-- and has so many rows
pub record Table (corners size pieces : ℕ) (table : List ℕ) : Type 0 where
  pub speaks : Speaks corners size table
  pub few : pieces ≤ 6
  pub whole : length table ≡ suc size * pieces
