-- Document 01, sections 2 to 4: any number of passes over the lists handed in, with one book, empty at the start and kept through all.
-- The passes know no room: how many of them fit what is lent is not said here.
-- Assumes nothing.
use Rattle.std.specs.Prelude.{[], ℕ, zero, suc}
use Rattle.geom.specs.Book.{Kind, cubes, simplices, Book}
use Rattle.geom.specs.Elements.{Lists}
use Rattle.geom.specs.Rules.{Went}
use Rattle.geom.specs.Simplices.{simplex_pass}
use Rattle.geom.specs.Cubes.{cube_pass}

-- one pass of the kind
abbrev pub pass : Kind → ℕ → Went → Went
pass cubes = cube_pass
pass simplices = simplex_pass

-- lists and book after n passes, the last pass outermost
unfoldable pub passes : Kind → ℕ → Lists → ℕ → Went
passes kind base lists zero = record { lists = lists; book = [] }
passes kind base lists (suc n) = pass kind base (passes kind base lists n)

-- the lists after n passes
abbrev pub lists_after : Kind → ℕ → Lists → ℕ → Lists
lists_after kind base lists n = (passes kind base lists n).lists

-- the book after pass k
abbrev pub book_after : Kind → ℕ → Lists → ℕ → Book
book_after kind base lists k = (passes kind base lists k).book
