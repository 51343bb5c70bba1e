-- That the rule of lines only adds to the book, as the rule of every list has to.
-- Assumes nothing.
use mathlib.Core.List.{[], ◌∷◌}
use native.Mathlib.Omega.{arith}
use lib.ListN.{length-append}
use Rattle.std.specs.Prelude.{ℕ, ◌≤◌, length}
use Rattle.geom.specs.Book.{Kind, Pair, Book, Found, found, none, seek, book_or}
use Rattle.geom.specs.Elements.{Element}
use Rattle.geom.specs.Rules.{line}

pub book_or_grows : (book : Book) (q : Pair) (f : Found) → length book ≤ length (book_or book q f)
book_or_grows book q (found v) = omega arith
book_or_grows book q none = omega (arith, length-append book (q ∷ []))

pub line_grows : (kind : Kind) (base : ℕ) (b : Book) (x : Element) → length b ≤ length (line kind base b x).book
unfolding line
line_grows kind base b x = book_or_grows b _ (seek kind base b _)
