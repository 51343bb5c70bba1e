-- Document 01, section 8: what the program `sheet` prints for its standard input, as one function from bytes to bytes.
-- Of 'more than 65,536 bytes' all of the input is counted, the depth and smooth_time bytes too.
-- Says nothing of how the program reads and writes.
-- Assumes nothing.
use Rattle.std.specs.Prelude.{cond, List, [], ◌∷◌, ℕ, eqb, leb, length}
use Rattle.geom.specs.declared.answer.Sizes.{Sizes}
use Rattle.geom.specs.Book.{Kind}
use Rattle.geom.specs.Answers.{Verdict, accepted, refused}
use Rattle.geom.specs.Refinement.{Lent, Run, run}
use Rattle.geom.specs.Refusals.{good_parity}
use Rattle.geom.specs.File.{Read, read, stop, Figure, figure}
use Rattle.geom.specs.Listing.{listing, refusal}

-- It lends 1,024 cells to each list and to the book.
abbrev pub SHEET_CELLS : Sizes
SHEET_CELLS =
    record {
      vertices = 1024;
      points = 1024;
      lines = 1024;
      areas = 1024;
      volumes = 1024;
      curves = 1024;
      curve_vertices = 1024;
    }

abbrev pub SHEET_LENT : Lent
SHEET_LENT = record { cells = SHEET_CELLS; book = 1024 }

-- the listing, or only the refusal
abbrev pub printed_by : Verdict → Run → List ℕ
printed_by accepted r = listing r.passes r.left.mesh
printed_by (refused n) r = refusal n r.passes

unfoldable pub printed : Run → List ℕ
printed r = printed_by r.verdict r

-- a file that was judged, refined
abbrev pub refined_by : ℕ → ℕ → Read Figure → List ℕ
refined_by depth time (stop n) = refusal n 0
refined_by depth time (read f bytes) = printed (run f.kind (eqb time 1) SHEET_LENT depth f.mesh)

-- A depth byte, a smooth_time byte (0 or 1) and a file, judged in that order; a missing byte is 3.
unfoldable pub sheet_fields : List ℕ → List ℕ
sheet_fields [] = refusal 3 0
sheet_fields (depth ∷ []) = refusal 3 0
sheet_fields (depth ∷ time ∷ bytes) =
    let rest = refined_by depth time (figure (λ (kind : Kind). SHEET_CELLS) bytes) in
    cond (good_parity time) rest (refusal 5 0)

-- Before all else an input of more than 65,536 bytes is refused by 10.
unfoldable pub sheet : List ℕ → List ℕ
sheet input = let rest = sheet_fields input in cond (leb (length input) 65_536) rest (refusal 10 0)
