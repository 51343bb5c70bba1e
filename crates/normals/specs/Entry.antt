-- What an entry owes of the elements that its normals come from: they stand where the lists handed in are accepted, and what their normals come to is what the
-- definition of the entry's dimension gives, with all that is claimed of it.
-- Says nothing of which elements they are.
-- Assumes nothing.
use Rattle.std.specs.Prelude.{◌≡◌, true, List, ℕ, ◌<◌, Float}
use Rattle.geom.specs.declared.answer.Sizes.{Sizes}
use Rattle.geom.specs.Answers.{accepted, first_due}
use Rattle.geom.specs.Book.{simplices}
use Rattle.geom.specs.Memory.{Bench}
use Rattle.geom.specs.Normals.{Shaded, shaded_by, shading_verdict}
use Rattle.geom.specs.Refusals.{handed_in}
use Rattle.geom.specs.Turning.{Dimension, Shades}
use Rattle.normals.specs.Cells.{Signed}

-- `faces` is their list of a bench, `number` how many of it the caller states, and `words` the words of all normals
pub record Entry (d : Dimension) (width corners : ℕ) (faces : Bench → List ℕ) (number : Sizes → ℕ) (words : Sizes → Bench → List Float) : Type 0 where
  pub some : 0 < width
  pub stand : (s : Sizes) (b : Bench) → first_due (handed_in true true simplices s b) ≡ accepted → Signed (faces b) corners (number s) s.vertices
  pub shades : (s : Sizes) (b : Bench) (lent : List Float) (t : Shaded) → t ≡ shaded_by (shading_verdict width s b lent) (words s b) lent → Shades d s b lent t
