-- Vertices, the book's pairs and smoothing's cells as rows of words.
-- Says nothing of what the words mean for a mesh (geom's Memory), nor of when a row is read.
-- Assumes nothing.
use Rattle.std.specs.Prelude.{◌≡◌, ℕ, suc, ◌+◌, ◌*◌, ◌≤◌, ◌<◌, Float, length, get_or, take, drop}
use mathlib.Core.List.{List, map, flat_map}
use Rattle.std.proofs.lemmas.List.Edits.{sets}
use Rattle.numbers.specs.declared.vec4.Vec4.{Vec4}
use Rattle.geom.specs.declared.vertex.Vertex.{Vertex}
use Rattle.geom.specs.Book.{Pair}
use Rattle.geom.specs.Elements.{Element, Curve, Lists}
use Rattle.geom.specs.Form.{Form}
use Rattle.geom.specs.Floats.{points4, binary32}
use Rattle.geom.specs.Memory.{first_of, four_row, vertex_row, four_words, position_words_in, mark_words_in, element_row, element_of, over}
use Rattle.geom.specs.Smoothing.{GatheredIn, Gathered}

-- the words of one position, of one vertex's marks
abbrev pub position_words : Vec4 → List Float
position_words = four_words points4

abbrev pub mark_words : Vertex → List ℕ
mark_words = mark_words_in binary32

-- the words of all positions, of all marks: those that geom's `bench_of` writes
abbrev pub positions_words : List Vertex → List Float
positions_words = flat_map (position_words_in binary32)

abbrev pub marks_words : List Vertex → List ℕ
marks_words = flat_map mark_words

-- the point in row i of 4 floats
abbrev pub point_row : List Float → ℕ → Vec4
point_row = four_row points4

-- the positions of n corners that follow one another
abbrev pub points_in : (F : Form) → List F.Coordinate → List ℕ → ℕ → ℕ → List F.Point
points_in F positions words start n = map (four_row F.points positions) (take n (drop start words))

abbrev pub points : List Float → List ℕ → ℕ → ℕ → List Vec4
points = points_in binary32

-- n vertices, from the words that stand for them
abbrev pub vertices_of : List Float → List ℕ → ℕ → List Vertex
vertices_of positions marks n = first_of (vertex_row positions marks) n

-- n elements, from the words that stand for them
abbrev pub elements_of : ℕ → List ℕ → ℕ → List Element
elements_of corners words n = map element_of (first_of (element_row corners words) n)

-- the new lists; an area has so many angles, a volume so many corners
abbrev pub lists_of : List ℕ → ℕ → ℕ → List ℕ → ℕ → ℕ → List ℕ → ℕ → List Curve → Lists
lists_of lines line angles areas area corners volumes volume curves =
    record {
      lines = elements_of 2 lines line;
      areas = elements_of angles areas area;
      volumes = elements_of corners volumes volume;
      curves = curves;
    }

-- the pair of entry e: words 0 and 1 of row e of the book's 4
unfoldable pub pair_row : List ℕ → ℕ → Pair
pair_row book e = record { first = get_or book (4 * e) 0; second = get_or book (4 * e + 1) 0 }

-- what vertex v has gathered: its sum, count and touch
unfoldable pub gathered_row_in : (F : Form) → List F.Cell → List ℕ → ℕ → GatheredIn F
gathered_row_in F sums tallies v =
    record { sum = four_row F.sums sums v; count = get_or tallies (2 * v) 0; touch = get_or tallies (2 * v + 1) 0 }

abbrev pub gathered_row : List Float → List ℕ → ℕ → Gathered
gathered_row = gathered_row_in binary32

-- row i stands in slices of 4 and 3 words a row
pub record Row {A : Type 0} (positions : List A) (marks : List ℕ) (i : ℕ) : Type 0 where
  pub position : 4 * i + 4 ≤ length positions
  pub mark : 3 * i + 3 ≤ length marks

-- n rows stand there
pub record Stand {A : Type 0} (positions : List A) (marks : List ℕ) (n : ℕ) : Type 0 where
  pub points : 4 * n ≤ length positions
  pub words : 3 * n ≤ length marks

-- entry e of the book has ends below the count
pub record Ends (book : List ℕ) (e count : ℕ) : Type 0 where
  pub room : 4 * e + 4 ≤ length book
  pub first : (pair_row book e).first < count
  pub second : (pair_row book e).second < count

-- so have the entries from one on
pub record Pairs (book : List ℕ) (start new count : ℕ) : Type 0 where
  pub ends : (e : ℕ) → e < new → Ends book (start + e) count

-- the pairs of those entries
unfoldable pub pairs_from : List ℕ → ℕ → ℕ → List Pair
pairs_from book start new = first_of (λ (e : ℕ). pair_row book (start + e)) new

-- vertices written from row c on over what the slices held
pub record LaidIn (F : Form) (held : List F.Coordinate) (noted : List ℕ) (c : ℕ) (vertices : List F.Vertex) (positions : List F.Coordinate) (marks : List ℕ) : Type 0 where
  pub points : positions ≡ sets held (4 * c) (flat_map (position_words_in F) vertices)
  pub words : marks ≡ sets noted (3 * c) (flat_map (mark_words_in F) vertices)

abbrev pub Laid : List Float → List ℕ → ℕ → List Vertex → List Float → List ℕ → Type 0
Laid = LaidIn binary32

-- vertices written from the start
pub record OverIn (F : Form) (held : List F.Coordinate) (noted : List ℕ) (vertices : List F.Vertex) (positions : List F.Coordinate) (marks : List ℕ) : Type 0 where
  pub points : positions ≡ over held (flat_map (position_words_in F) vertices)
  pub words : marks ≡ over noted (flat_map (mark_words_in F) vertices)

abbrev pub Over : List Float → List ℕ → List Vertex → List Float → List ℕ → Type 0
Over = OverIn binary32

-- smoothing's cells for n vertices
pub record Lent {A : Type 0} (sums : List A) (tallies : List ℕ) (n : ℕ) : Type 0 where
  pub sum : 4 * n ≤ length sums
  pub tally : 2 * n ≤ length tallies

-- how much one vertex may gather: the counts that are binary32 numbers without a gap
abbrev pub MOST : ℕ
MOST = 16_777_216

-- n corners that follow one another are vertices below the count
pub record Corners (words : List ℕ) (start n count : ℕ) : Type 0 where
  pub room : start + n ≤ length words
  pub below : (k : ℕ) → k < n → get_or words (start + k) 0 < count

-- elements stand in the slice, with corners that are vertices below the count
pub record Elements (words : List ℕ) (corners n count : ℕ) : Type 0 where
  pub room : suc corners * n ≤ length words
  pub below : (i : ℕ) → i < n → (k : ℕ) → k < corners → get_or words (suc corners * i + k) 0 < count

-- the new lists of a pass, no more of them than one vertex may gather from
pub record Gathers (lines : List ℕ) (line : ℕ) (areas : List ℕ) (area angles : ℕ) (volumes : List ℕ) (volume corners count : ℕ) : Type 0 where
  pub ends : Elements lines 2 line count
  pub faces : Elements areas angles area count
  pub bodies : Elements volumes corners volume count
  pub light : corners * volume + angles * area + 2 * line ≤ MOST

-- what a pass's vertex rules start from: the old vertices, the new pairs, the new lists, and room for all vertices
pub record Ready {A B : Type 0} (positions : List A) (marks book : List ℕ) (count start new : ℕ) (out : List A) (notes : List ℕ) (sums : List B) (tallies : List ℕ) : Type 0 where
  pub old : Stand positions marks count
  pub pairs : Pairs book start new count
  pub other : Stand out notes (count + new)
  pub lent : Lent sums tallies (count + new)
