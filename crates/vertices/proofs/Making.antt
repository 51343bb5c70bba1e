-- Vertices written one after the other: the old ones, then those that the book's new pairs make.
-- Assumes nothing.
use mathlib.Core.Path.{◌≡◌, refl, sym, ◌∙◌, ap, ap₂}
use mathlib.Core.List.{List, [], ◌∷◌, map, flat_map}
use Prim.Native.Nat.{ℕ, ◌+◌, ◌*◌, ◌<◌}
use native.Mathlib.Omega.{arith}
use lib.ListN.{length, get_or, take, length-append}
use lib.Seq.{sets, length-sets}
use Rattle.geom.specs.Form.{Form}
use Rattle.geom.specs.Memory.{first_of, four_row, vertex_row_in, four_words, position_words_in, mark_words_in, over}
use Rattle.geom.specs.Vertices.{midpoint_in, vertex_in, pair_in}
use Rattle.geom.specs.Smoothing.{with_midpoints_in}
use Rattle.vertices.specs.Cells.{Row, Stand, Ends, pair_row, pairs_from, LaidIn, OverIn}
use Rattle.geom.proofs.Rows.{length_first_of, get_d_first_of, map_first_of}
use Rattle.vertices.proofs.Written.{sets_over, flat_read, laid_on, laid_over, over_behind, length_flat}

-- a row of those that stand
row_at : {A : Type 0} (positions : List A) (marks : List ℕ) (n i : ℕ) → Stand positions marks n → i < n → Row positions marks i
row_at positions marks n i s h = record { position = omega arith; mark = omega arith }

pub first_row : {A : Type 0} (positions : List A) (marks book : List ℕ) (e count a : ℕ) → Stand positions marks count → Ends book e count → a ≡ get_or book (4 * e) 0
    → Row positions marks a
unfolding pair_row
first_row positions marks book e count a s n q = row_at positions marks count a s (omega (arith, n.first))

pub second_row : {A : Type 0} (positions : List A) (marks book : List ℕ) (e count a : ℕ) → Stand positions marks count → Ends book e count
    → a ≡ get_or book (4 * e + 1) 0 → Row positions marks a
unfolding pair_row
second_row positions marks book e count a s n q = row_at positions marks count a s (omega (arith, n.second))

-- ---- over a form

module _ (F : Form) where
  module _ (held : List F.Coordinate) (noted : List ℕ) (c : ℕ) where
    -- nothing is written at first
    pub laid_start : (item : ℕ → F.Vertex) → LaidIn F held noted c (first_of item 0) held noted
    unfolding first_of flat_map
    laid_start item = record { points = refl; words = refl }

    module _ (vertices : List F.Vertex) (positions : List F.Coordinate) (marks : List ℕ) (l : LaidIn F held noted c vertices positions marks) where
      pub laid_points : length positions ≡ length held
      laid_points = ap length l.points ∙ length-sets held (4 * c) (flat_map (position_words_in F) vertices)

      pub laid_words : length marks ≡ length noted
      laid_words = ap length l.words ∙ length-sets noted (3 * c) (flat_map (mark_words_in F) vertices)

      pub laid_row : (n i : ℕ) → Stand held noted n → i < n → Row positions marks i
      laid_row n i s h = record { position = omega (arith, laid_points); mark = omega (arith, laid_words) }

    -- a vertex more
    pub laid_more : (item : ℕ → F.Vertex) (i j : ℕ) (positions : List F.Coordinate) (marks : List ℕ) (v : F.Vertex) (positions' : List F.Coordinate) (marks' : List ℕ)
        → LaidIn F held noted c (first_of item i) positions marks → j ≡ c + i → v ≡ item i → LaidIn F positions marks j (v ∷ []) positions' marks'
        → LaidIn F held noted c (first_of item (i + 1)) positions' marks'
    unfolding flat_map
    laid_more item i j positions marks v positions' marks' l e q m =
        record {
          points =
              m.points
              ∙ ap₂ (λ (k : ℕ) (u : F.Vertex). sets positions (4 * k) (position_words_in F u)) e q
              ∙ laid_on (position_words_in F) 4 (λ v. refl) held positions item c i l.points;
          words =
              m.words
              ∙ ap₂ (λ (k : ℕ) (u : F.Vertex). sets marks (3 * k) (mark_words_in F u)) e q
              ∙ laid_on (mark_words_in F) 3 (λ v. refl) noted marks item c i l.words;
        }

  -- the words of vertices are those that they were read from
  module _ (positions : List F.Coordinate) (marks : List ℕ) (n : ℕ) (s : Stand positions marks n) where
    position_words_lem : flat_map (position_words_in F) (first_of (vertex_row_in F positions marks) n) ≡ take (4 * n) positions
    unfolding vertex_row_in four_row first_of
    position_words_lem =
        flat_read (position_words_in F) 4 (λ v. refl) (vertex_row_in F positions marks) positions F.points.zero
        (λ i.
        let z : 4 * i ≡ 4 * i + 0 = omega arith in
        let axes = F.points.axes_of_lem (get_or positions (4 * i) F.points.zero) (get_or positions (4 * i + 1) F.points.zero) (get_or positions (4 * i + 2) F.points.zero) (get_or positions (4 * i + 3) F.points.zero) in
        ap (four_words F.points) (F.parts_of _ _ _ _).0
        ∙ (λ j. axes.0 j ∷ axes.1 j ∷ axes.2 j ∷ axes.3 j ∷ [])
        ∙ (λ j. get_or positions (z j) F.points.zero ∷ get_or positions (4 * i + 1) F.points.zero ∷ get_or positions (4 * i + 2) F.points.zero ∷ get_or positions (4 * i + 3) F.points.zero ∷ []))
        n s.points

    mark_words_lem : flat_map (mark_words_in F) (first_of (vertex_row_in F positions marks) n) ≡ take (3 * n) marks
    unfolding vertex_row_in first_of
    mark_words_lem =
        flat_read (mark_words_in F) 3 (λ v. refl) (vertex_row_in F positions marks) marks 0
        (λ i.
        let z : 3 * i ≡ 3 * i + 0 = omega arith in
        let parts = F.parts_of (four_row F.points positions i) (get_or marks (3 * i) 0) (get_or marks (3 * i + 1) 0) (get_or marks (3 * i + 2) 0) in
        (λ j. parts.1 j ∷ parts.2 j ∷ parts.3 j ∷ []) ∙ (λ j. get_or marks (z j) 0 ∷ get_or marks (3 * i + 1) 0 ∷ get_or marks (3 * i + 2) 0 ∷ []))
        n s.words

    -- vertices copied word by word
    pub laid_copied : (held : List F.Coordinate) (noted : List ℕ) (positions' : List F.Coordinate) (marks' : List ℕ) → Stand held noted n
        → positions' ≡ over held (take (4 * n) positions) → marks' ≡ over noted (take (3 * n) marks)
        → LaidIn F held noted 0 (first_of (vertex_row_in F positions marks) n) positions' marks'
    laid_copied held noted positions' marks' o p q =
        record {
          points =
              p
              ∙ ap (over held) (sym position_words_lem)
              ∙ sym (laid_over (position_words_in F) 4 (λ v. refl) held (vertex_row_in F positions marks) n o.points);
          words =
              q
              ∙ ap (over noted) (sym mark_words_lem)
              ∙ sym (laid_over (mark_words_in F) 3 (λ v. refl) noted (vertex_row_in F positions marks) n o.words);
        }

  -- one vertex is a list of one
  pub laid_one : (held : List F.Coordinate) (noted : List ℕ) (i : ℕ) (v : F.Vertex) (positions : List F.Coordinate) (marks : List ℕ)
      → positions ≡ sets held (4 * i) (position_words_in F v) → marks ≡ sets noted (3 * i) (mark_words_in F v)
      → LaidIn F held noted i (v ∷ []) positions marks
  unfolding flat_map
  laid_one held noted i v positions marks p q = record { points = p; words = q }

  -- ---- the vertex of an entry

  vertex_of : (positions : List F.Coordinate) (marks : List ℕ) (count i : ℕ) → i < count → vertex_row_in F positions marks i ≡ vertex_in F (first_of (vertex_row_in F positions marks) count) i
  vertex_of positions marks count i h = sym (get_d_first_of (vertex_row_in F positions marks) (F.vertex F.origin 0 0 0) i count h)

  pub pair_made : (positions : List F.Coordinate) (marks book : List ℕ) (e count a b : ℕ) (p q r : F.Vertex) → Ends book e count
      → a ≡ get_or book (4 * e) 0 → b ≡ get_or book (4 * e + 1) 0 → p ≡ vertex_row_in F positions marks a → q ≡ vertex_row_in F positions marks b → r ≡ midpoint_in F p q
      → r ≡ pair_in F (first_of (vertex_row_in F positions marks) count) (pair_row book e)
  unfolding pair_row pair_in
  pair_made positions marks book e count a b p q r n ea eb ep eq er =
      er
      ∙ ap₂ (midpoint_in F)
      (ep ∙ ap (vertex_row_in F positions marks) ea ∙ vertex_of positions marks count (get_or book (4 * e) 0) n.first)
      (eq ∙ ap (vertex_row_in F positions marks) eb ∙ vertex_of positions marks count (get_or book (4 * e + 1) 0) n.second)

  -- ---- all new vertices, and all vertices

  -- the vertex of each entry from one on
  abbrev pub new_vertex : List F.Vertex → List ℕ → ℕ → ℕ → F.Vertex
  new_vertex olds book start e = pair_in F olds (pair_row book (start + e))

  pub new_vertices : (olds : List F.Vertex) (book : List ℕ) (start new : ℕ) → first_of (new_vertex olds book start) new ≡ map (pair_in F olds) (pairs_from book start new)
  unfolding pairs_from
  new_vertices olds book start new = sym (map_first_of (pair_in F olds) (λ (e : ℕ). pair_row book (start + e)) new)

  pub laid_all : (held : List F.Coordinate) (noted : List ℕ) (c : ℕ) (item : ℕ → F.Vertex) (i n : ℕ) (vertices : List F.Vertex) (positions : List F.Coordinate) (marks : List ℕ)
      → i ≡ n → LaidIn F held noted c (first_of item i) positions marks → first_of item n ≡ vertices → LaidIn F held noted c vertices positions marks
  laid_all held noted c item i n vertices positions marks q l e =
      rw (ap (first_of item) q ∙ e) at l

  length_new : (olds : List F.Vertex) (book : List ℕ) (start new : ℕ) → length (map (pair_in F olds) (pairs_from book start new)) ≡ new
  length_new olds book start new = ap length (sym (new_vertices olds book start new)) ∙ length_first_of (new_vertex olds book start) new

  pub laid_out : (held : List F.Coordinate) (noted : List ℕ) (row : ℕ → F.Vertex) (book : List ℕ) (count start new : ℕ) (p : List F.Coordinate) (m : List ℕ) (positions : List F.Coordinate)
      (marks : List ℕ) → Stand held noted (count + new)
      → LaidIn F held noted 0 (first_of row count) p m → LaidIn F p m count (map (pair_in F (first_of row count)) (pairs_from book start new)) positions marks
      → OverIn F held noted (with_midpoints_in F (first_of row count) (pairs_from book start new)) positions marks
  unfolding with_midpoints_in
  laid_out held noted row book count start new p m positions marks s a b =
      let olds = first_of row count in
      let news = map (pair_in F olds) (pairs_from book start new) in
      let n = length_first_of row count in
      let k = length_new olds book start new in
      let f = position_words_in F in
      record {
        points =
            b.points
            ∙ ap (λ (l : List F.Coordinate). sets l (4 * count) (flat_map (position_words_in F) news))
            (a.points ∙ sets_over held (flat_map (position_words_in F) olds) (omega (arith, length_flat f 4 (λ v. refl) olds)))
            ∙ over_behind f 4 (λ v. refl) held olds news count n (omega arith);
        words =
            b.words
            ∙ ap (λ (l : List ℕ). sets l (3 * count) (flat_map (mark_words_in F) news))
            (a.words ∙ sets_over noted (flat_map (mark_words_in F) olds) (omega (arith, length_flat (mark_words_in F) 3 (λ v. refl) olds)))
            ∙ over_behind (mark_words_in F) 3 (λ v. refl) noted olds news count n (omega arith);
      }

  pub length_laid : (row : ℕ → F.Vertex) (book : List ℕ) (count start new : ℕ) → length (with_midpoints_in F (first_of row count) (pairs_from book start new)) ≡ count + new
  unfolding with_midpoints_in
  length_laid row book count start new =
      length-append (first_of row count) (map (pair_in F (first_of row count)) (pairs_from book start new))
      ∙ ap₂ ◌+◌ (length_first_of row count) (length_new (first_of row count) book start new)
