-- The cases of document 01 that are marked P, P1 to P12: one list, one test that antt computes over it, and the theorem that it passes. With them
-- stand section 8's example, the cases that tell the natural mistakes which none of the twelve tells, and joins of document 02's U3.
-- Assumes nothing.
use mathlib.Core.Path.{◌≡◌, refl}
use mathlib.Core.Bool.{Bool, true, false, ◌&&◌}
use mathlib.Core.List.{List, [], ◌∷◌, ◌++◌, map, flat_map}
use Prim.Native.Nat.{ℕ, ◌*◌}
use lib.Ieee as Ieee
use lib.Ieee.{Float, binary32}
use lib.ListN.{length, replicate}
use Rattle.numbers.specs.Binary32.{count}
use Rattle.numbers.specs.Points4 as Points4
use Rattle.numbers.specs.Root as Root
use Rattle.geom.specs.declared.parity.Parity.TheVariants.{Even, Odd}
use Rattle.geom.specs.declared.vertex.Vertex.{Vertex}
use Rattle.geom.specs.declared.answer.Sizes.{Sizes}
use Rattle.geom.specs.Book as Book
use Rattle.geom.specs.Book.{Kind, cubes, simplices, Pair}
use Rattle.geom.specs.Elements as Elements
use Rattle.geom.specs.Elements.{Element, Curve}
use Rattle.geom.specs.Rules as Rules
use Rattle.geom.specs.Simplices as Simplices
use Rattle.geom.specs.Cubes as Cubes
use Rattle.geom.specs.Ledger as Ledger
use Rattle.geom.specs.Vertices as Vertices
use Rattle.geom.specs.Mesh as Mesh
use Rattle.geom.specs.Mesh.{Mesh}
use Rattle.geom.specs.Smoothing as Smoothing
use Rattle.geom.specs.Answers as Answers
use Rattle.geom.specs.Refinement as Refinement
use Rattle.geom.specs.Refinement.{Run, LIMITS, LIMIT}
use Rattle.geom.specs.Memory as Memory
use Rattle.geom.specs.Refusals as Refusals
use Rattle.geom.specs.File as File
use Rattle.geom.specs.Listing as Listing
use Rattle.geom.specs.Sheet as Sheet

-- ---- meshes

-- an unflagged vertex at whole x and y
abbrev vertex : ℕ → ℕ → Vertex
vertex x y =
    record {
      position = record { x = count x; y = count y; z = count 0; w = count 0 };
      flags = 0;
      tag = 0;
      k = 0;
    }

-- even elements
abbrev even : List (List ℕ) → List Element
even = map (λ corners. record { corners = corners; parity = Even })

abbrev mesh : List Vertex → List Element → List Element → List Element → List Curve → Mesh
mesh vertices lines areas volumes curves =
    record {
      vertices = vertices;
      points = [];
      lists = record { lines = lines; areas = areas; volumes = volumes; curves = curves };
    }

-- n vertices in one place, with lines, with a square, with a cube
abbrev lines : ℕ → List (List ℕ) → Mesh
lines n ls = mesh (replicate n (vertex 0 0)) (even ls) [] [] []

abbrev square : ℕ → List ℕ → Mesh
square n corners = mesh (replicate n (vertex 0 0)) [] (even (corners ∷ [])) [] []

abbrev cube : ℕ → List ℕ → Mesh
cube n corners = mesh (replicate n (vertex 0 0)) [] [] (even (corners ∷ [])) []

-- two vertices with tags 1 and 2 and these k, with lines
abbrev joined : ℕ → ℕ → List (List ℕ) → Mesh
joined k₁ k₂ ls =
    let tagged : ℕ → ℕ → Vertex = λ tag k. record { position = (vertex 0 0).position; flags = 0; tag = tag; k = k } in
    mesh (tagged 1 k₁ ∷ tagged 2 k₂ ∷ []) (even ls) [] [] []

-- curve 0,1,2 even, odd
abbrev curve : Mesh
curve = mesh (replicate 3 (vertex 0 0)) [] [] [] (record { tag = 7; vertices = 0 ∷ 1 ∷ 2 ∷ []; parities = Even ∷ Odd ∷ [] } ∷ [])

-- triangle (0,0), (36,0), (0,36) in x, y
abbrev triangle : Mesh
triangle = mesh (vertex 0 0 ∷ vertex 36 0 ∷ vertex 0 36 ∷ []) [] (even ((0 ∷ 1 ∷ 2 ∷ []) ∷ [])) [] []

-- a square with one of its sides as a line
abbrev sided : Mesh
sided =
    mesh (vertex 0 0 ∷ vertex 8 0 ∷ vertex 0 8 ∷ vertex 8 8 ∷ [])
    (even ((0 ∷ 1 ∷ []) ∷ []))
    (even ((0 ∷ 1 ∷ 2 ∷ 3 ∷ []) ∷ []))
    []
    []

-- vertices (0,0,0,0) and (8,0,0,0), unflagged, even line [0,1]
abbrev example : Mesh
example = mesh (vertex 0 0 ∷ vertex 8 0 ∷ []) (even ((0 ∷ 1 ∷ []) ∷ [])) [] [] []

-- one entry in each list, with as many vertices as a volume of the kind has corners
abbrev one : Kind → Mesh
one kind =
    let numbers = Memory.first_of (λ (i : ℕ). i) in
    let vertices = Memory.first_of (λ (i : ℕ). vertex i 0) (Memory.volume_corners kind) in
    record {
      vertices = vertices;
      points = 0 ∷ [];
      lists =
          record {
            lines = even (numbers 2 ∷ []);
            areas = even (numbers (Memory.area_corners kind) ∷ []);
            volumes = even (numbers (Memory.volume_corners kind) ∷ []);
            curves = record { tag = 7; vertices = numbers 2; parities = Odd ∷ [] } ∷ [];
          };
    }

-- ---- what is asked

-- the bit pattern of a number
pub bits : Float → ℕ
unfolding Ieee.to_bits Ieee.of_bits Ieee.add Ieee.mul Ieee.div Ieee.of_int Ieee.le
bits = Ieee.to_bits binary32

-- refined with every list lent to the limit, without smooth_time
pub refined : Kind → ℕ → Mesh → Run
unfolding Points4.sum Points4.scaled Points4.quotient Points4.midpoint Points4.origin Points4.added Points4.mean Points4.columns Book.find Book.seek Book.midpoint Book.each Book.place Book.mids Elements.pick Elements.pairs_of Elements.shut Elements.flat Elements.pieces Elements.assemble Rules.line Rules.divide Rules.steps Rules.between Rules.curve Rules.pass_by Simplices.triangle Simplices.simplex_pass Cubes.square Cubes.cube Cubes.cube_pass Vertices.flagged Vertices.strand_in Vertices.midpoint_in Vertices.pair_in Mesh.curve_vertices_of Mesh.sizes_of Smoothing.with_midpoints_in Smoothing.column_rule Smoothing.nothing Smoothing.ignored Smoothing.update Smoothing.to_corners Smoothing.gather Smoothing.gathered_in Smoothing.replaced Smoothing.moved_in Smoothing.settled_in Smoothing.settled_from_in Smoothing.smoothed_in Refinement.pass_over Refinement.fits Refinement.run_from Refinement.run
refined kind depth m = Refinement.run kind false (record { cells = LIMITS; book = LIMIT }) depth m

abbrev after : Kind → ℕ → Mesh → Mesh
after kind depth m = (refined kind depth m).left.mesh

-- how many vertices there are, and then the corners of some elements
abbrev counted : Mesh → List Element → List (List ℕ)
counted m es = (length m.vertices ∷ []) ∷ map (λ (e : Element). e.corners) es

abbrev lines_of : Mesh → List (List ℕ)
lines_of m = counted m m.lists.lines

abbrev areas_of : Mesh → List (List ℕ)
areas_of m = counted m m.lists.areas

abbrev volumes_of : Mesh → List (List ℕ)
volumes_of m = counted m m.lists.volumes

-- the bytes of a mesh's file
pub file_bytes : Kind → Mesh → List ℕ
unfolding File.word_bytes File.vertex_bytes File.element_bytes File.list_bytes File.file_of
file_bytes = File.file_of

-- the number of passes, then the whole mesh as the bytes of its file
abbrev whole_of : Kind → Run → List (List ℕ)
whole_of kind r = (r.passes ∷ []) ∷ file_bytes kind r.left.mesh ∷ []

-- the bits of x, y, z, w
abbrev positions : List Vertex → List (List ℕ)
positions = map λ (v : Vertex). map bits (v.position.x ∷ v.position.y ∷ v.position.z ∷ v.position.w ∷ [])

-- tag and k
abbrev strands : Mesh → List (List ℕ)
strands m = map (λ (v : Vertex). v.tag ∷ v.k ∷ []) m.vertices

-- a curve's vertices, and then the pairs of the book
abbrev keys_of : Run → List (List ℕ)
keys_of r =
    map (λ (c : Curve). c.vertices) r.left.mesh.lists.curves
    ++ map (λ (q : Pair). q.first ∷ q.second ∷ []) r.left.book

pub root_bits : ℕ → List (List ℕ)
unfolding Root.root_digits Root.whole_root Root.root_to Root.rounded_root Root.root
root_bits b = (bits (Root.root (Ieee.of_bits binary32 b)) ∷ []) ∷ []

-- how many vertices and cubes there are
abbrev cubes_of : Mesh → List (List ℕ)
cubes_of m = (length m.vertices ∷ length m.lists.volumes ∷ []) ∷ []

-- the refusal's number, or none
abbrev numbers_of : Answers.Verdict → List ℕ
numbers_of Answers.accepted = []
numbers_of (Answers.refused n) = n ∷ []

abbrev room : ℕ → ℕ → Sizes
room vertices ls =
    record { vertices = vertices; points = 0; lines = ls; areas = 0; volumes = 0; curves = 0; curve_vertices = 0 }

-- the whole passes of two that a line gets in lent vertices, lines and book, and the refusal
abbrev room_of : ℕ → ℕ → ℕ → List ℕ
room_of vertices ls book =
    let r = Refinement.run cubes false (record { cells = room vertices ls; book = book }) 2 example in
    r.passes ∷ numbers_of r.verdict

abbrev bench : ℕ → ℕ → ℕ → ℕ → Memory.Bench
bench x flags point curve_count =
    record {
      positions = count x ∷ count 0 ∷ count 0 ∷ count 0 ∷ [];
      marks = flags ∷ 0 ∷ 0 ∷ [];
      points = point ∷ [];
      lines = [];
      areas = [];
      volumes = [];
      curves = 0 ∷ curve_count ∷ [];
      curve_vertices = [];
    }

-- the refusal of a refinement of a mesh on a bench, with as many cells of smoothing as there are vertices
pub refusal_on : Kind → Sizes → Memory.Bench → List ℕ
unfolding Refinement.within Answers.first_due Memory.cells Memory.first_of Memory.vertex_row_in Memory.four_row Memory.curve_row Memory.rows_of Memory.step_words Memory.curve_parts Refusals.every Refusals.good_position_in Refusals.good_curve Refusals.curve_lengths Refusals.counts_hold Refusals.marks_hold Refusals.positions_hold Refusals.numbers_hold Refusals.handed_in Refusals.benches_equal Refusals.benches_hold Refusals.refinement_verdict
refusal_on kind s b =
    numbers_of
    (Refusals.refinement_verdict kind s
    (record { first = b; second = b; book = []; sums = replicate (4 * s.vertices) (count 0); tallies = replicate (2 * s.vertices) 0 })
    0)

-- by a vertex's x and flag byte, a point, how many curves there are, and the vertex count of the first where no curve vertex is handed in
abbrev refusal_of : ℕ → ℕ → ℕ → ℕ → ℕ → List ℕ
refusal_of x flags point curves curve_count =
    refusal_on cubes
    (record { vertices = 1; points = 1; lines = 0; areas = 0; volumes = 0; curves = curves; curve_vertices = 0 })
    (bench x flags point curve_count)

-- of a mesh whose words fill what is lent
pub refusal_for : Kind → Mesh → List ℕ
unfolding Memory.element_row Memory.step_row Memory.element_words Memory.steps_words Memory.curve_words Memory.vertex_words Memory.bench_of flat_map
refusal_for kind m = refusal_on kind (Mesh.sizes_of m) (Memory.bench_of m)

-- what `sheet` prints
pub sheet_of : List ℕ → List ℕ
unfolding File.judged File.byte File.word File.several File.counted File.coordinate File.vertex File.number File.parity File.element File.line File.curves File.lists File.kind_field File.end File.figure Listing.digit Listing.decimal_before Listing.decimal Listing.hexadecimal Listing.vertex_line Listing.vertex_lines Listing.numbers Listing.element_line Listing.listing Listing.refusal Sheet.printed Sheet.sheet_fields Sheet.sheet Refusals.good_flags Refusals.good_parity Refusals.good_coordinate Refusals.good_number flat_map
sheet_of = Sheet.sheet

-- passes 1
-- v 0 40000000 00000000 00000000 00000000
-- v 1 40C00000 00000000 00000000 00000000
-- v 2 40800000 00000000 00000000 00000000
-- l 0 2 e
-- l 2 1 e
abbrev printed : List ℕ
printed =
    (112 ∷ 97 ∷ 115 ∷ 115 ∷ 101 ∷ 115 ∷ 32 ∷ 49 ∷ 10 ∷ [])
    ++ (118 ∷ 32 ∷ 48 ∷ 32 ∷ 52 ∷ 48 ∷ 48 ∷ 48 ∷ 48 ∷ 48 ∷ 48 ∷ 48 ∷ 32 ∷ 48 ∷ 48 ∷ 48 ∷ 48 ∷ 48 ∷ 48 ∷ 48 ∷ 48 ∷ 32 ∷ 48 ∷ 48 ∷ 48 ∷ 48 ∷ 48 ∷ 48 ∷ 48 ∷ 48 ∷ 32 ∷ 48 ∷ 48 ∷ 48 ∷ 48 ∷ 48 ∷ 48 ∷ 48 ∷ 48 ∷ 10 ∷ [])
    ++ (118 ∷ 32 ∷ 49 ∷ 32 ∷ 52 ∷ 48 ∷ 67 ∷ 48 ∷ 48 ∷ 48 ∷ 48 ∷ 48 ∷ 32 ∷ 48 ∷ 48 ∷ 48 ∷ 48 ∷ 48 ∷ 48 ∷ 48 ∷ 48 ∷ 32 ∷ 48 ∷ 48 ∷ 48 ∷ 48 ∷ 48 ∷ 48 ∷ 48 ∷ 48 ∷ 32 ∷ 48 ∷ 48 ∷ 48 ∷ 48 ∷ 48 ∷ 48 ∷ 48 ∷ 48 ∷ 10 ∷ [])
    ++ (118 ∷ 32 ∷ 50 ∷ 32 ∷ 52 ∷ 48 ∷ 56 ∷ 48 ∷ 48 ∷ 48 ∷ 48 ∷ 48 ∷ 32 ∷ 48 ∷ 48 ∷ 48 ∷ 48 ∷ 48 ∷ 48 ∷ 48 ∷ 48 ∷ 32 ∷ 48 ∷ 48 ∷ 48 ∷ 48 ∷ 48 ∷ 48 ∷ 48 ∷ 48 ∷ 32 ∷ 48 ∷ 48 ∷ 48 ∷ 48 ∷ 48 ∷ 48 ∷ 48 ∷ 48 ∷ 10 ∷ [])
    ++ (108 ∷ 32 ∷ 48 ∷ 32 ∷ 50 ∷ 32 ∷ 101 ∷ 10 ∷ [])
    ++ (108 ∷ 32 ∷ 50 ∷ 32 ∷ 49 ∷ 32 ∷ 101 ∷ 10 ∷ [])

-- ---- the cases

-- what the definitions give, and what document 01 says
pub record Case : Type 0 where
  pub found : List (List ℕ)
  pub marked : List (List ℕ)

abbrev case : List (List ℕ) → List (List ℕ) → Case
case found marked = record { found = found; marked = marked }

abbrev pub cases : List Case
cases =
    -- P1 depth 0: no pass, the mesh unchanged.
    case (whole_of simplices (refined simplices 0 triangle)) ((0 ∷ []) ∷ file_bytes simplices triangle ∷ [])
    ∷ case (whole_of cubes (refined cubes 0 sided)) ((0 ∷ []) ∷ file_bytes cubes sided ∷ [])
    -- P2 line [0,0]: cubes none;
    ∷ case (lines_of (after cubes 1 (lines 1 ((0 ∷ 0 ∷ []) ∷ [])))) ((1 ∷ []) ∷ [])
    -- P3 simplices vertex 1, lines [0,1], [1,0].
    ∷ case (lines_of (after simplices 1 (lines 1 ((0 ∷ 0 ∷ []) ∷ [])))) ((2 ∷ []) ∷ (0 ∷ 1 ∷ []) ∷ (1 ∷ 0 ∷ []) ∷ [])
    -- P4 [0,1] twice: two lines.
    ∷ case (lines_of (after cubes 1 (lines 2 ((0 ∷ 1 ∷ []) ∷ (0 ∷ 1 ∷ []) ∷ []))))
    ((3 ∷ []) ∷ (0 ∷ 2 ∷ []) ∷ (2 ∷ 1 ∷ []) ∷ [])
    ∷ case (lines_of (after simplices 1 (lines 2 ((0 ∷ 1 ∷ []) ∷ (0 ∷ 1 ∷ []) ∷ []))))
    ((3 ∷ []) ∷ (0 ∷ 2 ∷ []) ∷ (2 ∷ 1 ∷ []) ∷ [])
    -- P5 [0,1] and [1,0]: two midpoints.
    ∷ case (lines_of (after cubes 1 (lines 2 ((0 ∷ 1 ∷ []) ∷ (1 ∷ 0 ∷ []) ∷ []))))
    ((4 ∷ []) ∷ (0 ∷ 2 ∷ []) ∷ (2 ∷ 1 ∷ []) ∷ (1 ∷ 3 ∷ []) ∷ (3 ∷ 0 ∷ []) ∷ [])
    ∷ case (lines_of (after simplices 1 (lines 2 ((0 ∷ 1 ∷ []) ∷ (1 ∷ 0 ∷ []) ∷ []))))
    ((4 ∷ []) ∷ (0 ∷ 2 ∷ []) ∷ (2 ∷ 1 ∷ []) ∷ (1 ∷ 3 ∷ []) ∷ (3 ∷ 0 ∷ []) ∷ [])
    -- P6 triangle (0,0), (36,0), (0,36) in x, y: afterwards (6,6), (24,6), (6,24), (14,8), (8,14), (14,14).
    ∷ case (positions (after simplices 1 triangle).vertices)
    (positions (vertex 6 6 ∷ vertex 24 6 ∷ vertex 6 24 ∷ vertex 14 8 ∷ vertex 8 14 ∷ vertex 14 14 ∷ []))
    -- P7 square [0,1,2,3]: [0,5,6,4], [5,1,4,7], [6,4,2,8], [4,7,8,3].
    ∷ case (areas_of (after cubes 1 (square 4 (0 ∷ 1 ∷ 2 ∷ 3 ∷ []))))
    ((9 ∷ []) ∷ (0 ∷ 5 ∷ 6 ∷ 4 ∷ []) ∷ (5 ∷ 1 ∷ 4 ∷ 7 ∷ []) ∷ (6 ∷ 4 ∷ 2 ∷ 8 ∷ []) ∷ (4 ∷ 7 ∷ 8 ∷ 3 ∷ []) ∷ [])
    -- P8 square [0,1,2,0]: empty.
    ∷ case (areas_of (after cubes 1 (square 3 (0 ∷ 1 ∷ 2 ∷ 0 ∷ [])))) ((3 ∷ []) ∷ [])
    -- P9 cube [0,0,1,1,2,2,3,3]: nine vertices, no cube.
    ∷ case (volumes_of (after cubes 1 (cube 4 (0 ∷ 0 ∷ 1 ∷ 1 ∷ 2 ∷ 2 ∷ 3 ∷ 3 ∷ [])))) ((9 ∷ []) ∷ [])
    -- P10 curve 0,1,2 even, odd: 0,3,1,4,2, second key [2,1].
    ∷ case (keys_of (refined simplices 1 curve)) ((0 ∷ 3 ∷ 1 ∷ 4 ∷ 2 ∷ []) ∷ (0 ∷ 1 ∷ []) ∷ (2 ∷ 1 ∷ []) ∷ [])
    ∷ case (keys_of (refined cubes 1 curve)) ((0 ∷ 3 ∷ 1 ∷ 4 ∷ 2 ∷ []) ∷ (0 ∷ 1 ∷ []) ∷ (2 ∷ 1 ∷ []) ∷ [])
    -- P11 root of 2: bits 3FB504F3.
    ∷ case (root_bits 0x4000_0000) ((0x3FB5_04F3 ∷ []) ∷ [])
    -- P12 root of bits 00000001: 1A3504F3.
    ∷ case (root_bits 0x0000_0001) ((0x1A35_04F3 ∷ []) ∷ [])
    -- A fresh book each pass: a cube with corners 0 = 3 and 2 = 7 meets an old pair again at depth 2.
    ∷ case (cubes_of (after cubes 2 (cube 6 (0 ∷ 1 ∷ 2 ∷ 0 ∷ 3 ∷ 4 ∷ 5 ∷ 2 ∷ [])))) ((104 ∷ 64 ∷ []) ∷ [])
    -- Cube smoothing by the highest kind: the line's vertices stay on its side of the square.
    ∷ case (positions (after cubes 1 sided).vertices)
    (positions
    (vertex 2 0 ∷ vertex 6 0 ∷ vertex 2 6 ∷ vertex 6 6 ∷ vertex 4 0 ∷ vertex 4 4 ∷ vertex 2 4 ∷ vertex 6 4 ∷ vertex 4 6 ∷ []))
    -- U3, line [0,1], k 5 and 3: the second end's tag and k, at every depth.
    ∷ case (strands (after simplices 2 (joined 5 3 ((0 ∷ 1 ∷ []) ∷ []))))
    ((1 ∷ 5 ∷ []) ∷ (2 ∷ 3 ∷ []) ∷ (2 ∷ 3 ∷ []) ∷ (2 ∷ 3 ∷ []) ∷ (2 ∷ 3 ∷ []) ∷ [])
    -- In both directions: an accepted mesh whose book has [0,1] and [1,0], where the k differ.
    ∷ case
    (refusal_for cubes (joined 5 3 ((0 ∷ 1 ∷ []) ∷ (1 ∷ 0 ∷ []) ∷ []))
    ∷ keys_of (refined cubes 1 (joined 5 3 ((0 ∷ 1 ∷ []) ∷ (1 ∷ 0 ∷ []) ∷ [])))
    ++ strands (after cubes 1 (joined 5 3 ((0 ∷ 1 ∷ []) ∷ (1 ∷ 0 ∷ []) ∷ []))))
    ([] ∷ (0 ∷ 1 ∷ []) ∷ (1 ∷ 0 ∷ []) ∷ (1 ∷ 5 ∷ []) ∷ (2 ∷ 3 ∷ []) ∷ (2 ∷ 3 ∷ []) ∷ (2 ∷ 3 ∷ []) ∷ [])
    -- On a tie the first end, in both directions; and k is unsigned.
    ∷ case (strands (after simplices 1 (joined 4 4 ((0 ∷ 1 ∷ []) ∷ (1 ∷ 0 ∷ []) ∷ []))))
    ((1 ∷ 4 ∷ []) ∷ (2 ∷ 4 ∷ []) ∷ (1 ∷ 4 ∷ []) ∷ (2 ∷ 4 ∷ []) ∷ [])
    ∷ case (strands (after simplices 1 (joined 0xFFFF_FFFF 0 ((0 ∷ 1 ∷ []) ∷ []))))
    ((1 ∷ 0xFFFF_FFFF ∷ []) ∷ (2 ∷ 0 ∷ []) ∷ (2 ∷ 0 ∷ []) ∷ [])
    -- Exactly full lists, one short.
    ∷ case (room_of 5 4 3 ∷ room_of 3 2 1 ∷ room_of 4 4 3 ∷ room_of 5 3 3 ∷ room_of 5 4 2 ∷ room_of 2 2 1 ∷ room_of 3 1 1 ∷ room_of 3 2 0 ∷ [])
    ((2 ∷ [])
    ∷ (1 ∷ 10 ∷ [])
    ∷ (1 ∷ 10 ∷ [])
    ∷ (1 ∷ 10 ∷ [])
    ∷ (1 ∷ 10 ∷ [])
    ∷ (0 ∷ 10 ∷ [])
    ∷ (0 ∷ 10 ∷ [])
    ∷ (0 ∷ 10 ∷ [])
    ∷ [])
    -- In memory: 9, 5, 6, 7, 8; and meshes that are accepted, among them one of each kind with an entry in each list.
    ∷ case
    (refusal_of 1025 16 1 1 1
    ∷ refusal_of 1025 16 1 1 0
    ∷ refusal_of 1025 15 1 1 0
    ∷ refusal_of 1024 15 1 1 0
    ∷ refusal_of 1024 15 0 1 0
    ∷ refusal_of 1024 15 0 0 0
    ∷ refusal_for cubes (one cubes)
    ∷ refusal_for simplices (one simplices)
    ∷ [])
    ((9 ∷ []) ∷ (5 ∷ []) ∷ (6 ∷ []) ∷ (7 ∷ []) ∷ (8 ∷ []) ∷ [] ∷ [] ∷ [] ∷ [])
    -- Section 8: depth 1, smooth_time 0, and the file.
    ∷ case (sheet_of (1 ∷ 0 ∷ file_bytes cubes example) ∷ []) (printed ∷ [])
    ∷ []

-- the same rows
abbrev same_rows : List (List ℕ) → List (List ℕ) → Bool
same_rows [] [] = true
same_rows [] (y ∷ ys) = false
same_rows (x ∷ xs) [] = false
same_rows (x ∷ xs) (y ∷ ys) = Ledger.same_list x y && same_rows xs ys

-- the test
abbrev pub passed : List Case → Bool
passed [] = true
passed (c ∷ cs) = same_rows c.found c.marked && passed cs

pub all_as_marked : passed cases ≡ true
unfolding Ledger.same_list bits root_bits refined file_bytes refusal_on refusal_for sheet_of
all_as_marked = refl
