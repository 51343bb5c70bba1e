-- Document 01, section 8: the file. First the bytes of a mesh, which is what a file is; then the judgement of any bytes, field by field; and
-- reading as an entry.
-- A field is read whole, then judged, and it is judged before the next is read. A count is held against 10 alone, never against the bytes left.
-- Says nothing of the program that reads standard input (Sheet).
-- Assumes nothing, not even that a byte is below 256.
use Rattle.std.specs.Prelude.{Bool, cond, not, ◌&&◌, ℕ, zero, suc, ◌+◌, ◌-◌, ◌*◌, ◌/◌, ◌%◌, ◌^◌, eqb, leb, Float, length}
use mathlib.Core.List.{List, [], ◌∷◌, ◌++◌, map, flat_map}
use Rattle.std.specs.Float.{binary32}
use Rattle.std.specs.Float.Ieee.{of_bits, to_bits}
use Rattle.geom.specs.declared.parity.Parity.{Parity}
use Rattle.geom.specs.declared.vertex.Vertex.{Vertex}
use Rattle.geom.specs.declared.answer.Sizes.{Sizes}
use Rattle.geom.specs.Book.{Kind, cubes, simplices}
use Rattle.geom.specs.Elements.{Element, Curve}
use Rattle.geom.specs.Answers.{mesh_of_kind, no_mesh, Opening}
use Rattle.geom.specs.Mesh.{Mesh, sizes_of}
use Rattle.geom.specs.Refinement.{LIMIT}
use Rattle.geom.specs.Memory.{Bench, area_corners, volume_corners, cells, parity_of, parity_word, bench_of, over}
use Rattle.geom.specs.Refusals.{good_flags, good_parity, good_coordinate, good_number, benches_equal}

-- ---- the bytes of a mesh

-- All that isn't called a byte is 4 bytes, big-endian.
unfoldable pub word_bytes : ℕ → List ℕ
word_bytes n = n / 2 ^ 24 % 256 ∷ n / 2 ^ 16 % 256 ∷ n / 2 ^ 8 % 256 ∷ n % 256 ∷ []

-- Vertex: four 4-byte bit patterns, flag byte (bit i is axis i), tag, k.
unfoldable pub vertex_bytes : Vertex → List ℕ
vertex_bytes v =
    word_bytes (to_bits binary32 v.position.x)
    ++ word_bytes (to_bits binary32 v.position.y)
    ++ word_bytes (to_bits binary32 v.position.z)
    ++ word_bytes (to_bits binary32 v.position.w)
    ++ v.flags ∷ word_bytes v.tag ++ word_bytes v.k

-- Element: vertex numbers, parity byte (0 even, 1 odd).
unfoldable pub element_bytes : Element → List ℕ
element_bytes e = flat_map word_bytes e.corners ++ parity_word e.parity ∷ []

-- Curve: tag, vertex count, vertices, one parity fewer.
unfoldable pub curve_bytes : Curve → List ℕ
curve_bytes c =
    word_bytes c.tag
    ++ word_bytes (length c.vertices)
    ++ flat_map word_bytes c.vertices
    ++ map parity_word c.parities

-- each list with its count first
unfoldable pub list_bytes : {A : Type 0} → (A → List ℕ) → List A → List ℕ
list_bytes bytes xs = word_bytes (length xs) ++ flat_map bytes xs

-- kind byte 0 cubes, 1 simplices
abbrev pub kind_byte : Kind → ℕ
kind_byte cubes = 0
kind_byte simplices = 1

-- Version byte 1; kind byte. Then vertices, points, lines, areas, volumes, curves.
unfoldable pub file_of : Kind → Mesh → List ℕ
file_of kind m =
    1 ∷ kind_byte kind ∷ list_bytes vertex_bytes m.vertices
    ++ list_bytes word_bytes m.points
    ++ list_bytes element_bytes m.lists.lines
    ++ list_bytes element_bytes m.lists.areas
    ++ list_bytes element_bytes m.lists.volumes
    ++ list_bytes curve_bytes m.lists.curves

-- how many bytes that is, by the sizes alone: 2, and for each list 4 of its count and its entries
unfoldable pub file_length : Kind → Sizes → ℕ
file_length kind s =
    26
    + 25 * s.vertices
    + 4 * s.points
    + 9 * s.lines
    + (4 * area_corners kind + 1) * s.areas
    + (4 * volume_corners kind + 1) * s.volumes
    + (5 * s.curve_vertices + 7 * s.curves)

-- ---- reading

-- what was read, with the bytes that are left; or the number of the refusal
pub data Read (A : Type 0) : Type 0 where
  read : A → List ℕ → Read A
  stop : ℕ → Read A

-- a reader walks from the bytes that are left
abbrev pub Reader : Type 0 → Type 0
Reader A = List ℕ → Read A

abbrev pub and_then : {A B : Type 0} → Read A → (A → Reader B) → Read B
and_then (read x bytes) next = next x bytes
and_then (stop n) next = stop n

-- one field after the other; the first refusal ends it
abbrev pub ◌>>=◌ : {A B : Type 0} → Reader A → (A → Reader B) → Reader B
◌>>=◌ field next = λ bytes. and_then (field bytes) next

-- nothing is read any more
abbrev pub done : {A : Type 0} → A → Reader A
done x = λ bytes. read x bytes

-- what was read is judged: refused by n where the test fails
unfoldable pub judged : {A : Type 0} → ℕ → Bool → A → Reader A
judged n good x = λ bytes. cond good (read x bytes) (stop n)

-- 3: ends early
unfoldable pub byte : Reader ℕ
byte [] = stop 3
byte (a ∷ bytes) = read a bytes

unfoldable pub word : Reader ℕ
word [] = stop 3
word (a ∷ []) = stop 3
word (a ∷ b ∷ []) = stop 3
word (a ∷ b ∷ c ∷ []) = stop 3
word (a ∷ b ∷ c ∷ d ∷ bytes) = read (((a * 256 + b) * 256 + c) * 256 + d) bytes

-- one after the other
unfoldable pub several : {A : Type 0} → ℕ → Reader A → Reader (List A)
several zero field = done []
several (suc n) field = do
  x ← field
  xs ← several n field
  done (x ∷ xs)

-- a count against 10, before its entries
unfoldable pub counted : ℕ → Reader ℕ
counted lent = do
  n ← word
  judged 10 (leb n lent && leb n LIMIT) n

unfoldable pub coordinate : Reader Float
coordinate = do
  b ← word
  judged 6 (good_coordinate (of_bits binary32 b)) (of_bits binary32 b)

unfoldable pub vertex : Reader Vertex
vertex = do
  x ← coordinate
  y ← coordinate
  z ← coordinate
  w ← coordinate
  f ← byte
  flags ← judged 5 (good_flags f) f
  tag ← word
  k ← word
  done (record { position = record { x = x; y = y; z = z; w = w }; flags = flags; tag = tag; k = k })

-- a vertex number below the count
unfoldable pub number : ℕ → Reader ℕ
number count = do
  v ← word
  judged 7 (good_number count v) v

unfoldable pub parity : Reader Parity
parity = do
  p ← byte
  judged 5 (good_parity p) (parity_of p)

unfoldable pub element : ℕ → ℕ → Reader Element
element count corners = do
  vs ← several corners (number count)
  p ← parity
  done (record { corners = vs; parity = p })

-- a line
unfoldable pub line : ℕ → Reader Element
line count = element count 2

-- a curve's vertex count: 0 is 8; else 10 is judged, on the total over all curves so far
unfoldable pub curve_count : ℕ → ℕ → Reader ℕ
curve_count lent before = do
  n ← word
  some ← judged 8 (not (eqb n 0)) n
  judged 10 (leb (before + some) lent && leb (before + some) LIMIT) some

unfoldable pub curve : ℕ → ℕ → ℕ → Reader Curve
curve count lent before = do
  tag ← word
  n ← curve_count lent before
  vs ← several n (number count)
  ps ← several (n - 1) parity
  done (record { tag = tag; vertices = vs; parities = ps })

-- n curves, after `before` curve vertices
unfoldable pub curves : ℕ → ℕ → ℕ → ℕ → Reader (List Curve)
curves count lent zero before = done []
curves count lent (suc n) before = do
  c ← curve count lent before
  cs ← curves count lent n (before + length c.vertices)
  done (c ∷ cs)

-- the lists, into lent cells
unfoldable pub lists : Kind → Sizes → Reader Mesh
lists kind lent = do
  n ← counted lent.vertices
  vertices ← several n vertex
  p ← counted lent.points
  points ← several p (number n)
  l ← counted lent.lines
  lines ← several l (line n)
  a ← counted lent.areas
  areas ← several a (element n (area_corners kind))
  s ← counted lent.volumes
  volumes ← several s (element n (volume_corners kind))
  c ← counted lent.curves
  cs ← curves n lent.curve_vertices c 0
  done
      (record {
        vertices = vertices;
        points = points;
        lists = record { lines = lines; areas = areas; volumes = volumes; curves = cs };
      })

-- 2 kind
abbrev pub kind_of : ℕ → Kind
kind_of zero = cubes
kind_of (suc n) = simplices

unfoldable pub kind_field : Reader Kind
kind_field = do
  b ← byte
  judged 2 (leb b 1) (kind_of b)

-- a mesh with its kind
pub record Figure : Type 0 where
  pub kind : Kind
  pub mesh : Mesh

-- 4 bytes left over
unfoldable pub end : Figure → Reader Figure
end x [] = read x []
end x (b ∷ bytes) = stop 4

-- A whole file; the lent cells of a list may depend on the kind. 1 version, 4 last.
unfoldable pub figure : (Kind → Sizes) → Reader Figure
figure lent = do
  v ← byte
  _ ← judged 1 (eqb v 1) v
  kind ← kind_field
  mesh ← lists kind (lent kind)
  end (record { kind = kind; mesh = mesh })

-- ---- the entry

-- what the answer says, and the first bench afterwards; the second is never written
pub record Loaded : Type 0 where
  pub opening : Opening
  pub bench : Bench

-- all sizes 0: after a refusal nothing was read
abbrev pub NO_SIZES : Sizes
NO_SIZES =
    record { vertices = 0; points = 0; lines = 0; areas = 0; volumes = 0; curves = 0; curve_vertices = 0 }

-- a bench after another one's words were written from the start of each list
unfoldable pub bench_over : Bench → Bench → Bench
bench_over old out =
    record {
      positions = over old.positions out.positions;
      marks = over old.marks out.marks;
      points = over old.points out.points;
      lines = over old.lines out.lines;
      areas = over old.areas out.areas;
      volumes = over old.volumes out.volumes;
      curves = over old.curves out.curves;
      curve_vertices = over old.curve_vertices out.curve_vertices;
    }

abbrev pub loaded_by : Bench → Read Figure → Loaded
loaded_by bench (stop n) = record { opening = record { sizes = NO_SIZES; judgement = no_mesh n }; bench = bench }
loaded_by bench (read f bytes) =
    record {
      opening = record { sizes = sizes_of f.mesh; judgement = mesh_of_kind f.kind };
      bench = bench_over bench (bench_of f.mesh);
    }

-- The whole of it: refused, and nothing changes; or the mesh on the first bench. 9 comes first: a list's two benches are unequal.
unfoldable pub loaded : Bench → Bench → List ℕ → Loaded
loaded first second bytes =
    let judgement = figure (λ (kind : Kind). cells kind first) bytes in
    loaded_by first (cond (benches_equal first second) judgement (stop 9))
