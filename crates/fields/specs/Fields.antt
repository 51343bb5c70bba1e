-- The fields and rows of a file by their places, as closed expressions over the bytes; and what a function answers that reads or judges them.
-- Says nothing of what is right to read, which is geom's File. A place past the end counts as 0.
-- Assumes nothing.
use Rattle.std.specs.Prelude.{◌≡◌, List, ℕ, zero, suc, ◌+◌, ◌-◌, ◌*◌, ◌≤◌, ◌<◌, Float, Result, Ok, Err, leb, length, get_or, drop}
use Rattle.std.specs.Float.{binary32}
use Rattle.std.specs.Float.Ieee.{of_bits}
use Rattle.geom.specs.declared.refusal.Refusal.{Refusal}
use Rattle.geom.specs.declared.parity.Parity.{Parity}
use Rattle.geom.specs.declared.vertex.Vertex.{Vertex}
use Rattle.geom.specs.Answers.{number_of}
use Rattle.geom.specs.Elements.{Element, Curve}
use Rattle.geom.specs.Memory.{first_of, parity_of}
use Rattle.geom.specs.Mesh.{curve_vertices_of}
use Rattle.geom.specs.Refinement.{LIMIT}
use Rattle.geom.specs.Refusals.{good_flags}
use Rattle.geom.specs.File.{read, stop, Reader, ◌>>=◌, judged, byte, counted, curve_count, curve, curves}

-- ---- by places

-- the number that the 4 bytes from a place on are, big-endian
unfoldable pub word_at : List ℕ → ℕ → ℕ
word_at bytes at =
    ((get_or bytes at 0 * 256 + get_or bytes (at + 1) 0) * 256 + get_or bytes (at + 2) 0) * 256 + get_or bytes (at + 3) 0

abbrev pub coordinate_at : List ℕ → ℕ → Float
coordinate_at bytes at = of_bits binary32 (word_at bytes at)

-- 25 bytes
unfoldable pub vertex_at : List ℕ → ℕ → Vertex
vertex_at bytes at =
    record {
      position =
          record {
            x = coordinate_at bytes at;
            y = coordinate_at bytes (at + 4);
            z = coordinate_at bytes (at + 8);
            w = coordinate_at bytes (at + 12);
          };
      flags = get_or bytes (at + 16) 0;
      tag = word_at bytes (at + 17);
      k = word_at bytes (at + 21);
    }

abbrev pub vertices_at : List ℕ → ℕ → ℕ → List Vertex
vertices_at bytes at n = first_of (λ (i : ℕ). vertex_at bytes (at + 25 * i)) n

abbrev pub parity_at : List ℕ → ℕ → Parity
parity_at bytes at = parity_of (get_or bytes at 0)

-- n numbers, 4 bytes each, and n parities, a byte each
abbrev pub numbers_at : List ℕ → ℕ → ℕ → List ℕ
numbers_at bytes at n = first_of (λ (i : ℕ). word_at bytes (at + 4 * i)) n

abbrev pub parities_at : List ℕ → ℕ → ℕ → List Parity
parities_at bytes at n = first_of (λ (i : ℕ). parity_at bytes (at + i)) n

-- how many bytes an element has
abbrev pub wide : ℕ → ℕ
wide corners = 4 * corners + 1

unfoldable pub element_at : ℕ → List ℕ → ℕ → Element
element_at corners bytes at =
    record { corners = numbers_at bytes at corners; parity = parity_at bytes (at + 4 * corners) }

abbrev pub elements_at : ℕ → List ℕ → ℕ → ℕ → List Element
elements_at corners bytes at n = first_of (λ (i : ℕ). element_at corners bytes (at + wide corners * i)) n

-- a curve of n vertices has 7 + 5 * n bytes
unfoldable pub curve_at : List ℕ → ℕ → Curve
curve_at bytes at =
    let n = word_at bytes (at + 4) in
    record {
      tag = word_at bytes at;
      vertices = numbers_at bytes (at + 8) n;
      parities = parities_at bytes (at + 8 + 4 * n) (n - 1);
    }

-- where the curve behind i others begins
unfoldable pub curve_place : List ℕ → ℕ → ℕ → ℕ
curve_place bytes at zero = at
curve_place bytes at (suc i) = let from = curve_place bytes at i in from + (5 * word_at bytes (from + 4) + 7)

abbrev pub curves_at : List ℕ → ℕ → ℕ → List Curve
curves_at bytes at n = first_of (λ (i : ℕ). curve_at bytes (curve_place bytes at i)) n

-- a byte of at most a number
unfoldable pub mark_field : ℕ → Reader ℕ
mark_field most = do
  b ← byte
  judged 5 (leb b most) b

-- the flag byte of a vertex
unfoldable pub flags_field : Reader ℕ
flags_field = do
  f ← byte
  judged 5 (good_flags f) f

-- ---- answers

-- from one place to another a reader reads x, and the bytes are there
pub record Reads {A : Type 0} (bytes : List ℕ) (at end : ℕ) (x : A) (reader : Reader A) : Type 0 where
  pub reads : reader (drop at bytes) ≡ read x (drop end bytes)
  pub stands : end ≤ length bytes

-- a field's value x, or the number by which the reader stops
abbrev pub Gives : Result ℕ Refusal → List ℕ → ℕ → ℕ → ℕ → Reader ℕ → Type 0
Gives (Ok v) bytes at end x reader = (v ≡ x) × Reads bytes at end x reader
Gives (Err r) bytes at end x reader = reader (drop at bytes) ≡ stop (number_of r)

-- what is judged is passed, or the reader stops with the number
abbrev pub Passes : {A : Type 0} → Result Unit Refusal → List ℕ → ℕ → ℕ → A → Reader A → Type 0
Passes (Ok _) bytes at end x reader = Reads bytes at end x reader
Passes (Err r) bytes at end x reader = reader (drop at bytes) ≡ stop (number_of r)

-- what comes behind the rows that were passed: there is none, or it is refused; P is what judging a row at a place promises
abbrev pub Behind : (ℕ → Result Unit Refusal → Type 0) → Result Unit Refusal → ℕ → ℕ → ℕ → Type 0
Behind P (Ok _) at passed n = passed ≡ n
Behind P (Err r) at passed n = (passed < n) × P at (Err r)

-- rows of one width are judged one after the other, within a file of some length
pub record Each (P : ℕ → Result Unit Refusal → Type 0) (len : ℕ) (r : Result Unit Refusal) (at wide n : ℕ) : Type 0 where
  pub passed : ℕ
  pub stands : at + wide * passed ≤ len
  pub rows : (i : ℕ) → i < passed → P (at + wide * i) (Ok tt)
  pub behind : Behind P r (at + wide * passed) passed n

-- a count that fits the lent cells, or the number by which the reader stops
pub record Counted (bytes : List ℕ) (at lent v : ℕ) : Type 0 where
  pub value : v ≡ word_at bytes at
  pub reads : Reads bytes at (at + 4) v (counted lent)
  pub room : v ≤ lent

abbrev pub Counts : Result ℕ Refusal → List ℕ → ℕ → ℕ → Type 0
Counts (Ok v) bytes at lent = Counted bytes at lent v
Counts (Err r) bytes at lent = counted lent (drop at bytes) ≡ stop (number_of r)

-- a curve's vertex count, behind `before` others
pub record Strung (bytes : List ℕ) (at x lent before v : ℕ) : Type 0 where
  pub value : v ≡ x
  pub reads : Reads bytes at (at + 4) x (curve_count lent before)
  pub some : 0 < v
  pub room : before + v ≤ lent
  pub few : before + v ≤ LIMIT

abbrev pub Strings : Result ℕ Refusal → List ℕ → ℕ → ℕ → ℕ → Type 0
Strings (Ok v) bytes at lent before = Strung bytes at (word_at bytes at) lent before v
Strings (Err r) bytes at lent before = curve_count lent before (drop at bytes) ≡ stop (number_of r)

-- a curve of v vertices, behind `before` others
pub record Wound (bytes : List ℕ) (at count lent before v : ℕ) : Type 0 where
  pub value : v ≡ word_at bytes (at + 4)
  pub reads : Reads bytes at (at + (5 * v + 7)) (curve_at bytes at) (curve count lent before)
  pub some : 0 < v
  pub room : before + v ≤ lent
  pub few : before + v ≤ LIMIT

abbrev pub Winds : Result ℕ Refusal → List ℕ → ℕ → ℕ → ℕ → ℕ → Type 0
Winds (Ok v) bytes at count lent before = Wound bytes at count lent before v
Winds (Err r) bytes at count lent before = curve count lent before (drop at bytes) ≡ stop (number_of r)

-- n curves with v vertices in all
pub record WoundAll (bytes : List ℕ) (at n count lent v : ℕ) : Type 0 where
  pub sum : v ≡ curve_vertices_of (curves_at bytes at n)
  pub place : at + (5 * v + 7 * n) ≡ curve_place bytes at n
  pub reads : Reads bytes at (at + (5 * v + 7 * n)) (curves_at bytes at n) (curves count lent n 0)
  pub some : (i : ℕ) → i < n → 0 < word_at bytes (curve_place bytes at i + 4)
  pub room : v ≤ lent

abbrev pub WindAll : Result ℕ Refusal → List ℕ → ℕ → ℕ → ℕ → ℕ → Type 0
WindAll (Ok v) bytes at n count lent = WoundAll bytes at n count lent v
WindAll (Err r) bytes at n count lent = curves count lent n 0 (drop at bytes) ≡ stop (number_of r)
