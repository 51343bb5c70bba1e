-- Numbers, elements and vertices written from the start of their lists.
-- Assumes nothing.
use mathlib.Core.Path.{◌≡◌, refl, sym, ◌∙◌, ap}
use mathlib.Core.List.{List, [], ◌∷◌, flat_map}
use Prim.Native.Nat.{ℕ, suc, ◌+◌, ◌*◌, ◌≤◌, ◌<◌}
use native.Mathlib.Nat.{mul-suc, mul-le-mul_left}
use native.Mathlib.Numerals.{add-one}
use native.Mathlib.Omega.{arith}
use lib.Ieee.{Float}
use lib.ListN.{length, set, length-append}
use lib.Seq.{sets, length-sets}
use Rattle.geom.specs.declared.vertex.Vertex.{Vertex}
use Rattle.geom.specs.Elements.{Element}
use Rattle.geom.specs.Memory.{first_of, parity_word, element_words, over}
use Rattle.geom.proofs.Rows.{length_first_of}
use Rattle.vertices.specs.Cells.{position_words, mark_words, positions_words, marks_words, Stand, Laid, Over}
use Rattle.vertices.proofs.Written.{sets_over, length_flat}
use Rattle.fields.specs.Fields.{word_at, vertex_at, vertices_at, parity_at, numbers_at, wide, element_at, elements_at}
use Rattle.figure.specs.Written.{row_words, Rows}
use Rattle.figure.proofs.Laying.{sets_append, word_more, row_more, flat_length}

-- ---- numbers

module _ (bytes : List ℕ) (at : ℕ) where
  abbrev number_at : ℕ → ℕ
  number_at i = word_at bytes (at + 4 * i)

  many : (n : ℕ) → length (numbers_at bytes at n) ≡ n
  many n = length_first_of number_at n

  -- the first i numbers were written, from a word on
  pub record Numbers (l now : List ℕ) (from n i : ℕ) : Type 0 where
    pub words : now ≡ sets l from (numbers_at bytes at i)

  pub numbers_start : (l : List ℕ) (from n : ℕ) → Numbers l l from n 0
  unfolding first_of
  numbers_start l from n = record { words = refl }

  module _ (l now : List ℕ) (from n i : ℕ) (s : Numbers l now from n i) where
    pub numbers_length : length now ≡ length l
    numbers_length = ap length s.words ∙ length-sets l from (numbers_at bytes at i)

    pub numbers_on : Numbers l (set now (from + i) (number_at i)) from n (i + 1)
    numbers_on = record { words = word_more l now number_at from i s.words }

    pub numbers_done : i ≤ n → n ≤ i → now ≡ sets l from (numbers_at bytes at n)
    numbers_done k h = let q : i ≡ n = omega arith in rw q at s.words

  pub numbers_over : (l : List ℕ) (n : ℕ) → n ≤ length l → sets l 0 (numbers_at bytes at n) ≡ over l (numbers_at bytes at n)
  numbers_over l n h = sets_over l (numbers_at bytes at n) (omega (arith, many n))

-- ---- elements

module _ (bytes : List ℕ) (at corners : ℕ) where
  -- the corners, then the parity
  pub element_written : (l m : List ℕ) (from w : ℕ) → m ≡ sets l from (numbers_at bytes at corners) → w ≡ parity_word (parity_at bytes (at + 4 * corners))
      → set m (from + corners) w ≡ sets l from (row_words (element_at corners bytes at))
  unfolding element_at
  element_written l m from w e q =
      rw (e, q)
      (ap (λ (k : ℕ). sets (sets l from (numbers_at bytes at corners)) (from + k) (parity_word (parity_at bytes (at + 4 * corners)) ∷ [])) (sym (many bytes at corners))
      ∙ sym (sets_append l from (numbers_at bytes at corners) (parity_word (parity_at bytes (at + 4 * corners)) ∷ [])))

row_length : (bytes : List ℕ) (at corners : ℕ) → length (row_words (element_at corners bytes at)) ≡ suc corners
unfolding element_at
row_length bytes at corners =
    length-append (numbers_at bytes at corners) (parity_word (parity_at bytes (at + 4 * corners)) ∷ []) ∙ omega (arith, many bytes at corners)

module _ (bytes : List ℕ) (at corners : ℕ) where
  abbrev item : ℕ → Element
  item i = element_at corners bytes (at + wide corners * i)

  -- the first i elements were written
  pub record Elements (l now : List ℕ) (n i : ℕ) : Type 0 where
    pub words : now ≡ sets l 0 (flat_map row_words (first_of item i))

  pub elements_start : (l : List ℕ) (n : ℕ) → Elements l l n 0
  unfolding first_of flat_map
  elements_start l n = record { words = refl }

  module _ (l now : List ℕ) (n i : ℕ) (e : Elements l now n i) where
    pub elements_length : length now ≡ length l
    elements_length = ap length e.words ∙ length-sets l 0 (flat_map row_words (first_of item i))

    pub elements_on : (now' : List ℕ) → now' ≡ sets now ((corners + 1) * i) (row_words (item i)) → Elements l now' n (i + 1)
    elements_on now' q =
        let m = flat_length row_words item (suc corners) (λ i. row_length bytes (at + wide corners * i) corners) i in
        record {
          words =
              q
              ∙ row_more row_words item l now 0 i ((corners + 1) * i) e.words
              (ap (λ (k : ℕ). k * i) (add-one corners) ∙ omega (arith, m));
        }

    pub elements_done : i ≤ n → n ≤ i → suc corners * n ≤ length l → now ≡ over l (element_words (elements_at corners bytes at n))
    unfolding element_words
    elements_done k h room =
        let q : i ≡ n = omega arith in
        let m = flat_length row_words item (suc corners) (λ i. row_length bytes (at + wide corners * i) corners) n in
        rw q at e.words ∙ sets_over l (flat_map row_words (first_of item n)) (omega (arith, m))

-- row i of those that stand in the file and have room
pub row_stands : (bytes : List ℕ) (at : ℕ) (out : List ℕ) (corners n i : ℕ) → Rows bytes at out corners n → i < n
    → (at + wide corners * i + wide corners ≤ length bytes) × ((corners + 1) * i + corners < length out)
row_stands bytes at out corners n i r h = (
  omega (arith, mul-suc (wide corners) i, mul-le-mul_left (wide corners) h, r.stand),
  rw (add-one corners) (omega (arith, mul-suc (suc corners) i, mul-le-mul_left (suc corners) h, r.room)),
)

-- ---- vertices

pub vertices_over : (bytes : List ℕ) (at : ℕ) (held : List Float) (noted : List ℕ) (n i : ℕ) (positions : List Float) (marks : List ℕ) → i ≤ n → n ≤ i → Stand held noted n
    → Laid held noted 0 (vertices_at bytes at i) positions marks → Over held noted (vertices_at bytes at n) positions marks
vertices_over bytes at held noted n i positions marks h k s l =
    let q : i ≡ n = omega arith in
    let m = length_first_of (λ (i : ℕ). vertex_at bytes (at + 25 * i)) n in
    let points = length_flat (λ (v : Vertex). position_words v.position) 4 (λ v. refl) (vertices_at bytes at n) in
    let words = length_flat mark_words 3 (λ v. refl) (vertices_at bytes at n) in
    record {
      points = rw q at l.points ∙ sets_over held (positions_words (vertices_at bytes at n)) (omega (arith, points, m, s.points));
      words = rw q at l.words ∙ sets_over noted (marks_words (vertices_at bytes at n)) (omega (arith, words, m, s.words));
    }
