-- Which texts a line of the listing is made of, and the lines of a list one after the other.
-- Assumes nothing.
use mathlib.Core.Path.{◌≡◌, refl, sym, ◌∙◌, ap, ap₂}
use mathlib.Core.List.{List, [], ◌∷◌, ◌++◌, flat_map, append_assoc, append-nil}
use Prim.Native.Nat.{ℕ, zero, suc, ◌+◌, ◌-◌, ◌*◌, ◌/◌, ◌%◌, ◌<◌, ◌≤◌}
use native.Mathlib.Omega.{arith}
use native.Mathlib.Nat.{add-zero}
use native.Mathlib.Numerals.{add-one}
use lib.Ieee.{Float, binary32, to_bits}
use lib.ListN.{length, get_or, take, drop}
use Rattle.numbers.specs.Binary32 as Binary32
use Rattle.geom.specs.declared.parity.Parity.{Parity}
use Rattle.geom.specs.Listing.{SPACE, NEWLINE, digit, decimal, hexadecimal, spaced, bits, numbers, letter, vertex_line, point_line, element_line, curve_line}
use Rattle.geom.specs.Memory.{first_of, four_row, vertex_row_in, element_row, element_of, parity_of}
use Rattle.geom.specs.Refusals.{curve_lengths}
use Rattle.judge.specs.Words.{word_at, Column}
use Rattle.geom.proofs.Rows.{flat_map_append, first_of_same}
use Rattle.division.specs.Threads.{curve_at}
use Rattle.division.proofs.Rows.{first_of_part}
use Rattle.division.proofs.Winding.{start_of, start_suc, start_grows}
use Rattle.listing.specs.Text.{together, coordinate_text, vertex_text, number_text, letter_text, line_text, point_text, element_text, curve_text}
use Rattle.listing.proofs.Numerals.{decimal_small, decimal_large}
use Rattle.listing.proofs.Texts.{joined}

-- ---- texts one after the other

pub together_flat : {A : Type 0} (f : A → List ℕ) (at : ℕ → A) (n : ℕ) → together (λ (i : ℕ). f (at i)) n ≡ flat_map f (first_of at n)
unfolding together first_of flat_map
together_flat f at zero = refl
together_flat f at (suc n) =
    ap (λ (r : List ℕ). r ++ f (at n)) (together_flat f at n)
    ∙ sym (flat_map_append f (first_of at n) (at n ∷ []) ∙ ap (λ (r : List ℕ). flat_map f (first_of at n) ++ r) (append-nil (f (at n))))

-- ---- a vertex

regroup : (a x y z w e : List ℕ) → a ++ x ++ y ++ z ++ w ++ e ≡ a ++ ((x ++ y ++ z ++ w) ++ e)
regroup a x y z w e = simp append_assoc

pub vertex_parts :
    (positions : List Float) (i : ℕ)
    → vertex_text positions i ≡ joined ((118 ∷ []) ∷ spaced (decimal i) ∷ together (coordinate_text positions (4 * i)) 4 ∷ (NEWLINE ∷ []) ∷ [])
unfolding joined together vertex_line vertex_row_in four_row
vertex_parts positions i =
    let at : ℕ → List ℕ = λ k. bits (get_or positions k Binary32.zero) in
    let front : List ℕ = 118 ∷ spaced (decimal i) in
    regroup front (at (4 * i)) (at (4 * i + 1)) (at (4 * i + 2)) (at (4 * i + 3)) (NEWLINE ∷ [])
    ∙ ap (λ (k : ℕ). front ++ ((at k ++ at (4 * i + 1) ++ at (4 * i + 2) ++ at (4 * i + 3)) ++ NEWLINE ∷ [])) (sym (add-zero (4 * i)))

-- ---- a line of vertex numbers and parities

pub line_parts :
    (name : ℕ) (words : List ℕ) (width column vertices mark parities : ℕ)
    → line_text name words width column vertices mark parities
    ≡ joined ((name ∷ []) ∷ together (number_text words width column) vertices ∷ together (letter_text words width mark) parities ∷ (NEWLINE ∷ []) ∷ [])
unfolding joined line_text
line_parts name words width column vertices mark parities = simp append_assoc

line_of :
    (name : ℕ) (words : List ℕ) (width column n mark m : ℕ) {vs : List ℕ} {ps : List Parity} → first_of (word_at words width column) n ≡ vs
    → first_of (λ (j : ℕ). parity_of (word_at words width mark j)) m ≡ ps
    → line_text name words width column n mark m ≡ name ∷ numbers vs ++ flat_map letter ps ++ NEWLINE ∷ []
unfolding line_text numbers
line_of name words width column n mark m p q =
    ap₂ (λ (v l : List ℕ). name ∷ v ++ l ++ NEWLINE ∷ [])
    (together_flat (λ (v : ℕ). spaced (decimal v)) (word_at words width column) n ∙ ap (flat_map (λ (v : ℕ). spaced (decimal v))) p)
    (together_flat letter (λ (j : ℕ). parity_of (word_at words width mark j)) m ∙ ap (flat_map letter) q)

-- a column of words that stand side by side
column_part : (words : List ℕ) (column n : ℕ) → column + n ≤ length words → first_of (word_at words 1 column) n ≡ take n (drop column words)
column_part words column n l =
    first_of_same (word_at words 1 column) (λ (j : ℕ). get_or words (column + j) 0) n
    (λ j k. ap (λ (p : ℕ). get_or words p 0) (omega arith))
    ∙ first_of_part 0 words column n l

-- ---- a point, an element and a curve

pub point_line_lem : (words : List ℕ) (i : ℕ) → point_text words i ≡ line_text 112 words 1 i 1 i 0
unfolding point_line first_of flat_map
point_line_lem words i =
    let e : 1 * 0 + i ≡ i = omega arith in
    let v = get_or words i 0 in
    sym (line_of 112 words 1 i 1 i 0 {vs = v ∷ []} {ps = []} (ap (λ (k : ℕ). get_or words k 0 ∷ []) e) refl
    ∙ ap (λ (r : List ℕ). r ++ NEWLINE ∷ []) (append-nil (112 ∷ numbers (v ∷ []))))

pub element_line_lem :
    (name : ℕ) (words : List ℕ) (corners i : ℕ) → (corners + 1) * i + corners < length words
    → element_text name words corners i ≡ line_text name words 1 ((corners + 1) * i) corners ((corners + 1) * i + corners) 1
unfolding element_line element_of element_row first_of flat_map
element_line_lem name words corners i l =
    let row = (corners + 1) * i in
    let e : row ≡ suc corners * i = ap (λ (k : ℕ). k * i) (add-one corners) in
    let f : 1 * 0 + (row + corners) ≡ suc corners * i + corners = omega arith in
    let p = parity_of (get_or words (suc corners * i + corners) 0) in
    let vs = take corners (drop (suc corners * i) words) in
    sym (line_of name words 1 row corners (row + corners) 1 {vs = vs} {ps = p ∷ []}
    (column_part words row corners (omega arith) ∙ ap (λ (k : ℕ). take corners (drop k words)) e)
    (ap (λ (k : ℕ). parity_of (get_or words k 0) ∷ []) f)
    ∙ ap (λ (r : List ℕ). name ∷ numbers vs ++ r ++ NEWLINE ∷ []) (append-nil (letter p)))

-- the vertices of a curve begin where those of the curve before it end
pub starts : (words : List ℕ) → 0 ≡ start_of words 0
unfolding first_of curve_lengths
starts words = refl

-- curve i with its vertex count, of curves whose vertices stand in their slice
module _ (words steps : List ℕ) (i start count : ℕ) (e : start ≡ start_of words i) (w : count ≡ get_or words (2 * i + 1) 0) where
  pub curve_next : start + count ≡ start_of words (i + 1)
  curve_next = omega (arith, start_suc words i, ap (start_of words) (add-one i))

  module _ (rows : ℕ) (l : i < rows) (fits : 2 * start_of words rows ≤ length steps) where
    pub curve_end : 2 * (start + count) ≤ length steps
    curve_end = omega (arith, start_suc words i, start_grows words (suc i) rows l)

    pub curve_vertices_lem : Column steps 2 (2 * start) count
    curve_vertices_lem = record { stands = λ j k. omega (arith, curve_end) }

    pub curve_parities : (fewer : ℕ) → fewer ≡ count - 1 → Column steps 2 (2 * start + 1) fewer
    curve_parities fewer f = record { stands = λ j k. omega (arith, curve_end) }

  pub curve_line_lem : (fewer : ℕ) → fewer ≡ count - 1 → curve_text words steps i ≡ line_text 99 steps 2 (2 * start) count (2 * start + 1) fewer
  unfolding curve_line
  curve_line_lem fewer f =
      let n = get_or words (2 * i + 1) 0 in
      ap (λ (k : ℕ). curve_line (curve_at words steps k i)) (sym e)
      ∙ sym (line_of 99 steps 2 (2 * start) n (2 * start + 1) (n - 1)
      (first_of_same (word_at steps 2 (2 * start)) (λ (j : ℕ). get_or steps (2 * (start + j)) 0) n
      (λ j k. ap (λ (p : ℕ). get_or steps p 0) (omega arith)))
      (first_of_same (λ (j : ℕ). parity_of (word_at steps 2 (2 * start + 1) j)) (λ (j : ℕ). parity_of (get_or steps (2 * (start + j) + 1) 0)) (n - 1)
      (λ j k. ap (λ (p : ℕ). parity_of (get_or steps p 0)) (omega arith))))
      ∙ ap (λ (k : ℕ). line_text 99 steps 2 (2 * start) k (2 * start + 1) (k - 1)) (sym w)
      ∙ ap (λ (k : ℕ). line_text 99 steps 2 (2 * start) count (2 * start + 1) k) (sym f)

-- ---- a number

pub digit_part : (n glyph : ℕ) → n < 10 → glyph ≡ digit n → decimal n ≡ joined ((glyph ∷ []) ∷ [])
unfolding joined
digit_part n glyph l e = decimal_small n l ∙ ap (λ (d : ℕ). d ∷ []) (sym e)

pub decimal_parts : (n glyph : ℕ) → 10 ≤ n → glyph ≡ digit (n % 10) → decimal n ≡ joined (decimal (n / 10) ∷ (glyph ∷ []) ∷ [])
unfolding joined
decimal_parts n glyph l e = decimal_large n l ∙ ap (λ (d : ℕ). decimal (n / 10) ++ d ∷ []) (sym e)

-- ---- a word after a space

pub spaced_parts : (word : List ℕ) → spaced word ≡ joined ((SPACE ∷ []) ∷ word ∷ [])
unfolding joined
spaced_parts word = ap (λ (w : List ℕ). SPACE ∷ w) (sym (append-nil word))

pub bits_parts : (c : Float) (pattern : ℕ) → pattern ≡ to_bits binary32 c → bits c ≡ joined ((SPACE ∷ []) ∷ hexadecimal pattern ∷ [])
bits_parts c pattern e = ap (λ (n : ℕ). spaced (hexadecimal n)) (sym e) ∙ spaced_parts (hexadecimal pattern)

pub length_hexadecimal : (n : ℕ) → length (hexadecimal n) ≡ 8
unfolding hexadecimal
length_hexadecimal n = refl
