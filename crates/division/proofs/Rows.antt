-- From cells to definitions, over the width: what a slice holds after words were written into it, and lists read off by their places.
-- Assumes nothing.
use mathlib.Core.Path.{◌≡◌, refl, sym, ◌∙◌, ap}
use mathlib.Core.List.{List, [], ◌∷◌, ◌++◌, map, append_assoc, append-nil}
use Prim.Native.Nat.{ℕ, zero, suc, ◌+◌, ◌<◌, ◌≤◌}
use native.Mathlib.Omega.{arith}
use native.Mathlib.Nat.{add-zero, zero-add}
use native.Mathlib.Numerals.{add-one}
use lib.ListN.{length, get_or, take, drop, set, length-append, length-drop, take-append-drop, get_or-append}
use lib.Seq.{length-take-le, set_at, take_at, drop_at, drop-cons, drop-drop, get_or-take, get_or-drop, take-suc}
use Rattle.geom.specs.Elements.{point_at, pick}
use Rattle.geom.specs.Memory.{first_of, over}
use Rattle.division.specs.Writing.{written}
use Rattle.geom.proofs.Rows.{length_first_of, map_first_of}

-- ── writing ──

module _ {A : Type 0} where
  -- the words before the place where the writing goes on
  length_front : (old : List A) (at : ℕ) (out : List A) → at ≤ length old → length (take at old ++ out) ≡ at + length out
  length_front old at out l = length-append (take at old) out ∙ omega (arith, length-take-le at old l)

  -- a slice keeps its length
  pub length_written : (old : List A) (at : ℕ) (out : List A) → at + length out ≤ length old → length (written old at out) ≡ length old
  unfolding written
  length_written old at out l =
      length-append (take at old ++ out) (drop (at + length out) old)
      ∙ omega (arith, length_front old at out (omega arith), length-drop (at + length out) old)

  -- nothing written
  pub written_none : (old : List A) (at : ℕ) → at ≤ length old → written old at [] ≡ old
  unfolding written
  written_none old at l =
      rw (add-zero at, append-nil (take at old)) (take-append-drop at old)

  -- one word more
  pub written_set :
      (old : List A) (at : ℕ) (out : List A) (v : A) → at + length out < length old
      → set (written old at out) (at + length out) v ≡ written old at (out ++ v ∷ [])
  unfolding written
  written_set old at out v l =
      let n = at + length out in
      let front = take at old ++ out in
      let rest = drop (suc n) old in
      let e : at + length (out ++ v ∷ []) ≡ suc n = omega (arith, length-append out (v ∷ [])) in
      ap (λ (r : List A). set (front ++ r) n v) (drop-cons old n v l)
      ∙ set_at front (get_or old n v) rest v n (length_front old at out (omega arith))
      ∙ sym (ap (λ (k : ℕ). take at old ++ (out ++ v ∷ []) ++ drop k old) e ∙ ap (λ (r : List A). r ++ rest) (sym (append_assoc (take at old) out (v ∷ []))) ∙ append_assoc front (v ∷ []) rest)

  -- more words
  pub written_more :
      (old : List A) (at : ℕ) (out more : List A) → at + length out + length more ≤ length old
      → written (written old at out) (at + length out) more ≡ written old at (out ++ more)
  unfolding written
  written_more old at out more l =
      let n = at + length out in
      let front = take at old ++ out in
      let whole = front ++ drop n old in
      let m = length more in
      let f : length front ≡ n = length_front old at out (omega arith) in
      let e : at + length (out ++ more) ≡ n + m = omega (arith, length-append out more) in
      let back : drop (n + m) whole ≡ drop (n + m) old =
      sym (drop-drop m n whole) ∙ ap (drop m) (drop_at front (drop n old) n f) ∙ drop-drop m n old
      in
      ap (λ (r : List A). r ++ more ++ drop (n + m) whole) (take_at front (drop n old) n f)
      ∙ ap (λ (r : List A). front ++ more ++ r) back
      ∙ sym (ap (λ (k : ℕ). take at old ++ (out ++ more) ++ drop k old) e ∙ ap (λ (r : List A). r ++ drop (n + m) old) (sym (append_assoc (take at old) out more)))

  -- from the start
  pub written_over : (old out : List A) → written old 0 out ≡ over old out
  unfolding written over
  written_over old out =
      ap (λ (k : ℕ). out ++ drop k old) (zero-add (length out))

  -- and behind it the old words stay
  pub written_copy : (old out : List A) (n : ℕ) → length out ≡ n → out ++ drop n old ≡ written old 0 out
  unfolding over
  written_copy old out n e = ap (λ (k : ℕ). out ++ drop k old) (sym e) ∙ sym (written_over old out)

  -- the words before it stay
  pub written_before :
      (old : List A) (at : ℕ) (out : List A) (i : ℕ) (d : A) → i < at → at ≤ length old → get_or (written old at out) i d ≡ get_or old i d
  unfolding written
  written_before old at out i d l k =
      get_or-append (take at old ++ out) (drop (at + length out) old) d i (omega (arith, length_front old at out k))
      ∙ get_or-append (take at old) out d i (omega (arith, length-take-le at old k))
      ∙ get_or-take at old i d l

  -- the words up to the end of the writing
  pub take_written :
      (old : List A) (at : ℕ) (out : List A) (n : ℕ) → at ≤ length old → at + length out ≡ n → take n (written old at out) ≡ take at old ++ out
  unfolding written
  take_written old at out n l e = take_at (take at old ++ out) (drop (at + length out) old) n (length_front old at out l ∙ e)

-- ── lists read off by their places ──

-- a part of a list is its words in order
pub first_of_part :
    {A : Type 0} (d : A) (l : List A) (from n : ℕ) → from + n ≤ length l → first_of (λ (i : ℕ). get_or l (from + i) d) n ≡ take n (drop from l)
unfolding first_of
first_of_part d l from zero k = refl
first_of_part {A} d l from (suc n) k =
    ap (λ (r : List A). r ++ get_or l (from + n) d ∷ []) (first_of_part d l from n (omega arith))
    ∙ ap (λ (v : A). take n (drop from l) ++ v ∷ []) (sym (get_or-drop from l n d))
    ∙ sym (take-suc (drop from l) n d (omega (arith, length-drop from l)))

-- and its first words are what it begins with
pub first_of_taken : {A : Type 0} (d : A) (l : List A) (n : ℕ) → n ≤ length l → first_of (λ (i : ℕ). get_or l i d) n ≡ take n l
first_of_taken {A} d l n k =
    sym (λ j. first_of (λ (i : ℕ). get_or l (zero-add i j) d) n) ∙ first_of_part d l 0 n (omega arith)

-- the points at the places of a part of a table
pub first_of_pick :
    (points table : List ℕ) (from n : ℕ) → from + n ≤ length table
    → first_of (λ (i : ℕ). point_at points (get_or table (from + i) 0)) n ≡ pick points (take n (drop from table))
unfolding pick
first_of_pick points table from n k =
    sym (ap (map (point_at points)) (sym (first_of_part 0 table from n k)) ∙ map_first_of (point_at points) (λ (i : ℕ). get_or table (from + i) 0) n)

-- ── a loop that writes one word a turn ──

-- i of n words of f have been written from the place `at` on
pub record Copying {A : Type 0} (old : List A) (at : ℕ) (f : ℕ → A) (n i : ℕ) (words : List A) : Type 0 where
  pub within : i ≤ n
  pub fits : at + n ≤ length old
  pub list : words ≡ written old at (first_of f i)

module _ {A : Type 0} {at : ℕ} {f : ℕ → A} {n : ℕ} where
  pub copying_start : (old : List A) → at + n ≤ length old → Copying old at f n 0 old
  unfolding first_of
  copying_start old l = record { within = omega arith; fits = l; list = sym (written_none old at (omega arith)) }

  pub copying_length : {old words : List A} {i : ℕ} → Copying old at f n i words → length words ≡ length old
  copying_length {old} {words} {i} c =
      ap length c.list
      ∙ length_written old at (first_of f i) (omega (arith, length_first_of f i, c.within, c.fits))

  pub copying_on :
      {old words : List A} {i : ℕ} (j : ℕ) → Copying old at f n i words → i < n → j ≡ at + i
      → Copying old at f n (i + 1) (set words j (f i))
  unfolding first_of
  copying_on {old} {words} {i} j c l e =
      let m = length_first_of f i in
      let k : j ≡ at + length (first_of f i) = omega arith in
      record {
        within = omega arith;
        fits = c.fits;
        list =
            ap (λ (w : List A). set w j (f i)) c.list
            ∙ ap (λ (k : ℕ). set (written old at (first_of f i)) k (f i)) k
            ∙ written_set old at (first_of f i) (f i) (omega (arith, c.fits))
            ∙ ap (λ (k : ℕ). written old at (first_of f k)) (sym (add-one i));
      }

  pub copying_done :
      {old words : List A} {i : ℕ} (out : List A) → Copying old at f n i words → n ≤ i → first_of f n ≡ out → words ≡ written old at out
  copying_done {old} {words} {i} out c l e =
      let s : i ≡ n = omega (arith, c.within) in
      c.list ∙ ap (λ (k : ℕ). written old at (first_of f k)) s ∙ ap (written old at) e
