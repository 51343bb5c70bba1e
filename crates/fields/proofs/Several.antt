-- Rows of one width, read one after the other: what a loop that judges them knows at its start, after a turn, where it stops and where it is done.
-- Assumes nothing.
use mathlib.Core.Path.{◌≡◌, refl, ◌∙◌, ap}
use mathlib.Core.Logic.{◌⊎◌, inl, inr}
use mathlib.Core.List.{List, [], ◌∷◌, ◌++◌}
use Prim.Native.Nat.{ℕ, zero, suc, ◌+◌, ◌*◌, ◌≤◌, ◌<◌}
use native.Mathlib.Nat.{eq-or-lt_of_le, mul-suc}
use native.Mathlib.Numerals.{add-one}
use native.Mathlib.Omega.{arith}
use lib.ListN.{length, drop}
use Rattle.std.specs.Prelude.{Result, Ok, Err}
use Rattle.geom.specs.Memory.{first_of}
use Rattle.geom.specs.File.{Read, Reader, read, stop, and_then, ◌>>=◌, done, several}
use Rattle.geom.specs.declared.refusal.Refusal.{Refusal}
use Rattle.fields.specs.Fields.{Reads, Passes, Each}

module _ {A : Type 0} (row : Reader A) where
  -- a row more behind those that were read
  abbrev onward : List A → Reader (List A)
  onward xs = ◌>>=◌ row (λ (x : A). done (xs ++ x ∷ []))

  abbrev before : A → List A → Reader (List A)
  before x xs = done (x ∷ xs)

  last : (x : A) (xs : List A) (q : Read A) → and_then (and_then q (λ (y : A). done (xs ++ y ∷ []))) (before x) ≡ and_then q (λ (y : A). done (x ∷ xs ++ y ∷ []))
  last x xs (read y b) = refl
  last x xs (stop n) = refl

  middle : (x : A) (p : Read (List A)) → and_then (and_then p onward) (before x) ≡ and_then (and_then p (before x)) onward
  middle x (read xs b) = last x xs (row b)
  middle x (stop n) = refl

  -- the last row read last
  several_snoc : (n : ℕ) (bytes : List ℕ) → several (suc n) row bytes ≡ and_then (several n row bytes) onward
  unfolding several
  several_snoc zero bytes = refl
  several_snoc (suc n) bytes = first (several_snoc n) (row bytes)
    where
      first : ((b : List ℕ) → several (suc n) row b ≡ and_then (several n row b) onward) → (q : Read A)
          → and_then q (λ (x : A). ◌>>=◌ (several (suc n) row) (before x)) ≡ and_then (and_then q (λ (x : A). ◌>>=◌ (several n row) (before x))) onward
      first rest (read x b) = ap (λ (p : Read (List A)). and_then p (before x)) (rest b) ∙ middle x (several n row b)
      first rest (stop k) = refl

  -- stopped, whatever was to be read behind
  off : (i n k : ℕ) (bytes : List ℕ) → several (suc i) row bytes ≡ stop k → i < n → several n row bytes ≡ stop k
  off i zero k bytes e h = absurd (omega arith)
  off i (suc n) k bytes e h = go (off i n k bytes e) (eq-or-lt_of_le {n = i} {m = n} (omega arith))
    where
      go : (i < n → several n row bytes ≡ stop k) → (i ≡ n) ⊎ (i < n) → several (suc n) row bytes ≡ stop k
      go rest (inl q) = rw (← q) e
      go rest (inr l) = several_snoc n bytes ∙ rw (rest l) refl

  module _ (bytes : List ℕ) (at wide : ℕ) (item : ℕ → A) where
    -- the first i rows were read
    abbrev pub Rows : ℕ → Type 0
    Rows i = Reads bytes at (at + wide * i) (first_of item i) (several i row)

    pub rows_start : at ≤ length bytes → Rows 0
    unfolding several first_of
    rows_start h = let e : at + wide * 0 ≡ at = omega arith in record { reads = rw e refl; stands = omega arith }

    pub rows_on : (i : ℕ) → Rows i → Reads bytes (at + wide * i) (at + wide * i + wide) (item i) row → Rows (i + 1)
    unfolding first_of
    rows_on i r s =
        let e : at + wide * i + wide ≡ at + wide * suc i = omega (arith, mul-suc wide i) in
        rw (add-one i) (record { reads = several_snoc i (drop at bytes) ∙ rw (r.reads, s.reads, e) refl; stands = rw e at s.stands })

    pub rows_off : (i n k : ℕ) → Rows i → i < n → row (drop (at + wide * i) bytes) ≡ stop k → several n row (drop at bytes) ≡ stop k
    rows_off i n k r h e = off i n k (drop at bytes) (several_snoc i (drop at bytes) ∙ rw (r.reads, e) refl) h

-- what judges a row promises what the reader of a row reads
abbrev pub Judges : {A : Type 0} → (ℕ → Result Unit Refusal → Type 0) → List ℕ → ℕ → (ℕ → A) → Reader A → Type 0
Judges P bytes wide value row =
    (p : ℕ) → p ≤ length bytes → (r : Result Unit Refusal) → P p r → Passes r bytes p (p + wide) (value p) row

module _ {A : Type 0} (P : ℕ → Result Unit Refusal → Type 0) (bytes : List ℕ) (at wide : ℕ) (value : ℕ → A) (row : Reader A) (judges : Judges P bytes wide value row) (place : ℕ → ℕ) (placed : (i : ℕ) → place i ≡ at + wide * i) where
  abbrev item : ℕ → A
  item i = value (place i)

  each_reads : (i : ℕ) → at ≤ length bytes → ((j : ℕ) → j < i → P (at + wide * j) (Ok tt)) → Rows row bytes at wide item i
  each_reads zero h f = rows_start row bytes at wide item h
  each_reads (suc i) h f =
      let r = each_reads i h (λ j l. f j (omega arith)) in
      let s : Reads bytes (at + wide * i) (at + wide * i + wide) (item i) row = rw (placed i) (judges (at + wide * i) r.stands (Ok tt) (f i (omega arith))) in
      rw (← add-one i) (rows_on row bytes at wide item i r s)

  -- rows that are judged one after the other are read one after the other
  pub each_passes : (r : Result Unit Refusal) (n : ℕ) → at ≤ length bytes → Each P (length bytes) r at wide n
      → Passes r bytes at (at + wide * n) (first_of item n) (several n row)
  each_passes (Ok _) n h e = rw e.behind at (each_reads e.passed h e.rows)
  each_passes (Err k) n h e =
      rows_off row bytes at wide item e.passed n _ (each_reads e.passed h e.rows) e.behind.0 (judges (at + wide * e.passed) e.stands (Err k) e.behind.1)

-- rows of one byte
pub one : (i : ℕ) → 1 * i ≡ i
one i = omega arith
