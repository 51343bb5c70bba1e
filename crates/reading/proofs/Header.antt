-- The version, the kind, and a whole file as these and its lists.
-- Assumes nothing.
use mathlib.Core.Path.{◌≡◌, refl, sym, ◌∙◌}
use mathlib.Core.List.{List}
use Prim.Native.Nat.{ℕ, zero, suc, ◌+◌, ◌<◌}
use native.Mathlib.Omega.{arith}
use lib.Dec.{eqb}
use lib.ListN.{get_or, drop}
use borrow.Author.Tests.{eq-eqb, ne_eqb, lt-leb}
use Rattle.geom.specs.declared.answer.Sizes.{Sizes}
use Rattle.std.specs.Prelude.{Result, Ok, Err}
use Rattle.geom.specs.declared.kind.Kind as Declared
use Rattle.geom.specs.declared.refusal.Refusal.{Refusal}
use Rattle.geom.specs.Answers.{number_of}
use Rattle.geom.specs.Book.{Kind, cubes, simplices}
use Rattle.geom.specs.Kinds.{kind_of}
use Rattle.geom.specs.File.{Read, Reader, Figure, read, stop, and_then, ◌>>=◌, judged, byte, kind_field, figure}
use Rattle.fields.specs.Fields.{Reads, Gives}
use Rattle.reading.specs.Parts.{taken_of}
use Rattle.reading.specs.declared.part.Taken.{Taken}
use Rattle.fields.proofs.Reading.{stopped}
use Rattle.reading.specs.declared.judging.Mesh as Found
use Rattle.reading.specs.Picked.{kind_in, header_of}
use Rattle.reading.specs.Places.{Finds}
use Rattle.reading.proofs.Lists.{lying, Lies}

-- the version and the kind
unfoldable pub opening : Reader Kind
opening = do
  v ← byte
  _ ← judged 1 (eqb v 1) v
  kind_field

-- the kind that was read, or the number by which the reader stops
abbrev pub Opens : Result Declared.Kind Refusal → List ℕ → Type 0
Opens (Ok kind) bytes = opening bytes ≡ read (kind_of kind) (drop 2 bytes)
Opens (Err r) bytes = opening bytes ≡ stop (number_of r)

-- ---- the kind

module _ (bytes : List ℕ) (x : ℕ) (r : Reads bytes 1 2 x byte) (v : ℕ) (e : v ≡ x) where
  kind_cubes : v ≡ 0 → kind_field (drop 1 bytes) ≡ read cubes (drop 2 bytes)
  unfolding kind_field judged
  kind_cubes h = let z : x ≡ 0 = omega arith in rw (r.reads, z) refl

  kind_simplices : v ≡ 1 → kind_field (drop 1 bytes) ≡ read simplices (drop 2 bytes)
  unfolding kind_field judged
  kind_simplices h = let z : x ≡ 1 = omega arith in rw (r.reads, z) refl

  kind_other : (v ≡ 0 → ⊥) → (v ≡ 1 → ⊥) → kind_field (drop 1 bytes) ≡ stop 2
  unfolding kind_field judged
  kind_other h l = rw (r.reads, lt-leb x 1 (rw e at (above v h l))) refl
    where
      above : (v : ℕ) → (v ≡ 0 → ⊥) → (v ≡ 1 → ⊥) → 1 < v
      above v h l = omega (arith, h, l)

-- what the kind's reader answers behind the version
abbrev Kinds : Result Declared.Kind Refusal → List ℕ → Type 0
Kinds (Ok kind) bytes = kind_field (drop 1 bytes) ≡ read (kind_of kind) (drop 2 bytes)
Kinds (Err r) bytes = kind_field (drop 1 bytes) ≡ stop (number_of r)

kind_stops : (bytes : List ℕ) (n : ℕ) → byte (drop 1 bytes) ≡ stop n → kind_field (drop 1 bytes) ≡ stop n
unfolding kind_field
kind_stops bytes n g = stopped byte _ _ _ g

kinds : (bytes : List ℕ) (x : ℕ) (f : Result ℕ Refusal) → Gives f bytes 1 2 x byte → Kinds (kind_in f) bytes
kinds bytes x (Ok zero) g = kind_cubes bytes x g.1 0 g.0 refl
kinds bytes x (Ok (suc zero)) g = kind_simplices bytes x g.1 1 g.0 refl
kinds bytes x (Ok (suc (suc n))) g = kind_other bytes x g.1 (suc (suc n)) g.0 (λ e. omega (arith, e)) (λ e. omega (arith, e))
kinds bytes x (Err n) g = kind_stops bytes (number_of n) g

-- ---- the version

module _ (bytes : List ℕ) (x : ℕ) (r : Reads bytes 0 1 x byte) (v : ℕ) (e : v ≡ x) where
  version_other : (v ≡ 1 → ⊥) → opening bytes ≡ stop 1
  unfolding opening judged
  version_other h = rw (r.reads, ne_eqb x 1 (λ z. h (e ∙ z))) refl

  version_one : v ≡ 1 → opening bytes ≡ kind_field (drop 1 bytes)
  unfolding opening judged
  version_one h = rw (r.reads, eq-eqb x 1 (sym e ∙ h)) refl

  opens : v ≡ 1 → (o : Result Declared.Kind Refusal) → Kinds o bytes → Opens o bytes
  opens h (Ok kind) k = version_one h ∙ k
  opens h (Err r) k = version_one h ∙ k

version_stops : (bytes : List ℕ) (n : ℕ) → byte bytes ≡ stop n → opening bytes ≡ stop n
unfolding opening
version_stops bytes n g = stopped byte _ _ _ g

-- the kind byte stands where the version left the reader
pub header_opens : (bytes : List ℕ) (f g : Result ℕ Refusal) (t : Taken) → Gives f bytes 0 1 (get_or bytes 0 0) byte → t ≡ taken_of f 0 1 0 → Gives g bytes t.at (t.at + 1) (get_or bytes t.at 0) byte
    → Opens (header_of f g) bytes
header_opens bytes (Ok zero) g t k e l = version_other bytes _ k.1 0 k.0 (λ z. omega (arith, z))
header_opens bytes (Ok (suc zero)) g t k e l = opens bytes _ k.1 1 k.0 refl (kind_in g) (kinds bytes (get_or bytes 1 0) g (rw e at l))
header_opens bytes (Ok (suc (suc n))) g t k e l = version_other bytes _ k.1 (suc (suc n)) k.0 (λ z. omega (arith, z))
header_opens bytes (Err n) g t k e l = version_stops bytes (number_of n) k

-- ---- the whole

module _ (lent : Kind → Sizes) where
  abbrev behind : Kind → Reader Figure
  behind kind = lying kind (lent kind)

  figure_is : (bytes : List ℕ) → figure lent bytes ≡ and_then (opening bytes) (λ (kind : Kind). lying kind (lent kind))
  unfolding figure opening lying
  figure_is bytes = version (byte bytes)
    where
      checked : (q : Read ℕ) → and_then q (λ (_ : ℕ). ◌>>=◌ kind_field behind) ≡ and_then (and_then q (λ (_ : ℕ). kind_field)) behind
      checked (read v b) = refl
      checked (stop n) = refl

      version : (p : Read ℕ) → and_then p (λ (v : ℕ). ◌>>=◌ (judged 1 (eqb v 1) v) (λ (_ : ℕ). ◌>>=◌ kind_field behind))
          ≡ and_then (and_then p (λ (v : ℕ). ◌>>=◌ (judged 1 (eqb v 1) v) (λ (_ : ℕ). kind_field))) behind
      version (read v b) = checked (judged 1 (eqb v 1) v b)
      version (stop n) = refl

  pub figure_stops : (bytes : List ℕ) (n : ℕ) → opening bytes ≡ stop n → figure lent bytes ≡ stop n
  figure_stops bytes n e = figure_is bytes ∙ rw e refl

  pub figure_finds : (bytes : List ℕ) (kind : Declared.Kind) (cells : Sizes) → opening bytes ≡ read (kind_of kind) (drop 2 bytes) → cells ≡ lent (kind_of kind)
      → (r : Result Found.Mesh Refusal) → Lies r kind cells bytes → Finds r lent bytes
  figure_finds bytes kind cells e q (Ok m) l =
      rw l.0
      (record {
        reads = figure_is bytes ∙ rw (e, ← q) l.1;
        lain = l.2;
        fits = rw q at l.3;
      })
  figure_finds bytes kind cells e q (Err n) l = figure_is bytes ∙ rw (e, ← q) l
