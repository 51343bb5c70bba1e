-- A list with its count first: where it stops, alone and with what is read behind it.
-- Assumes nothing.
use mathlib.Core.Path.{◌≡◌, refl}
use mathlib.Core.List.{List}
use Prim.Native.Nat.{ℕ, ◌+◌, ◌*◌}
use lib.ListN.{length, drop}
use Rattle.std.specs.Prelude.{Result, Ok, Err}
use Rattle.geom.specs.declared.refusal.Refusal.{Refusal}
use Rattle.geom.specs.Answers.{number_of}
use Rattle.geom.specs.File.{Read, Reader, read, stop, and_then, ◌>>=◌, counted, several}
use Rattle.fields.specs.Fields.{Counted, Counts}
use Rattle.fields.specs.Listed.{listed, Lists, BehindCount, ListedBy}
use Rattle.fields.proofs.Several.{Judges, each_passes}

module _ {A : Type 0} (bytes : List ℕ) (at lent : ℕ) (row : Reader A) where
  pub count_stops : (k : ℕ) → counted lent (drop at bytes) ≡ stop k → listed lent row (drop at bytes) ≡ stop k
  unfolding listed
  count_stops k e = rw e refl

  pub rows_stop : (n k : ℕ) → Counted bytes at lent n → several n row (drop (at + 4) bytes) ≡ stop k → listed lent row (drop at bytes) ≡ stop k
  unfolding listed
  rows_stop n k c e = rw (c.reads.reads, e) refl

-- rows that are judged behind their count are a list
module _ {A : Type 0} (P : ℕ → Result Unit Refusal → Type 0) (bytes : List ℕ) (at lent wide : ℕ) (value : ℕ → A) (row : Reader A) (judges : Judges P bytes wide value row) where
  abbrev item : ℕ → A
  item i = value (at + 4 + wide * i)

  lists_by : (count r : Result ℕ Refusal) → Counts count bytes at lent → BehindCount P (length bytes) count r (at + 4) wide → Lists r bytes at lent wide item row
  lists_by (Err k) r c b = rw b (count_stops bytes at lent row (number_of k) c)
  lists_by (Ok n) (Ok v) c b =
      rw b.0
      (record {
        count = c;
        rows = each_passes P bytes (at + 4) wide value row judges (λ (i : ℕ). at + 4 + wide * i) (λ i. refl) (Ok tt) n c.reads.stands b.1;
      })
  lists_by (Ok n) (Err k) c b =
      rows_stop bytes at lent row n (number_of k) c
      (each_passes P bytes (at + 4) wide value row judges (λ (i : ℕ). at + 4 + wide * i) (λ i. refl) (Err k) n c.reads.stands b)

  pub lists : (r : Result ℕ Refusal) → ListedBy P bytes r at lent wide → Lists r bytes at lent wide item row
  lists r l = lists_by l.count r l.counts l.behind

-- what stops alone stops with what is read behind it
pub first_stops : {A B : Type 0} (k : ℕ) (p : Read ℕ) (then : ℕ → Reader A) (behind : ℕ → A → Reader B) → and_then p then ≡ stop k
    → and_then p (λ (n : ℕ). ◌>>=◌ (then n) (behind n)) ≡ stop k
first_stops k (read n rest) then behind e = rw e refl
first_stops k (stop m) then behind e = cc

pub list_stops : {A B : Type 0} (bytes : List ℕ) (lent k : ℕ) (row : Reader A) (behind : ℕ → List A → Reader B) → listed lent row bytes ≡ stop k
    → and_then (counted lent bytes) (λ (n : ℕ). ◌>>=◌ (several n row) (behind n)) ≡ stop k
unfolding listed
list_stops bytes lent k row behind e = first_stops k (counted lent bytes) (λ (n : ℕ). several n row) behind e
