-- What a number adds when it is put on some faces: it adds up, 0 adds nothing, and flat faces never count.
-- Assumes nothing.
use mathlib.Core.Path.{◌≡◌, refl, sym, ◌∙◌, ap, ap₂}
use mathlib.Core.Bool.{Bool, true, false, cond}
use mathlib.Core.List.{List, [], ◌∷◌, ◌++◌}
use Prim.Native.Nat.{ℕ}
use native.Mathlib.Omega.{arith}
use lib.IntN.{ℤ, pos, ◌+ℤ◌, +ℤ_idl, +ℤ_assoc}
use Rattle.geom.specs.declared.parity.Parity.{Parity}
use Rattle.geom.specs.Parity.{times}
use Rattle.geom.specs.Book.{Kind, Pair}
use Rattle.geom.specs.Elements.{Element, Row, pick, flat, unless, pieces}
use Rattle.geom.specs.Ledger.{same_list, signed, spread, faces, ledger}
use Rattle.geom.proofs.Lists.{same_list_lem}
use Rattle.geom.proofs.Integers.{regroup, signed_zero, signed_add, signed_times, signed_swap}

-- a number where the test passes, else 0
abbrev pub only : Bool → ℤ → ℤ
only b z = cond b z (pos 0)

only_add : (b : Bool) (p : Parity) (x y : ℤ) → only b (signed p (x +ℤ y)) ≡ only b (signed p x) +ℤ only b (signed p y)
only_add true p x y = signed_add p x y
only_add false p x y = refl

only_zero : (b : Bool) (p : Parity) → only b (signed p (pos 0)) ≡ pos 0
only_zero true p = signed_zero p
only_zero false p = refl

only_signed : (b : Bool) (p q : Parity) (z : ℤ) → only b (signed p (signed q z)) ≡ signed q (only b (signed p z))
only_signed true p q z = signed_swap p q z
only_signed false p q z = sym (signed_zero q)

pub spread_add : (x y : ℤ) (fs : List Element) (t : List ℕ) → spread (x +ℤ y) fs t ≡ spread x fs t +ℤ spread y fs t
unfolding spread
spread_add x y [] t = refl
spread_add x y (f ∷ fs) t =
    ap₂ (λ (a b : ℤ). a +ℤ b) (only_add (same_list f.corners t) f.parity x y) (spread_add x y fs t)
    ∙ regroup
    (only (same_list f.corners t) (signed f.parity x))
    (only (same_list f.corners t) (signed f.parity y))
    (spread x fs t)
    (spread y fs t)

pub spread_zero : (fs : List Element) (t : List ℕ) → spread (pos 0) fs t ≡ pos 0
unfolding spread
spread_zero [] t = refl
spread_zero (f ∷ fs) t =
    ap₂ (λ (a b : ℤ). a +ℤ b) (only_zero (same_list f.corners t) f.parity) (spread_zero fs t)

pub spread_signed : (q : Parity) (z : ℤ) (fs : List Element) (t : List ℕ) → spread (signed q z) fs t ≡ signed q (spread z fs t)
unfolding spread
spread_signed q z [] t = sym (signed_zero q)
spread_signed q z (f ∷ fs) t =
    ap₂ (λ (a b : ℤ). a +ℤ b) (only_signed (same_list f.corners t) f.parity q z) (spread_signed q z fs t)
    ∙ sym (signed_add q (only (same_list f.corners t) (signed f.parity z)) (spread z fs t))

pub ledger_append : (kind : Kind) (vs ws : List Element) (t : List ℕ) → ledger kind (vs ++ ws) t ≡ ledger kind vs t +ℤ ledger kind ws t
unfolding ledger
ledger_append kind [] ws t = sym (+ℤ_idl (ledger kind ws t))
ledger_append kind (v ∷ vs) ws t =
    ap (λ (x : ℤ). spread (pos 1) (faces kind v) t +ℤ x) (ledger_append kind vs ws t)
    ∙ sym (+ℤ_assoc (spread (pos 1) (faces kind v) t) (ledger kind vs t) (ledger kind ws t))

-- what z adds to t when it is put on the rows of a table over given points, nothing dropped
unfoldable pub raw : ℤ → List ℕ → List Row → List ℕ → ℤ
raw z points [] t = pos 0
raw z points (r ∷ rows) t = only (same_list (pick points r.places) t) (signed r.parity z) +ℤ raw z points rows t

-- one row: it is dropped where it is flat, and counts where it is t
keep_one :
    (bx bt s : Bool) (u v w : ℤ) → (s ≡ true → bx ≡ bt) → v ≡ cond bt (pos 0) w
    → cond bx v (only s u +ℤ v) ≡ cond bt (pos 0) (only s u +ℤ w)
keep_one true true true u v w h e = e
keep_one true true false u v w h e = e
keep_one true false true u v w h e = let c = h refl in let z : ◌≡◌ {A = ℕ} 0 1 = cc in absurd (omega arith)
keep_one true false false u v w h e = e ∙ sym (+ℤ_idl w)
keep_one false true true u v w h e = let c = h refl in let z : ◌≡◌ {A = ℕ} 0 1 = cc in absurd (omega arith)
keep_one false true false u v w h e = +ℤ_idl v ∙ e
keep_one false false true u v w h e = ap (λ (x : ℤ). u +ℤ x) e
keep_one false false false u v w h e = ap (λ (x : ℤ). pos 0 +ℤ x) e

spread_unless :
    (b : Bool) (z : ℤ) (e : Element) (es : List Element) (t : List ℕ)
    → spread z (unless b e es) t ≡ cond b (spread z es t) (only (same_list e.corners t) (signed e.parity z) +ℤ spread z es t)
unfolding spread
spread_unless true z e es t = refl
spread_unless false z e es t = refl

-- Dropping flat pieces leaves what a table adds to every list that is not flat, and nothing to one that is.
pub kept :
    (axes : List (List Pair)) (p : Parity) (z : ℤ) (points : List ℕ) (rows : List Row) (t : List ℕ)
    → spread z (pieces axes p points rows) t ≡ cond (flat axes t) (pos 0) (signed p (raw z points rows t))
unfolding pieces raw spread
kept axes p z points [] t = go (flat axes t)
  where
    go : (b : Bool) → spread z [] t ≡ cond b (pos 0) (signed p (pos 0))
    go true = refl
    go false = sym (signed_zero p)
kept axes p z points (r ∷ rows) t =
    let x = pick points r.places in
    let s = same_list x t in
    spread_unless (flat axes x) z (record { corners = x; parity = times r.parity p }) (pieces axes p points rows) t
    ∙ keep_one (flat axes x) (flat axes t) s (signed (times r.parity p) z) (spread z (pieces axes p points rows) t)
    (signed p (raw z points rows t)) (λ h. ap (flat axes) (same_list_lem x t h)) (kept axes p z points rows t)
    ∙ ap (λ (y : ℤ). cond (flat axes t) (pos 0) y)
    (ap (λ (y : ℤ). only s y +ℤ signed p (raw z points rows t)) (signed_times r.parity p z)
    ∙ ap (λ (y : ℤ). y +ℤ signed p (raw z points rows t)) (only_signed s r.parity p z)
    ∙ sym (signed_add p (only s (signed r.parity z)) (raw z points rows t)))
