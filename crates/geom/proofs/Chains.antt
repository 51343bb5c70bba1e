-- Sums of signed rows over points that are not known: two tables of rows add the same to every list where their difference cancels,
-- which is computed. Rows are numbers of places, so this is one computation for all meshes.
-- Assumes nothing.
use mathlib.Core.Path.{◌≡◌, refl, sym, ◌∙◌, ap, ap₂}
use mathlib.Core.Bool.{Bool, true, false, cond, ◌&&◌}
use mathlib.Core.List.{List, [], ◌∷◌, ◌++◌, map}
use Prim.Native.Nat.{ℕ, zero, suc, ◌<◌}
use native.Mathlib.Omega.{arith}
use lib.Dec.{ltb}
use lib.IntN.{ℤ, pos, ◌+ℤ◌, neg_ℤ, +ℤ_idl, +ℤ_assoc, +ℤ_invr, +ℤ_invl, neg_ℤ-+ℤ}
use lib.ListN.{length}
use Rattle.geom.specs.declared.parity.Parity.{Parity}
use Rattle.geom.specs.declared.parity.Parity.TheVariants.{Even, Odd}
use Rattle.geom.specs.Parity.{flipped, times}
use Rattle.geom.specs.Elements.{Row, pick, point_at}
use Rattle.geom.specs.Ledger.{same_list, signed}
use Rattle.geom.proofs.Lists.{below_number, and_true_left, and_true_right, same_list_lem}
use Rattle.geom.proofs.Integers.{front, equal_of_difference, signed_zero, signed_add, signed_times, signed_flipped}
use Rattle.geom.proofs.Spread.{only, raw}

-- what one row adds
abbrev adds : ℤ → List ℕ → List ℕ → Row → ℤ
adds z points t r = only (same_list (pick points r.places) t) (signed r.parity z)

raw_append : (z : ℤ) (points : List ℕ) (xs ys : List Row) (t : List ℕ) → raw z points (xs ++ ys) t ≡ raw z points xs t +ℤ raw z points ys t
unfolding raw
raw_append z points [] ys t = sym (+ℤ_idl (raw z points ys t))
raw_append z points (x ∷ xs) ys t =
    ap (λ (a : ℤ). adds z points t x +ℤ a) (raw_append z points xs ys t)
    ∙ sym (+ℤ_assoc (adds z points t x) (raw z points xs t) (raw z points ys t))

-- ── a table over the places of another ──

-- a row of places among the places of r
abbrev seat : Row → Row → Row
seat r q = record { places = pick r.places q.places; parity = times r.parity q.parity }

-- each row of the inner table, over each row of the outer one
unfoldable pub under : List Row → List Row → List Row
under [] inner = []
under (r ∷ rs) inner = map (seat r) inner ++ under rs inner

-- the inner table's sums over the points of each outer row, with that row's sign
unfoldable pub over : ℤ → List ℕ → List Row → List Row → List ℕ → ℤ
over z points [] inner t = pos 0
over z points (r ∷ rs) inner t = signed r.parity (raw z (pick points r.places) inner t) +ℤ over z points rs inner t

-- each number is below n
unfoldable pub within : ℕ → List ℕ → Bool
within n [] = true
within n (i ∷ is) = ltb i n && within n is

unfoldable pub rows_within : ℕ → List Row → Bool
rows_within n [] = true
rows_within n (r ∷ rs) = within n r.places && rows_within n rs

-- each outer row has the places of every inner row
unfoldable pub seats : List Row → List Row → Bool
seats [] inner = true
seats (r ∷ rs) inner = rows_within (length r.places) inner && seats rs inner

pub at_map : (points : List ℕ) (xs : List ℕ) (i : ℕ) → i < length xs → point_at (map (point_at points) xs) i ≡ point_at points (point_at xs i)
at_map points [] i l = absurd (omega arith)
at_map points (x ∷ xs) zero l = refl
at_map points (x ∷ xs) (suc i) l = at_map points xs i (omega arith)

pick_pick : (points xs is : List ℕ) → within (length xs) is ≡ true → pick (pick points xs) is ≡ pick points (pick xs is)
unfolding pick within
pick_pick points xs [] e = refl
pick_pick points xs (i ∷ is) e =
    let l : i < length xs = below_number i (length xs) (and_true_left (ltb i (length xs)) (within (length xs) is) e) in
    ap₂ (λ (a : ℕ) (b : List ℕ). a ∷ b) (at_map points xs i l)
    (pick_pick points xs is (and_true_right (ltb i (length xs)) (within (length xs) is) e))

only_times : (b : Bool) (p q : Parity) (z : ℤ) → only b (signed (times p q) z) ≡ signed p (only b (signed q z))
only_times true p q z = signed_times p q z
only_times false p q z = sym (signed_zero p)

raw_seat :
    (z : ℤ) (points : List ℕ) (r : Row) (inner : List Row) (t : List ℕ) → rows_within (length r.places) inner ≡ true
    → raw z points (map (seat r) inner) t ≡ signed r.parity (raw z (pick points r.places) inner t)
unfolding raw rows_within
raw_seat z points r [] t e = sym (signed_zero r.parity)
raw_seat z points r (q ∷ inner) t e =
    let w = within (length r.places) q.places in
    let v = rows_within (length r.places) inner in
    let c = pick (pick points r.places) q.places in
    ap₂ (λ (a b : ℤ). a +ℤ b)
    (ap (λ (l : List ℕ). only (same_list l t) (signed (times r.parity q.parity) z)) (sym (pick_pick points r.places q.places (and_true_left w v e)))
    ∙ only_times (same_list c t) r.parity q.parity z)
    (raw_seat z points r inner t (and_true_right w v e))
    ∙ sym (signed_add r.parity (only (same_list c t) (signed q.parity z)) (raw z (pick points r.places) inner t))

pub raw_under :
    (z : ℤ) (points : List ℕ) (outer inner : List Row) (t : List ℕ) → seats outer inner ≡ true
    → raw z points (under outer inner) t ≡ over z points outer inner t
unfolding raw under over seats
raw_under z points [] inner t e = refl
raw_under z points (r ∷ rs) inner t e =
    let a = rows_within (length r.places) inner in
    raw_append z points (map (seat r) inner) (under rs inner) t
    ∙ ap₂ (λ (x y : ℤ). x +ℤ y) (raw_seat z points r inner t (and_true_left a (seats rs inner) e))
    (raw_under z points rs inner t (and_true_right a (seats rs inner) e))

-- ── cancelling ──

abbrev is_odd : Parity → Bool
is_odd Even = false
is_odd Odd = true

-- the same places with the other parity
abbrev opposite : Row → Row → Bool
opposite r q = same_list r.places q.places && is_odd (times r.parity q.parity)

-- r struck out against its opposite, or else put at the end
unfoldable pub strike : Row → List Row → List Row
strike r [] = r ∷ []
strike r (q ∷ qs) = cond (opposite r q) qs (q ∷ strike r qs)

unfoldable pub cancel : List Row → List Row
cancel [] = []
cancel (r ∷ rs) = strike r (cancel rs)

unfoldable pub negated : List Row → List Row
negated [] = []
negated (r ∷ rs) = record { places = r.places; parity = flipped r.parity } ∷ negated rs

only_odd : (b : Bool) (p q : Parity) (z : ℤ) → is_odd (times p q) ≡ true → only b (signed p z) +ℤ only b (signed q z) ≡ pos 0
only_odd true Even Even z e = let c : ◌≡◌ {A = ℕ} 0 1 = cc in absurd (omega arith)
only_odd true Even Odd z e = +ℤ_invr z
only_odd true Odd Even z e = +ℤ_invl z
only_odd true Odd Odd z e = let c : ◌≡◌ {A = ℕ} 0 1 = cc in absurd (omega arith)
only_odd false p q z e = refl

strike_raw :
    (z : ℤ) (points : List ℕ) (r : Row) (qs : List Row) (t : List ℕ) → raw z points (strike r qs) t ≡ adds z points t r +ℤ raw z points qs t
unfolding raw strike
strike_raw z points r [] t = refl
strike_raw z points r (q ∷ qs) t = go (opposite r q) refl (strike_raw z points r qs t)
  where
    go :
        (b : Bool) → opposite r q ≡ b → raw z points (strike r qs) t ≡ adds z points t r +ℤ raw z points qs t
        → raw z points (cond b qs (q ∷ strike r qs)) t ≡ adds z points t r +ℤ (adds z points t q +ℤ raw z points qs t)
    go true e ih =
        let same = same_list_lem r.places q.places (and_true_left (same_list r.places q.places) (is_odd (times r.parity q.parity)) e) in
        let odd = and_true_right (same_list r.places q.places) (is_odd (times r.parity q.parity)) e in
        sym (+ℤ_idl (raw z points qs t))
        ∙ ap (λ (x : ℤ). x +ℤ raw z points qs t)
        (sym (only_odd (same_list (pick points r.places) t) r.parity q.parity z odd)
        ∙ ap (λ (l : List ℕ). adds z points t r +ℤ only (same_list (pick points l) t) (signed q.parity z)) same)
        ∙ +ℤ_assoc (adds z points t r) (adds z points t q) (raw z points qs t)
    go false e ih =
        ap (λ (x : ℤ). adds z points t q +ℤ x) ih ∙ front (adds z points t q) (adds z points t r) (raw z points qs t)

cancel_raw : (z : ℤ) (points : List ℕ) (rs : List Row) (t : List ℕ) → raw z points (cancel rs) t ≡ raw z points rs t
unfolding raw cancel
cancel_raw z points [] t = refl
cancel_raw z points (r ∷ rs) t =
    strike_raw z points r (cancel rs) t ∙ ap (λ (x : ℤ). adds z points t r +ℤ x) (cancel_raw z points rs t)

only_flipped : (b : Bool) (p : Parity) (z : ℤ) → only b (signed (flipped p) z) ≡ neg_ℤ (only b (signed p z))
only_flipped true p z = signed_flipped p z
only_flipped false p z = refl

negated_raw : (z : ℤ) (points : List ℕ) (rs : List Row) (t : List ℕ) → raw z points (negated rs) t ≡ neg_ℤ (raw z points rs t)
unfolding raw negated
negated_raw z points [] t = refl
negated_raw z points (r ∷ rs) t =
    ap₂ (λ (x y : ℤ). x +ℤ y) (only_flipped (same_list (pick points r.places) t) r.parity z) (negated_raw z points rs t)
    ∙ sym (neg_ℤ-+ℤ (adds z points t r) (raw z points rs t))

-- Two tables whose difference cancels add the same to every list, whatever the points.
pub same_sum : (xs ys : List Row) → cancel (xs ++ negated ys) ≡ [] → (z : ℤ) (points t : List ℕ) → raw z points xs t ≡ raw z points ys t
unfolding raw
same_sum xs ys e z points t =
    equal_of_difference (raw z points xs t) (raw z points ys t)
    (ap (λ (x : ℤ). raw z points xs t +ℤ x) (sym (negated_raw z points ys t))
    ∙ sym (raw_append z points xs (negated ys) t)
    ∙ sym (cancel_raw z points (xs ++ negated ys) t)
    ∙ nothing (cancel (xs ++ negated ys)) e)
  where
    nothing : (rs : List Row) → rs ≡ [] → raw z points rs t ≡ pos 0
    nothing rs h = ap (λ (l : List Row). raw z points l t) h
