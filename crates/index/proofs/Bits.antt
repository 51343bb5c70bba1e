-- A key of words of 32 bits is told by its bits. Assumes nothing.
use mathlib.Core.Path.{◌≡◌, refl, sym, ◌∙◌, ap}
use mathlib.Core.List.{List, [], ◌∷◌}
use Prim.Native.Nat.{ℕ, zero, suc, ◌+◌, ◌*◌, ◌/◌, ◌%◌, ◌^◌, ◌<◌, ◌≤◌}
use native.Mathlib.Omega.{arith}
use native.Mathlib.Nat.{two-pow-succ, mod-lt, mul_assoc, mul-le-mul_right}
use lib.ListN.{length}
use lib.Pow.{pow-add}
use Rattle.index.specs.Keys.{onward, number, halves, bit, bit_of, Agree}

pub bit_below : (q : List ℕ) (k : ℕ) → bit_of q k < 2
bit_below q k = mod-lt (halves (number q) k) (omega arith)

-- halving first, or last
halves_shift : (x k : ℕ) → halves (x / 2) k ≡ halves x (suc k)
unfolding halves
halves_shift x zero = refl
halves_shift x (suc k) = ap (λ (n : ℕ). n / 2) (halves_shift x k)

-- two numbers of k bits that agree in all of them are the same
same_bits : (k x y : ℕ) → x < 2 ^ k → y < 2 ^ k → ((j : ℕ) → j < k → bit x j ≡ bit y j) → x ≡ y
unfolding halves
same_bits zero x y l m a = omega arith
same_bits (suc k) x y l m a =
    let p = two-pow-succ k in
    let h : x / 2 ≡ y / 2 =
    same_bits k (x / 2) (y / 2) (omega arith) (omega arith)
    (λ j n. ap (λ (z : ℕ). z % 2) (halves_shift x j) ∙ a (suc j) (omega arith) ∙ ap (λ (z : ℕ). z % 2) (sym (halves_shift y j)))
    in
    let b : x % 2 ≡ y % 2 = a 0 (omega arith) in
    omega arith

-- every word has 32 bits
pub data Words : List ℕ → Type 0 where
  none : Words []
  more : {w : ℕ} {q : List ℕ} → w < 4294967296 → Words q → Words (w ∷ q)

-- a word has 32 bits
two_word : (n : ℕ) → 2 ^ (32 * suc n) ≡ 4294967296 * 2 ^ (32 * n)
two_word n = ap (λ (k : ℕ). 2 ^ k) (thirty_two n) ∙ pow-add 2 32 (32 * n)
  where
    thirty_two : (n : ℕ) → 32 * suc n ≡ 32 + 32 * n
    thirty_two n = omega arith

-- the words behind a number add 32 bits each
onward_below : (n : ℕ) {q : List ℕ} → Words q → onward n q < suc n * 2 ^ (32 * length q)
unfolding onward
onward_below n none = omega arith
onward_below n (more {w = w} {q = q} l v) =
    let h = onward_below (n * 4294967296 + w) v in
    let k : suc (n * 4294967296 + w) ≤ suc n * 4294967296 = omega arith in
    let m = mul-le-mul_right (2 ^ (32 * length q)) k in
    let p = mul_assoc (suc n) 4294967296 (2 ^ (32 * length q)) in
    let r = ap (λ (k : ℕ). suc n * k) (two_word (length q)) in
    omega arith

-- the same number of words makes different numbers of different keys
onward_same : (m n : ℕ) {p q : List ℕ} → Words p → Words q → length p ≡ length q → onward m p ≡ onward n q → (m ≡ n) × (p ≡ q)
unfolding onward
onward_same m n none none e s = (s, refl)
onward_same m n none (more l w) e s = absurd (omega arith)
onward_same m n (more l w) none e s = absurd (omega arith)
onward_same m n (more {w = a} l v) (more {w = b} k w) e s =
    let t = onward_same (m * 4294967296 + a) (n * 4294967296 + b) v w (omega arith) s in
    let f : m ≡ n = omega (arith, t.0) in
    let g : a ≡ b = omega (arith, t.0) in
    let h = t.1 in
    (f, cc)

-- two keys that agree in all their bits are the same
pub same_key : {p q : List ℕ} → Words p → Words q → length p ≡ length q → Agree (32 * length p) p q → p ≡ q
same_key {p} {q} v w e a =
    (onward_same 0 0 v w e (same_bits (32 * length p) (number p) (number q) (omega (arith, onward_below 0 v)) (omega (arith, onward_below 0 w, ap (λ (n : ℕ). 2 ^ (32 * n)) e)) a)).1
