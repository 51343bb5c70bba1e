-- Rows, buckets and keys on the cells, over the layout: rows lie apart and in front of all buckets, and a bucket is one of the cells.
-- Assumes nothing.
use mathlib.Core.Path.{◌≡◌, refl, ap}
use mathlib.Core.Logic.{⊎_elim, by_cases}
use mathlib.Core.List.{List}
use Prim.Native.Nat.{ℕ, zero, suc, ◌+◌, ◌*◌, ◌%◌, ◌^◌, ◌<◌, ◌≤◌, min}
use native.Mathlib.Omega.{arith}
use native.Mathlib.Nat.{mul_comm, mul-suc, add-mul, mul-div-le, mul-le-mul_left, eq-or-lt_of_le}
use native.Mathlib.Decide.{dec_le}
use lib.Count.{count_leading_zeros}
use lib.ListN.{length}
use Rattle.index.specs.Cells.{Layout, Sound, word_at, cells, words_from, circled, bucket_of, pairs_beside}

-- ── places ──

-- a row ends before a later one begins
pub row_before : (L : Layout) {e n : ℕ} → e < n → L.row * e + L.row ≤ L.row * n
row_before L {e} {n} l =
    let m : suc e ≤ n = omega arith in
    omega (arith, mul-le-mul_left L.row m, mul-suc L.row e)

-- all rows, and the two words of each bucket behind them, are lent
pub lent_all : (L : Layout) (words : List ℕ) → L.row * cells L words + 2 * cells L words ≤ length words
lent_all L words = omega (arith, mul-div-le (length words) (L.row + 2), add-mul L.row 2 (cells L words))

-- a place tells its row and the word in it
pub same_row : (L : Layout) (p d : ℕ) {i j : ℕ} → i < L.row → j < L.row → L.row * p + i ≡ L.row * d + j → (p ≡ d) × (i ≡ j)
same_row L p d {i} {j} l m e =
    by_cases (dec_le p d)
    (λ s. ⊎_elim here (λ (t : p < d). absurd (omega (arith, row_before L t))) (eq-or-lt_of_le s))
    (λ s. absurd (omega (arith, row_before L (later s))))
  where
    later : (p ≤ d → ⊥) → d < p
    later s = omega arith

    here : p ≡ d → (p ≡ d) × (i ≡ j)
    here s = (s, omega (arith, ap (λ (n : ℕ). L.row * n) s))

-- ── keys ──

pub length_words : (L : Layout) (words : List ℕ) (e k n : ℕ) → length (words_from L words e k n) ≡ n
unfolding words_from
length_words L words e k zero = refl
length_words L words e k (suc n) = ap suc (length_words L words e (suc k) n)

-- the same words make the same key
pub words_same :
    (L : Layout) (after words : List ℕ) (e k n : ℕ) → ((i : ℕ) → i < k + n → word_at L after e i ≡ word_at L words e i)
    → words_from L after e k n ≡ words_from L words e k n
unfolding words_from
words_same L after words e k zero s = refl
words_same L after words e k (suc n) s =
    let h = s k (omega arith) in
    let t = words_same L after words e (suc k) n (λ i l. s i (omega arith)) in
    cc

-- ── buckets ──

-- two factors of which one is below 2^32, and the other not above, have a product of 64 bits
pub product_fits : {m r : ℕ} → m < 4294967296 → r ≤ 4294967296 → m * r < 18446744073709551616
product_fits {m} {r} l k =
    let below : m ≤ 4294967295 = omega arith in
    let p = mul-le-mul_left r below in
    omega (arith, p, mul_comm m r)

-- one of r buckets
circled_below : (r x : ℕ) → 0 < r → circled r x < r
unfolding circled
circled_below r x l =
    let turned = x * 2 ^ count_leading_zeros 32 r % 4294967296 in
    let below : turned ≤ 4294967295 = omega arith in
    let p = mul-le-mul_left r below in
    omega (arith, p, mul_comm turned r)

-- a bucket is one of the cells
pub bucket_below : (L : Layout) (n : ℕ) (q : List ℕ) → 0 < n → bucket_of L n q < n
unfolding bucket_of
bucket_below L n q l =
    let below = circled_below (min n 4294967295) (L.mix q) (omega arith) in
    omega (arith, below)

-- pairs, with any number of words beside them
pub sound_pairs : (n : ℕ) → Sound (pairs_beside n)
sound_pairs n = record { links = omega arith }
