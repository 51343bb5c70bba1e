-- The square root of a binary32 number, which is the IEEE 754 result: the exact root, rounded once to nearest, ties to even.
-- There are no real numbers here, so the exact root is held against whole numbers by squares. `root_is_nearest` (proofs/Nearest.antt) shows of `root`, which
-- computes, that it gives the binary32 value nearest to the exact root: every other one is `Farther`. Definitions only.
use Rattle.std.specs.Prelude.{ℕ, zero, suc, ◌+◌, ◌-◌, ◌*◌, ◌/◌, ◌^◌, ◌<◌, true, false, cond, ◌⊎◌, nat_le}
use Prim.Native.Nat.{compare}
use lib.Ieee.{Float, nan, inf, fin, Format, binary32, prec, low, up, down, size, nearest, units}

-- The whole part of the square root of an n below 4 ^ k. Its digits in base 2 are found from the highest to the lowest: twice the root of n / 4, or one more
-- where the square of that is still at most n.
unfoldable pub root_digits : ℕ → ℕ → ℕ
root_digits zero n = 0
root_digits (suc k) n = let q = 2 * root_digits k (n / 4) in q + cond (nat_le ((q + 1) * (q + 1)) n) 1 0

-- The whole part of the square root of n, which has at most as many digits as n.
unfoldable pub whole_root : ℕ → ℕ
whole_root n = root_digits (size n) n

-- The square root of n / den, which is in units of the smallest value of the format f, to the nearest multiple of 2 ^ k units: in those the whole part is q, and
-- it is q or one more by how the exact root compares with q + 1/2, both doubled and squared; at a tie the even one.
unfoldable pub root_to : Format → ℕ → ℕ → ℕ → Float
root_to f n den k =
    let u = den * 4 ^ k in
    let q = whole_root (n / u) in
    units f false (nearest q (compare (4 * n) ((2 * q + 1) * (2 * q + 1) * u))) k

-- The value of the format f that is nearest to the square root of num / den, for a den above 0. It goes as `lib.Ieee.round` does: in units of f's smallest value
-- the exact root is that of n / den; of its whole part the format keeps the `prec` leading digits and drops the rest.
unfoldable pub rounded_root : Format → ℕ → ℕ → Float
rounded_root f num den = let n = num * 4 ^ low f in root_to f n den (size (whole_root (n / den)) - prec f)

-- A zero is its own root and keeps its sign; below zero there is none.
unfoldable pub root : Float → Float
root nan = nan
root (inf false) = inf false
root (inf true) = nan
root (fin s zero e) = fin s zero e
root (fin false (suc m) e) = rounded_root binary32 (suc m * up e) (down e)
root (fin true (suc m) e) = nan

-- ---- which of two values lies nearer to an exact root

-- the size of a finite value, in units of binary32's smallest value, 2 ^ -149, and in units of that value's square: whole numbers, for every binary32 value
unfoldable pub in_units : Float → ℕ
in_units nan = 0
in_units (inf s) = 0
in_units (fin s m e) = m * up e * 2 ^ 149 / down e

unfoldable pub in_squares : Float → ℕ
in_squares nan = 0
in_squares (inf s) = 0
in_squares (fin s m e) = m * up e * 4 ^ 149 / down e

-- y lies farther from the square root of n than r does: the root lies on r's side of the middle between r and y. Doubled, the middle is r + y and the root is
-- that of 4 * n, and squares keep the order.
abbrev pub Farther : ℕ → ℕ → ℕ → Type 0
Farther n r y = ((r < y) × (4 * n < (r + y) * (r + y))) ⊎ ((y < r) × ((r + y) * (r + y) < 4 * n))
