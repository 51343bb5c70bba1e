-- What it means that one binary32 number is the square root of another, rounded to nearest, in whole numbers. Both numbers lie above 0 and below the infinity,
-- and the root is normal. Definitions only.
use Rattle.std.specs.Prelude.{ℕ, ◌+◌, ◌-◌, ◌*◌, ◌/◌, ◌%◌, ◌^◌, ◌<◌, ◌≤◌, Bool, cond, ◌&&◌, ◌==◌, nat_lt}

-- The number with the pattern p is digits p * 2 ^ weight p / 2 ^ 150. A subnormal one has no leading digit, and its field counts as a field of 1.
unfoldable pub digits : ℕ → ℕ
digits p = cond (nat_lt p (2 ^ 23)) p (2 ^ 23 + p % 2 ^ 23)

unfoldable pub weight : ℕ → ℕ
weight p = cond (nat_lt p (2 ^ 23)) 1 (p / 2 ^ 23)

-- The midpoints between a number with the digits d and its neighbours, in quarters of the last digit. Below a power of two the neighbour is half as far.
unfoldable pub lower : ℕ → ℕ
lower d = cond (d == 2 ^ 23) (4 * d - 1) (4 * d - 2)

unfoldable pub upper : ℕ → ℕ
upper d = 4 * d + 2

-- strictly between
unfoldable pub between : ℕ → ℕ → ℕ → Bool
between low x high = nat_lt low x && nat_lt x high

unfoldable pub shifted : ℕ → ℕ → ℕ
shifted x n = x * 2 ^ n

-- The patterns of an argument and of its root.
pub record Patterns (x r : ℕ) : Type 0 where
  pub above : 0 < x
  pub finite : x < 0x7F80_0000
  pub normal : 2 ^ 23 ≤ r
  pub root_finite : r < 0x7F80_0000

-- Whether the exact root of x's number lies strictly between the midpoints around r's number. All three are squared, and multiplied by 16 * 4 ^ 150.
unfoldable pub nearest : ℕ → ℕ → Bool
nearest x r =
    let low = lower (digits r) in
    let high = upper (digits r) in
    let twice = 2 * weight r in
    between (shifted (low * low) twice) (shifted (16 * digits x) (weight x + 150)) (shifted (high * high) twice)
