-- A key is a list of words of 32 bits. All of them make one number, the last word lowest, and the bits of that number are the key's bits.
-- Says nothing of how many words a key has, nor of where it stands.
-- Assumes nothing.
use Rattle.std.specs.Prelude.{◌≡◌, List, [], ◌∷◌, ℕ, zero, suc, ◌+◌, ◌*◌, ◌/◌, ◌%◌, ◌<◌}

-- the number n, with the words of a key behind it
unfoldable pub onward : ℕ → List ℕ → ℕ
onward n [] = n
onward n (w ∷ key) = onward (n * 4294967296 + w) key

-- the words of a key as one number
abbrev pub number : List ℕ → ℕ
number = onward 0

-- a number without its k lowest bits
unfoldable pub halves : ℕ → ℕ → ℕ
halves x zero = x
halves x (suc k) = halves x k / 2

-- bit k of a number
abbrev pub bit : ℕ → ℕ → ℕ
bit x k = halves x k % 2

-- bit k of a key
abbrev pub bit_of : List ℕ → ℕ → ℕ
bit_of key k = bit (number key) k

-- two keys have the same k lowest bits
abbrev pub Agree : ℕ → List ℕ → List ℕ → Type 0
Agree k p q = (j : ℕ) → j < k → bit_of p j ≡ bit_of q j
