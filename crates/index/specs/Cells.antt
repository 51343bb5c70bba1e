-- The index in memory. All rows come first: the row of entry e has its key's words, then two links, left and right, then the words that a user
-- keeps beside it. Behind all the rows each bucket has two words, [root, recent]: the first entry that the bucket was given, and the last. There
-- are as many buckets as cells, so a cell is a row and two words. The laws are over the layout; pairs are the keys of two words.
-- Says nothing of what the words of a row without an entry are, nor of the two words of a bucket without one, nor of the words beside.
-- Assumes nothing.
use Rattle.std.specs.Prelude.{List, [], ◌∷◌, ◌++◌, ℕ, zero, suc, ◌+◌, ◌*◌, ◌/◌, ◌%◌, ◌^◌, ◌≤◌, min, length, get_or}
use Rattle.std.specs.Int.Count.{count_leading_zeros}

-- the link that leads nowhere: the number of no entry
abbrev pub NONE : ℕ
NONE = 4294967295

-- how many words a key and a row have, and a number from a key, by which it has its bucket
pub record Layout : Type 0 where
  pub key : ℕ
  pub row : ℕ
  pub mix : List ℕ → ℕ

-- a row has the key and both links
pub record Sound (L : Layout) : Type 0 where
  pub links : L.key + 2 ≤ L.row

-- word k of a row
abbrev pub word_at : Layout → List ℕ → ℕ → ℕ → ℕ
word_at L words row k = get_or words (L.row * row + k) 0

-- lent cells
abbrev pub cells : Layout → List ℕ → ℕ
cells L words = length words / (L.row + 2)

-- n words of a row, from word k on
unfoldable pub words_from : Layout → List ℕ → ℕ → ℕ → ℕ → List ℕ
words_from L words row k zero = []
words_from L words row k (suc n) = word_at L words row k ∷ words_from L words row (suc k) n

-- the key of entry e
abbrev pub key_at : Layout → List ℕ → ℕ → List ℕ
key_at L words e = words_from L words e 0 L.key

-- the keys that the cells hold, in order of creation
unfoldable pub keys_of : Layout → List ℕ → ℕ → List (List ℕ)
keys_of L words zero = []
keys_of L words (suc made) = keys_of L words made ++ key_at L words made ∷ []

-- the bucket of a number among r, which go round in a circle of 2^32: a number goes as far round as makes a step of half a bucket or more, less than one
unfoldable pub circled : ℕ → ℕ → ℕ
circled r x = x * 2 ^ count_leading_zeros 32 r % 4294967296 * r / 4294967296

-- the bucket of a key among n (or among 2^32 - 1, if that is less)
unfoldable pub bucket_of : Layout → ℕ → List ℕ → ℕ
bucket_of L n q = circled (min n 4294967295) (L.mix q)

-- the bucket of entry e
abbrev pub bucket_at : Layout → List ℕ → ℕ → ℕ
bucket_at L words e = bucket_of L (cells L words) (key_at L words e)

-- ── pairs ──

-- a number of 32 bits from both words of a pair: small steps of either make small steps of it
unfoldable pub pair_mix : List ℕ → ℕ
pair_mix q = (get_or q 0 0 * 25 + get_or q 1 0 * 9) % 4294967296

-- keys of two words, and n words beside each
abbrev pub pairs_beside : ℕ → Layout
pairs_beside n = record { key = 2; row = 4 + n; mix = pair_mix }

-- keys of two words, and nothing beside
abbrev pub pairs : Layout
pairs = pairs_beside 0
