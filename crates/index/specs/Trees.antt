-- The trees of the buckets: a key goes left or right by its bits, the lowest first, one bit a level. So two keys part within all their bits, and
-- no way is longer than a key has bits.
-- Says nothing of the order in which the entries of a tree were made: a link may lead to an entry that was made before the one above it.
-- Assumes nothing.
use Rattle.std.specs.Prelude.{◌≡◌, List, ◌≢◌, ℕ, zero, suc, ◌+◌, ◌*◌, ◌<◌, ◌≤◌, get_or}
use Rattle.index.specs.Keys.{bit_of, Agree}
use Rattle.index.specs.Cells.{NONE, Layout, word_at, cells, key_at, bucket_of, bucket_at}

-- where the link of a bucket's root stands
abbrev pub root_place : Layout → List ℕ → ℕ → ℕ
root_place L words h = L.row * cells L words + 2 * h

-- where the link to level k stands on the way of the key q
unfoldable pub place : Layout → List ℕ → List ℕ → ℕ → ℕ
place L words q zero = root_place L words (bucket_of L (cells L words) q)
place L words q (suc k) = L.row * get_or words (place L words q k) 0 + (L.key + bit_of q k)

-- the entry at level k on the way of the key q
abbrev pub walk : Layout → List ℕ → List ℕ → ℕ → ℕ
walk L words q k = get_or words (place L words q k) 0

-- the way of q leads to e at level k, by entries that are made, the first of them in q's bucket
pub record Leads (L : Layout) (words : List ℕ) (made : ℕ) (q : List ℕ) (k e : ℕ) : Type 0 where
  pub ends : walk L words q k ≡ e
  pub within : (j : ℕ) → j ≤ k → walk L words q j < made
  pub home : bucket_at L words (walk L words q 0) ≡ bucket_of L (cells L words) q

-- c hangs below p on a side: it is one level deeper, and its key goes that way
pub record Below (L : Layout) (words : List ℕ) (made : ℕ) (depth : ℕ → ℕ) (p side c : ℕ) : Type 0 where
  pub within : c < made
  pub deeper : depth c ≡ suc (depth p)
  pub agrees : Agree (depth p) (key_at L words c) (key_at L words p)
  pub turned : bit_of (key_at L words c) (depth p) ≡ side

-- the cells hold an index of `made` entries; with none, any words do
pub record Linked (L : Layout) (words : List ℕ) (made : ℕ) : Type 0 where
  pub depth : ℕ → ℕ
  pub room : made ≤ cells L words
  pub few : made ≤ NONE
  pub own : (e : ℕ) → e < made → Leads L words made (key_at L words e) (depth e) e
  pub under :
      (e side : ℕ) → e < made → side < 2 → word_at L words e (L.key + side) ≢ NONE
      → Below L words made depth e side (word_at L words e (L.key + side))
  pub top :
      (h : ℕ) → get_or words (root_place L words h) 0 < made → bucket_at L words (get_or words (root_place L words h) 0) ≡ h
      → depth (get_or words (root_place L words h) 0) ≡ 0
  pub distinct : (d e : ℕ) → d < e → e < made → key_at L words d ≡ key_at L words e → ⊥

-- the way of q has come to e at level k
pub record Reached (L : Layout) (words : List ℕ) (made : ℕ) (q : List ℕ) (k e : ℕ) : Type 0 where
  pub linked : Linked L words made
  pub below : e < made
  pub level : linked.depth e ≡ k
  pub leads : Leads L words made q k e
  pub agrees : Agree k (key_at L words e) q

-- where the way of q ends: at the root of a bucket that has no entry, or below an entry that has none on that side
pub data Open (L : Layout) (words : List ℕ) (made : ℕ) (q : List ℕ) : ℕ → Type 0 where
  bare : {at : ℕ} → Linked L words made → (walk L words q 0 < made → bucket_at L words (walk L words q 0) ≡ bucket_of L (cells L words) q → ⊥)
      → at ≡ place L words q 0 → Open L words made q at
  under : {at k p : ℕ} → Reached L words made q k p → walk L words q (suc k) ≡ NONE → at ≡ place L words q (suc k) → Open L words made q at
