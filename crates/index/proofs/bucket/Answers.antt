-- `index::bucket` meets its contract: its code is the circle that the mix of a pair goes round. Assumes nothing.
use mathlib.Core.Path.{◌≡◌, ◌∙◌, ap}
use mathlib.Core.List.{[], ◌∷◌}
use Prim.Native.Nat.{ℕ, ◌*◌, ◌/◌, ◌%◌, ◌^◌}
use native.Mathlib.Nat.{mod-lt}
use native.Mathlib.Omega.{arith}
use lib.Count.{count_leading_zeros, leading_le}
use Rattle.index.specs.Cells.{pair_mix, circled, bucket_of, pairs}
use Rattle.index.proofs.Rows.{product_fits, bucket_below}
use Rattle.index.proofs.bucket.Goals as goal

-- the low word of a number is that of its low two words
low : (y : ℕ) → y % 18446744073709551616 % 4294967296 ≡ y % 4294967296
low y = omega arith

pub overflow_cast-turned-2 : goal.overflow_cast-turned-2
overflow_cast-turned-2 c = record { fits = omega (arith, leading_le 32 c.buckets-range.result) }

pub overflow_shl-turned : goal.overflow_shl-turned
overflow_shl-turned c = omega (arith, leading_le 32 c.buckets-range.result)

pub overflow_mul-result : goal.overflow_mul-result
overflow_mul-result c = record { fits = product_fits (mod-lt _ (omega arith)) (omega (arith, c.buckets-range.ensures)) }

pub returns : goal.returns
unfolding bucket_of circled pair_mix
returns c =
    let q = c.args.a ∷ c.args.b ∷ [] in
    let r = c.buckets-range.result in
    let code = ap (λ (turned : ℕ). turned * r / 4294967296) (low (pair_mix q * 2 ^ count_leading_zeros 32 r)) in
    record {
      is = code ∙ ap (λ (r : ℕ). circled r (pair_mix q)) c.buckets-range.ensures;
      below = rw (code, c.buckets-range.ensures) (bucket_below pairs c.args.cells q c.requires);
    }
