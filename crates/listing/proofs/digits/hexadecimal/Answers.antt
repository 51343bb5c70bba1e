-- `listing::digits::hexadecimal` meets its contract: eight digits, the highest first. Assumes nothing.
use mathlib.Core.Path.{refl}
use Prim.Native.Nat.{◌+◌}
use Rattle.division.proofs.Rows.{copying_start, copying_on}
use Rattle.listing.proofs.Numerals.{nibbles}
use Rattle.listing.proofs.Texts.{put_looped}
use Rattle.listing.proofs.digits.hexadecimal.Goals as goal

pub loop-i-init : goal.loop-i-init
loop-i-init c = copying_start _ c.requires

pub loop-i-preserved : goal.loop-i-preserved
loop-i-preserved c =
    rw c.glyph.ensures (copying_on (c.args.at + c.loop-i.i) c.loop-i.invariant c.loop-i-test.true refl)

pub returns : goal.returns
returns c = put_looped _ _ c.loop-i.invariant c.loop-i-test.false (nibbles _) refl
