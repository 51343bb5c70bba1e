-- `listing::lines::Text::say` meets its contract: the bytes that it copies stand at the place. Assumes nothing.
use mathlib.Core.Path.{refl}
use Rattle.listing.proofs.Texts.{put_copied}
use Rattle.listing.proofs.lines.Text.say.Goals as goal

pub returns : goal.returns
returns c = record { same = refl; put = put_copied _ _ _ c.copy_from_slice.ensures.after }
