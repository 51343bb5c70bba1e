-- `listing::lines::Text::byte` meets its contract. Assumes nothing.
use mathlib.Core.Path.{refl}
use Rattle.listing.proofs.Texts.{put_byte}
use Rattle.listing.proofs.lines.Text.byte.Goals as goal

pub returns : goal.returns
returns c = record { same = refl; put = put_byte _ _ _ c.requires }
