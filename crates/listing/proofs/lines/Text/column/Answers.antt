-- `listing::lines::Text::column` meets its contract. The invariant: the words of the rows so far were added. Assumes nothing.
use mathlib.Core.Path.{sym, ap}
use Prim.Native.Nat.{ℕ}
use Rattle.listing.proofs.Texts.{lining_start, lining_room, lining_on}
use Rattle.listing.proofs.lines.Text.column.Goals as goal

pub loop-i-init : goal.loop-i-init
loop-i-init g c = lining_start _ _ _ c.requires.room

pub put-requires : goal.put-requires
put-requires g c = lining_room _ c.loop-i.invariant c.loop-i-test.true (ap (λ (v : ℕ). g.E.Entry.text v) (sym c.word.ensures))

pub loop-i-preserved : goal.loop-i-preserved
loop-i-preserved g c = lining_on _ c.loop-i.invariant c.loop-i-test.true (ap (λ (v : ℕ). g.E.Entry.text v) (sym c.word.ensures)) c.put.ensures
