-- `listing::lines::Text::column` meets its contract. The invariant: the words of the rows so far were added. Assumes nothing.
use Prim.Native.Nat.{ℕ}
use Rattle.judge.specs.Words.{word_at}
use Rattle.listing.proofs.Texts.{Lining}
use Rattle.listing.proofs.lines.Text.column.Given as goal

abbrev pub invariant-loop-i : goal.invariant-loop-i
invariant-loop-i g l = Lining (λ (i : ℕ). g.E.Entry.text (word_at l.words l.width l.column i)) l.rows l.initial.self l.i l.self
