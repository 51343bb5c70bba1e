-- `division::elements::piece` meets its contract: a copy of the points at the places, word by word. Assumes nothing.
use Prim.Native.Nat.{ℕ, ◌+◌}
use lib.ListN.{get_or}
use Rattle.division.proofs.Rows.{Copying}
use Rattle.division.proofs.elements.piece.Given as goal

abbrev pub invariant-loop-i : goal.invariant-loop-i
invariant-loop-i l = Copying l.initial.new l.at (λ (j : ℕ). get_or l.points (get_or l.table (l.from + j) 0) 0) l.count l.i l.new
