-- `roots::row::word_of` is safe. The invariant: the number read so far has four bits for each digit. Assumes nothing.
use Rattle.std.proofs.Common.{◌*◌, ◌^◌, ◌<◌}
use Rattle.roots.proofs.row.word_of.Given as goal

abbrev pub invariant-loop-glyph : goal.invariant-loop-glyph
invariant-loop-glyph l = l.bits < 2 ^ (4 * l.glyph-index)
