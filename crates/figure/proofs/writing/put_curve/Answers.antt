-- `figure::writing::put_curve` meets its contract. Assumes nothing.
use Rattle.figure.proofs.Strings.{curve_wound}
use Rattle.figure.proofs.writing.put_curve.Goals as goal

pub returns : goal.returns
returns c = curve_wound _ _ _ _ _ _ _ _ _ c.big_endian-tag.ensures c.big_endian-count.ensures c.put_steps.ensures
