-- `numbers::root::root_pattern` meets its contract: it works out `root_at`, whose pattern is known (`RootOf.antt`), and no step leaves its type (`Radicand.antt`).
-- Assumes nothing.
use Rattle.std.proofs.Common.{arith}
use Rattle.numbers.proofs.Radicand.{shifted, radicand_below}
use Rattle.numbers.proofs.RootOf.{pattern_is}
use Rattle.numbers.proofs.root.root_pattern.Goals as goal

pub rounded_root-rounded-requires : goal.rounded_root-rounded-requires
rounded_root-rounded-requires c = let p = c.requires in rw (shifted _ _ p.0 p.1 p.2) (radicand_below _ _ p.0 p.1 p.2)

pub returns : goal.returns
returns c =
    let p = c.requires in (
      rw (c.rounded_root-rounded.ensures.0, shifted _ _ p.0 p.1 p.2) (pattern_is _ _ p.0 p.1 p.2 p.3),
      omega (arith, c.rounded_root-rounded.ensures.1, p.3),
    )
