-- `numbers::root::root_bits` meets its contract: the digits and the weight that it hands on are those of the pattern (`RootOf.antt`). Assumes nothing.
use Rattle.std.proofs.Common.{sym, ap, ◌∙◌}
use lib.Ieee.{binary32, to_bits}
use Rattle.numbers.proofs.RootOf.{root_of_subnormal, root_of_normal}
use Rattle.numbers.proofs.root.root_bits.Goals as goal

pub returns-then-bits-lt-FIELD : goal.returns-then-bits-lt-FIELD
returns-then-bits-lt-FIELD c =
    let p = c.requires in
    (c.root_pattern.ensures.0 ∙ sym (ap (to_bits binary32) (root_of_subnormal _ p.0 c.if-bits-lt-FIELD.true)), c.root_pattern.ensures.1)

pub returns : goal.returns
returns c =
    let p = c.requires in
    (c.root_pattern-2.ensures.0 ∙ sym (ap (to_bits binary32) (root_of_normal _ c.if-bits-lt-FIELD.false p.1)), c.root_pattern-2.ensures.1)
