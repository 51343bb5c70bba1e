-- `listing::refusal` meets its contract: the texts of the line one after the other. Assumes nothing.
use mathlib.Core.Path.{refl}
use native.Mathlib.Omega.{arith}
use Rattle.listing.proofs.Whole.{refusal_parts, printed_from}
use Rattle.listing.proofs.Texts.{going_start, going_begun, going_room, going_on, going_done}
use Rattle.listing.proofs.refusal.Goals as goal

pub say-requires : goal.say-requires
say-requires c = going_room (going_start (record { out = c.args.out; at = 0 }) (refusal_parts c.args.number c.args.passes) (omega (arith, c.requires)))

pub spaced-requires : goal.spaced-requires
spaced-requires c =
    let g1 = going_begun c.say.ensures (refusal_parts c.args.number c.args.passes) refl c.requires in
    going_room g1

pub say-requires-2 : goal.say-requires-2
say-requires-2 c =
    let g1 = going_begun c.say.ensures (refusal_parts c.args.number c.args.passes) refl c.requires in
    let g2 = going_on g1 c.spaced.ensures in
    going_room g2

pub spaced-requires-2 : goal.spaced-requires-2
spaced-requires-2 c =
    let g1 = going_begun c.say.ensures (refusal_parts c.args.number c.args.passes) refl c.requires in
    let g2 = going_on g1 c.spaced.ensures in
    let g3 = going_on g2 c.say-2.ensures in
    going_room g3

pub byte-requires : goal.byte-requires
byte-requires c =
    let g1 = going_begun c.say.ensures (refusal_parts c.args.number c.args.passes) refl c.requires in
    let g2 = going_on g1 c.spaced.ensures in
    let g3 = going_on g2 c.say-2.ensures in
    let g4 = going_on g3 c.spaced-2.ensures in
    going_room g4

pub returns : goal.returns
returns c =
    let g1 = going_begun c.say.ensures (refusal_parts c.args.number c.args.passes) refl c.requires in
    let g2 = going_on g1 c.spaced.ensures in
    let g3 = going_on g2 c.say-2.ensures in
    let g4 = going_on g3 c.spaced-2.ensures in
    let g5 = going_on g4 c.byte.ensures in
    let a = going_done g5 in
    printed_from a refl (grind (arith, a))
