-- `listing::listing` meets its contract: the lines of each list one after the other. Assumes nothing.
use mathlib.Core.Path.{refl, sym}
use mathlib.Core.List.{[]}
use Rattle.std.proofs.Common.{rules}
use Rattle.listing.proofs.Whole.{heading_room, listing_begun, printed_from}
use Rattle.listing.proofs.Texts.{going_room, going_on, going_done}
use Rattle.listing.proofs.listing.Goals as goal

pub heading-requires : goal.heading-requires
heading-requires c = heading_room (record { out = c.args.out; at = 0 }) c.requires refl

pub vertex_lines-requires-clause-room : goal.vertex_lines-requires-clause-room
vertex_lines-requires-clause-room c =
    let g1 = listing_begun c.heading.ensures c.requires refl _ _ c.area_corners-area.ensures c.volume_corners-volume.ensures [] in
    going_room g1

pub point_lines-requires-clause-room : goal.point_lines-requires-clause-room
point_lines-requires-clause-room c =
    let g1 = listing_begun c.heading.ensures c.requires refl _ _ c.area_corners-area.ensures c.volume_corners-volume.ensures [] in
    let g2 = going_on g1 c.vertex_lines.ensures in
    going_room g2

pub element_lines-requires-clause-room : goal.element_lines-requires-clause-room
element_lines-requires-clause-room c =
    let g1 = listing_begun c.heading.ensures c.requires refl _ _ c.area_corners-area.ensures c.volume_corners-volume.ensures [] in
    let g2 = going_on g1 c.vertex_lines.ensures in
    let g3 = going_on g2 c.point_lines.ensures in
    going_room g3

pub element_lines-requires-2-clause-room : goal.element_lines-requires-2-clause-room
element_lines-requires-2-clause-room c =
    let g1 = listing_begun c.heading.ensures c.requires refl _ _ c.area_corners-area.ensures c.volume_corners-volume.ensures [] in
    let g2 = going_on g1 c.vertex_lines.ensures in
    let g3 = going_on g2 c.point_lines.ensures in
    let g4 = going_on g3 c.element_lines.ensures in
    going_room g4

pub element_lines-requires-3-clause-room : goal.element_lines-requires-3-clause-room
element_lines-requires-3-clause-room c =
    let g1 = listing_begun c.heading.ensures c.requires refl _ _ c.area_corners-area.ensures c.volume_corners-volume.ensures [] in
    let g2 = going_on g1 c.vertex_lines.ensures in
    let g3 = going_on g2 c.point_lines.ensures in
    let g4 = going_on g3 c.element_lines.ensures in
    let g5 = going_on g4 c.element_lines-2.ensures in
    going_room g5

pub curve_lines-requires-clause-room : goal.curve_lines-requires-clause-room
curve_lines-requires-clause-room c =
    let g1 = listing_begun c.heading.ensures c.requires refl _ _ c.area_corners-area.ensures c.volume_corners-volume.ensures [] in
    let g2 = going_on g1 c.vertex_lines.ensures in
    let g3 = going_on g2 c.point_lines.ensures in
    let g4 = going_on g3 c.element_lines.ensures in
    let g5 = going_on g4 c.element_lines-2.ensures in
    let g6 = going_on g5 c.element_lines-3.ensures in
    going_room g6

pub returns : goal.returns
returns c =
    λ marks.
    let g1 = listing_begun c.heading.ensures c.requires refl _ _ c.area_corners-area.ensures c.volume_corners-volume.ensures marks in
    let g2 = going_on g1 c.vertex_lines.ensures in
    let g3 = going_on g2 c.point_lines.ensures in
    let g4 = going_on g3 c.element_lines.ensures in
    let g5 = going_on g4 c.element_lines-2.ensures in
    let g6 = going_on g5 c.element_lines-3.ensures in
    let g7 = going_on g6 c.curve_lines.ensures in
    let a = going_done g7 in
    printed_from a refl (search (rules, sym a.same))
