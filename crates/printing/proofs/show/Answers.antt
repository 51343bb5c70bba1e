-- `printing::show` meets its contract: the parts that are handed on have the rows of the bench that is listed. Assumes nothing.
use Rattle.geom.specs.Kinds.{kind_of}
use Rattle.geom.specs.Lent.{words_of}
use Rattle.geom.specs.Sheet.{SHEET_CELLS}
use Rattle.geom.proofs.Within.{within_facts}
use Rattle.judge.proofs.Verdicts.{area_few, volume_few}
use Rattle.printing.proofs.Picking.{few_words, picked, listed_handed, stated_handed}
use Rattle.printing.proofs.Texts.{printed_as}
use native.Mathlib.Omega.{arith}
use Rattle.printing.proofs.show.Goals as goal

pub overflow_mul-sizes : goal.overflow_mul-sizes
overflow_mul-sizes c =
    let w = within_facts c.args.sizes SHEET_CELLS c.requires.sizes_value in
    omega (arith, w.vertices)

pub overflow_mul-sizes-2 : goal.overflow_mul-sizes-2
overflow_mul-sizes-2 c =
    let w = within_facts c.args.sizes SHEET_CELLS c.requires.sizes_value in
    omega (arith, w.vertices)

pub overflow_mul-sizes-3 : goal.overflow_mul-sizes-3
overflow_mul-sizes-3 c =
    let w = within_facts c.args.sizes SHEET_CELLS c.requires.sizes_value in
    omega (arith, w.lines)

pub overflow_mul-area : goal.overflow_mul-area
overflow_mul-area c =
    let w = within_facts c.args.sizes SHEET_CELLS c.requires.sizes_value in
    omega (arith, few_words _ _ (area_few (kind_of c.args.kind) _ c.area_corners-area.ensures) w.areas)

pub overflow_mul-volume : goal.overflow_mul-volume
overflow_mul-volume c =
    let w = within_facts c.args.sizes SHEET_CELLS c.requires.sizes_value in
    omega (arith, few_words _ _ (volume_few (kind_of c.args.kind) _ c.volume_corners-volume.ensures) w.volumes)

pub overflow_mul-sizes-4 : goal.overflow_mul-sizes-4
overflow_mul-sizes-4 c =
    let w = within_facts c.args.sizes SHEET_CELLS c.requires.sizes_value in
    omega (arith, w.curves)

pub overflow_mul-sizes-5 : goal.overflow_mul-sizes-5
overflow_mul-sizes-5 c =
    let w = within_facts c.args.sizes SHEET_CELLS c.requires.sizes_value in
    omega (arith, w.curve_vertices)

pub listing-requires : goal.listing-requires
listing-requires c =
    stated_handed c.requires.stated
    (picked c.args.passes (kind_of c.args.kind) c.args.sizes (words_of c.args.first.now) (words_of c.args.second.now) _ c.area_corners-area.ensures c.volume_corners-volume.ensures
    c.left.ensures c.left-3.ensures c.left-4.ensures c.left-5.ensures c.left-6.ensures c.left-7.ensures c.left-8.ensures)

pub returns : goal.returns
returns c =
    λ marks. printed_as (listed_handed c.requires.stated
    (picked c.args.passes (kind_of c.args.kind) c.args.sizes (words_of c.args.first.now) (words_of c.args.second.now) (words_of (record { positions = c.left.result; marks = c.left-2.result; points = c.left-3.result; lines = c.left-4.result; areas = c.left-5.result; volumes = c.left-6.result; curves = c.left-7.result; steps = c.left-8.result })) c.area_corners-area.ensures c.volume_corners-volume.ensures
    c.left.ensures c.left-3.ensures c.left-4.ensures c.left-5.ensures c.left-6.ensures c.left-7.ensures c.left-8.ensures) marks) (c.listing.ensures marks)
