-- `printing::refined` meets its contract: the answer and the mesh that is left are those of the definition's run. Assumes nothing.
use mathlib.Core.Path.{refl}
use mathlib.Core.List.{[]}
use Rattle.printing.proofs.Lengths.{refusal_short}
use Rattle.printing.proofs.Refining.{prints_refusal, prints_listing, few_passes, few_left, lists_left}
use Rattle.printing.proofs.Texts.{printed_as}
use native.Mathlib.Omega.{arith}
use Rattle.printing.proofs.refined.Goals as goal

pub show-requires : goal.show-requires
show-requires c =
    rw (c.read.ensures, c.read-in-Ok.ensures)
    (record {
      stated = lists_left c.subdivide-answer.result c.subdivide-answer.ensures.refines c.requires refl refl refl (omega (arith, c.ranges.depth));
      sizes_value = few_left c.subdivide-answer.result c.subdivide-answer.ensures.refines c.requires refl refl refl;
    })

pub returns-in-Ok : goal.returns-in-Ok
returns-in-Ok c =
    let t = rw (c.read.ensures, c.read-in-Ok.ensures) at (c.show.ensures []) in
    printed_as (prints_listing c.subdivide-answer.result c.subdivide-answer.ensures.refines c.requires refl refl refl c.in-Ok.is []) t

pub refusal-requires : goal.refusal-requires
refusal-requires c =
    let l = refusal_short c.from.result c.subdivide-answer.result.passes (omega (arith, c.from.type_inv)) (omega (arith, few_passes c.subdivide-answer.result c.subdivide-answer.ensures.refines c.requires refl refl refl, c.ranges.depth)) in
    omega (arith, l, c.requires.lent.room)

pub returns-in-Err : goal.returns-in-Err
returns-in-Err c =
    printed_as (prints_refusal c.subdivide-answer.result c.subdivide-answer.ensures.refines c.requires refl refl refl c.in-Err.is c.from.ensures) c.refusal.ensures
