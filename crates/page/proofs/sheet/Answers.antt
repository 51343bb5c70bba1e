-- `page::sheet` meets its contract: the first bytes are judged in the definition's order, and the file is handed on. Assumes nothing.
use mathlib.Core.Path.{◌∙◌, ap}
use Prim.Native.Nat.{ℕ}
use Rattle.geom.specs.Listing.{refusal}
use Rattle.printing.proofs.Texts.{printed_as}
use Rattle.page.proofs.Pages.{printed_fits, too_long, too_short, bad_time, good_time, file_text}
use native.Mathlib.Omega.{arith}
use Rattle.page.proofs.sheet.Goals as goal

pub returns-then-input-gt65536 : goal.returns-then-input-gt65536
returns-then-input-gt65536 c =
    printed_fits c.refusal.auto.out (printed_as (ap (λ (n : ℕ). refusal n 0) c.from.ensures ∙ too_long c.args.input.now c.if-input-gt65536.true) c.refusal.ensures)

pub returns-then-input-lt2 : goal.returns-then-input-lt2
returns-then-input-lt2 c =
    printed_fits c.refusal-then-input-lt2.auto.out (printed_as (ap (λ (n : ℕ). refusal n 0) c.from-then-input-lt2.ensures ∙ too_short c.args.input.now c.if-input-gt65536.false c.if-input-lt2.true) c.refusal-then-input-lt2.ensures)

pub returns-then-time-gt-LAST_TIME : goal.returns-then-time-gt-LAST_TIME
returns-then-time-gt-LAST_TIME c =
    printed_fits c.refusal-then-time-gt-LAST_TIME.auto.out (printed_as (ap (λ (n : ℕ). refusal n 0) c.from-then-time-gt-LAST_TIME.ensures ∙ bad_time c.args.input.now c.if-input-gt65536.false c.if-input-lt2.false c.if-time-gt-LAST_TIME.true) c.refusal-then-time-gt-LAST_TIME.ensures)

pub on_first-requires : goal.on_first-requires
on_first-requires c =
    record { time = good_time c.args.input.now c.if-time-gt-LAST_TIME.false; room = omega arith }

pub returns : goal.returns
returns c =
    printed_fits c.on_first.auto.out (printed_as (file_text c.args.input.now c.if-input-gt65536.false c.if-input-lt2.false c.if-time-gt-LAST_TIME.false) c.on_first.ensures)
