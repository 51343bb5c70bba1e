-- Document 02, U8: from cubes that close, refined by any number of passes, to tetrahedra that close, refined by any number of passes, wherever refusal 10
-- stops either refinement; over the contracts of the three calls alone.
-- Assumes nothing.
use mathlib.Core.Path.{sym, ◌∙◌, ap, subst, fun_ext}
use mathlib.Core.List.{List}
use Rattle.geom.specs.Book.{cubes, simplices}
use Rattle.geom.specs.Elements.{Element}
use Rattle.geom.specs.Ledger.{Ledger, ledger, Closed}
use Rattle.geom.specs.Cutting.{read, replaced, LedgerCut, Different}
use Rattle.geom.proofs.Accepted.{accepted_well}
use Rattle.geom.proofs.Cutting.{cut_closes, read_closes}
use Rattle.chain.specs.Calls.{Refining, handed, volumes_left, Cutting, printed, Follows, Ends, LedgerThrough, ClosedThrough}

-- the triangulation's promise, over the cubes that the refinement left
cut_left : (first : Refining cubes) (second : Cutting) → Follows first second → LedgerCut second.sizes.vertices (volumes_left first) (printed second)
cut_left first second follows =
    subst (λ (vs : List Element). LedgerCut second.sizes.vertices vs (printed second)) follows (second.promised.ledger second.taken)

pub ledger_through : (first : Refining cubes) (second : Cutting) → Follows first second → LedgerThrough first second
ledger_through first second follows face =
    cut_left first second follows face
    ∙ ap (λ (l : Ledger). read (replaced second.sizes.vertices l) face) (fun_ext (first.promised.keeps first.taken).ledger)

pub closed_through :
    (first : Refining cubes) (second : Cutting) → Follows first second → Closed (ledger cubes (handed first).lists.volumes) → ClosedThrough second
closed_through first second follows closed = record { as_read = as_read; whole = whole }
  where
    as_read : Closed (read (ledger simplices (printed second)))
    as_read =
        cut_closes second.sizes.vertices (volumes_left first) (printed second) (cut_left first second follows)
        ((first.promised.keeps first.taken).closed.0 closed)

    whole : Different (printed second) → (third : Refining simplices) → Ends second third → Closed (ledger simplices (volumes_left third))
    whole apart third ends =
        let well = accepted_well simplices third.sizes third.lent third.time third.taken in
        let before : Closed (ledger simplices (handed third).lists.volumes) =
        read_closes _ (handed third).lists.volumes well.volumes (subst Different (sym ends) apart)
        (subst (λ (vs : List Element). Closed (read (ledger simplices vs))) (sym ends) as_read)
        in
        (third.promised.keeps third.taken).closed.0 before
