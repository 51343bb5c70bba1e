-- A file is judged by the lent cells of the kind that it says alone. Assumes nothing.
use mathlib.Core.Path.{◌≡◌, refl, ◌∙◌, ap}
use mathlib.Core.List.{List, [], ◌∷◌}
use Prim.Native.Nat.{ℕ}
use lib.Dec.{eqb, leb}
use lib.ListN.{get_or}
use Rattle.geom.specs.declared.answer.Sizes.{Sizes}
use Rattle.geom.specs.Book.{Kind}
use Rattle.geom.specs.File as File
use Rattle.geom.specs.File.{read, and_then, figure}
use Rattle.geom.specs.Mesh.{Mesh}
use Rattle.desk.specs.Desk.{kind_said}
use Rattle.loading.proofs.Readers.{never, judged_on, then_same}

pub kind_read : (bytes : List ℕ) (kind : Kind) (rest : List ℕ) → File.kind_field bytes ≡ read kind rest → File.kind_of (get_or bytes 0 0) ≡ kind
unfolding File.kind_field File.byte
kind_read [] kind rest e = absurd (never 3 kind rest e)
kind_read (b ∷ bytes) kind rest e = (judged_on 2 (leb b 1) (File.kind_of b) kind bytes rest e).0

-- a file is judged by the lent cells of the kind that it says
pub figure_lent : (lent other : Kind → Sizes) (bytes : List ℕ) → lent (kind_said bytes) ≡ other (kind_said bytes) → figure lent bytes ≡ figure other bytes
unfolding figure File.byte
figure_lent lent other [] e = refl
figure_lent lent other (v ∷ bytes) e =
    then_same (File.judged 1 (eqb v 1) v bytes) _ _
    (λ x more f.
    then_same (File.kind_field more) _ _
    (λ kind rest g.
    let b = (judged_on 1 (eqb v 1) v x bytes more f).1 in
    let k : File.kind_of (get_or bytes 0 0) ≡ kind = ap (λ (bs : List ℕ). File.kind_of (get_or bs 0 0)) b ∙ kind_read more kind rest g in
    let same : lent kind ≡ other kind = rw k at e in
    ap (λ (s : Sizes). and_then (File.lists kind s rest) (λ (m : Mesh). File.end (record { kind = kind; mesh = m }))) same))
