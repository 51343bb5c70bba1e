-- The program's refinement of an accepted mesh: the run is the definition's under 1,024 cells for each list, and its text has room. Assumes nothing.
use mathlib.Core.Path.{◌≡◌, refl, sym, ◌∙◌, ap, subst}
use mathlib.Core.Bool.{true}
use mathlib.Core.List.{List, [], ◌∷◌}
use Prim.Native.Nat.{ℕ, ◌*◌, ◌/◌, ◌≤◌, ◌<◌}
use native.Mathlib.Omega.{arith}
use lib.Dec.{eqb}
use lib.ListN.{length}
use borrow.Author.Tests.{not-false}
use Rattle.std.specs.Prelude.{Ok, Err}
use Rattle.geom.specs.declared.answer.Sizes.{Sizes}
use Rattle.geom.specs.declared.answer.Refined.{Refined}
use Rattle.geom.specs.declared.refusal.Refusal.{Refusal}
use Rattle.geom.specs.Answers.{Verdict, accepted, refused, verdict_of, number_of, Told, told}
use Rattle.geom.specs.Book.{Kind, cubes, simplices}
use Rattle.geom.specs.Listing.{listing, refusal}
use Rattle.geom.specs.Mesh.{Mesh, sizes_of}
use Rattle.geom.specs.Memory.{Bench, Rows, area_corners, volume_corners, cells, rows_of, mesh_of}
use Rattle.geom.specs.Refinement.{Lent, Run, run, told_by, within}
use Rattle.geom.specs.Refusals.{Desk, Subdivided, ran, subdivided, subdivided_by, told_after, Leaves, StandsFor, BOOK_WORDS, lent_by, benches_hold, counts_hold, numbers_hold, good_number, every, handed_in, refinement_verdict, side}
use Rattle.geom.specs.Sheet.{SHEET_CELLS, SHEET_LENT, printed, printed_by}
use Rattle.geom.specs.Between.{All, Below}
use Rattle.geom.proofs.Lists.{and_true_left, and_true_right, below_number}
use Rattle.geom.proofs.Accepted as Accepted
use Rattle.geom.proofs.Back.{Stepped}
use Rattle.geom.proofs.Forming.{rows_stepped}
use Rattle.geom.proofs.Within.{within_facts, within_holds}
use Rattle.geom.proofs.Equal.{equal_holds}
use Rattle.judge.proofs.Verdicts.{counts_positions, counts_marked, counts_numbered}
use Rattle.subdivision.specs.Entry.{Refines}
use Rattle.listing.specs.Printed.{listed, with_marks, Stated}
use Rattle.listing.proofs.Whole.{any_marks}
use Rattle.desk.specs.Desk.{Handed}
use Rattle.desk.proofs.Cells.{same_lengths, cells_lent}
use Rattle.printing.proofs.Lengths.{Short, listing_short}
use Rattle.printing.proofs.Held.{run_kept, run_short}

-- ---- numbers that were judged

every_below : (n : ℕ) (vs : List ℕ) → every (good_number n) vs ≡ true → Below n vs
unfolding every good_number
every_below n [] e = tt
every_below n (v ∷ vs) e =
    (below_number v n (and_true_left _ (every (good_number n) vs) e), every_below n vs (and_true_right (good_number n v) (every (good_number n) vs) e))

points_below : (n : ℕ) (r : Rows) → numbers_hold n r ≡ true → Below n r.points
unfolding numbers_hold
points_below n r e =
    every_below n r.points (and_true_left _ _ (and_true_left _ _ (and_true_left _ _ (and_true_left _ _ e))))

-- few corners
few : (k : Kind) → (area_corners k ≤ 4) × (volume_corners k ≤ 8)
few cubes = omega arith
few simplices = omega arith

-- ---- the run

module _
    {kind : Kind} {s : Sizes} {time depth : ℕ} {d after : Desk} (r : Refined) {out : List ℕ} (q : Refines kind s d after depth time (told r))
    (h : Handed kind s time d.first d.second out) (book : length d.book ≡ 1024 * BOOK_WORDS) (sums : length d.sums ≡ 4096)
    (tallies : length d.tallies ≡ 2048) where
  -- the mesh handed in, and the definition's run
  abbrev mesh : Mesh
  mesh = mesh_of (rows_of kind s d.first)

  abbrev run_of : Run
  run_of = run kind (eqb time 1) SHEET_LENT depth mesh

  first_lent : cells kind d.first ≡ SHEET_CELLS
  first_lent = cells_lent kind d.first h.first

  benches_hold_lem : benches_hold kind d ≡ true
  unfolding benches_hold
  benches_hold_lem =
      let u : length d.sums / 4 ≡ 1024 = omega (arith, sums) in
      let t : length d.tallies / 2 ≡ 1024 = omega (arith, tallies) in
      rw (equal_holds (same_lengths h.first h.second), u, t, first_lent) refl

  verdict : refinement_verdict kind s d time ≡ accepted
  unfolding refinement_verdict
  verdict = rw (benches_hold_lem, h.lent.time) h.due

  lent_is : lent_by kind d ≡ SHEET_LENT
  unfolding lent_by
  lent_is =
      let b : length d.book / BOOK_WORDS ≡ 1024 = omega (arith, book) in
      λ i. record { cells = first_lent i; book = b i }

  ran_is : subdivided kind s d depth time ≡ ran run_of
  unfolding subdivided
  ran_is =
      ap (λ (v : Verdict). subdivided_by v (run kind (eqb time 1) (lent_by kind d) depth mesh)) verdict
      ∙ ap (λ (l : Lent). ran (run kind (eqb time 1) l depth mesh)) lent_is

  told_is : told r ≡ told_by run_of
  unfolding told_after
  told_is = q.answer ∙ ap (told_after s) ran_is

  passes_is : r.passes ≡ run_of.passes
  unfolding told told_by
  passes_is = ap (λ (t : Told). t.passes) told_is

  sizes_is : r.sizes ≡ sizes_of run_of.left.mesh
  unfolding told told_by
  sizes_is = ap (λ (t : Told). t.sizes) told_is

  verdict_is : verdict_of r.ended ≡ run_of.verdict
  unfolding told told_by
  verdict_is = ap (λ (t : Told). t.verdict) told_is

  stands : StandsFor kind (side run_of.passes after.first after.second) run_of.left.mesh
  unfolding Leaves
  stands = (subst (λ (x : Subdivided). Leaves kind x d after) ran_is q.leaves).0

  -- refused in a pass: only that is printed
  pub prints_refusal : {why : Refusal} {n : ℕ} → r.ended ≡ Err why → n ≡ number_of why → refusal n r.passes ≡ printed run_of
  unfolding printed verdict_of
  prints_refusal {why} {n} e k =
      let v : run_of.verdict ≡ refused n = sym verdict_is ∙ ap verdict_of e ∙ ap refused (sym k) in
      ap (refusal n) passes_is ∙ sym (ap (λ (x : Verdict). printed_by x run_of) v)

  -- ---- finished: the mesh that is left is listed

  abbrev left : Bench
  left = side r.passes after.first after.second

  left_is : left ≡ side run_of.passes after.first after.second
  left_is = ap (λ (n : ℕ). side n after.first after.second) passes_is

  counts : counts_hold kind r.sizes left ≡ true
  unfolding StandsFor
  counts =
      ap (λ (x : Sizes). counts_hold kind x left) sizes_is ∙ ap (counts_hold kind (sizes_of run_of.left.mesh)) left_is ∙ stands.0

  mesh_is : mesh_of (rows_of kind r.sizes left) ≡ run_of.left.mesh
  unfolding StandsFor
  mesh_is =
      ap (λ (x : Sizes). mesh_of (rows_of kind x left)) sizes_is
      ∙ ap (λ (b : Bench). mesh_of (rows_of kind (sizes_of run_of.left.mesh) b)) left_is
      ∙ stands.2

  pub prints_listing : {u : Unit} → r.ended ≡ Ok u → (marks : List ℕ) → listed r.passes kind r.sizes (with_marks marks left) ≡ printed run_of
  unfolding printed verdict_of
  prints_listing {u} e marks =
      let v : run_of.verdict ≡ accepted = sym verdict_is ∙ ap verdict_of e in
      any_marks r.passes kind r.sizes left (counts_marked kind r.sizes left counts).parts marks left.marks
      ∙ ap (listing r.passes) mesh_is
      ∙ ap (λ (n : ℕ). listing n run_of.left.mesh) passes_is
      ∙ sym (ap (λ (x : Verdict). printed_by x run_of) v)

  stepped : All Stepped run_of.left.mesh.lists.curves
  unfolding mesh_of
  stepped =
      let w = rows_of kind r.sizes left in
      subst (λ (x : Mesh). All Stepped x.lists.curves) mesh_is (rows_stepped w.curves w.curve_vertices)

  points : Below (length mesh.vertices) mesh.points
  unfolding mesh_of refinement_verdict handed_in
  points =
      let none = Accepted.none_due _ verdict in
      let n = not-false (numbers_hold s.vertices (rows_of kind s d.first)) none.1.1.1.0 in
      rw (Accepted.vertex_count kind s d.first) (points_below s.vertices (rows_of kind s d.first) n)

  short : Short (area_corners kind) (volume_corners kind) run_of.left.mesh
  short =
      run_short kind (eqb time 1) depth mesh (within_facts (sizes_of mesh) SHEET_CELLS h.cells) (Accepted.accepted_well kind s d time verdict) points stepped

  pub few_passes : r.passes ≤ depth
  few_passes =
      omega (arith, passes_is, (run_kept kind (eqb time 1) SHEET_LENT depth mesh (within_facts (sizes_of mesh) SHEET_CELLS h.cells)).passes)

  pub few_left : within r.sizes SHEET_CELLS ≡ true
  few_left =
      let k = run_kept kind (eqb time 1) SHEET_LENT depth mesh (within_facts (sizes_of mesh) SHEET_CELLS h.cells) in
      ap (λ (x : Sizes). within x SHEET_CELLS) sizes_is ∙ within_holds (sizes_of run_of.left.mesh) SHEET_CELLS k.cells

  pub lists_left :
      depth < 256
      → Stated r.passes kind r.sizes left out
  lists_left deep =
      let k = run_kept kind (eqb time 1) SHEET_LENT depth mesh (within_facts (sizes_of mesh) SHEET_CELLS h.cells) in
      let marked = counts_marked kind r.sizes left counts in
      let small = listing_short run_of.passes (area_corners kind) (volume_corners kind) run_of.left.mesh (omega (arith, k.passes)) (few kind).0 (few kind).1 short in
      record {
        vertices = counts_positions kind r.sizes left counts;
        point = (counts_numbered kind r.sizes left counts).point;
        elements = marked.listed;
        parts = marked.parts;
        room =
            omega (
              arith,
              small,
              h.lent.room,
              ap length
                  (any_marks r.passes kind r.sizes left marked.parts [] left.marks
                  ∙ ap (listing r.passes) mesh_is
                  ∙ ap (λ (n : ℕ). listing n run_of.left.mesh) passes_is),
            );
      }
