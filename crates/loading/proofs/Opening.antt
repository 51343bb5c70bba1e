-- Reading onto the program's desk: the benches are equal, and what was read is the definition's figure, accepted in memory. Assumes nothing.
use mathlib.Core.Path.{◌≡◌, refl, sym, ◌∙◌, ap, subst}
use mathlib.Core.Bool.{Bool, true, cond}
use mathlib.Core.List.{List, [], ◌∷◌}
use Prim.Native.Nat.{ℕ}
use lib.Dec.{eqb}
use lib.ListN.{get_or}
use Rattle.std.specs.Prelude.{Ok, Err}
use Rattle.geom.specs.declared.answer.Sizes.{Sizes}
use Rattle.geom.specs.declared.answer.Reading.{Reading}
use Rattle.geom.specs.declared.kind.Kind as Kinds
use Rattle.geom.specs.declared.refusal.Refusal.{Refusal}
use Rattle.geom.specs.Answers.{first_due, Opening, mesh_of_kind, no_mesh, judgement_of, opening_of, number_of}
use Rattle.geom.specs.Kinds.{kind_of}
use Rattle.geom.proofs.Within.{within_holds}
use Rattle.geom.specs.Memory.{AsLong}
use Rattle.geom.proofs.Equal.{equal_holds}
use Rattle.geom.specs.Book.{Kind}
use Rattle.geom.specs.File as File
use Rattle.geom.specs.File.{Read, read, stop, Figure, figure, bench_over, loaded, loaded_by}
use Rattle.geom.specs.Listing.{refusal}
use Rattle.geom.specs.Mesh as Meshes
use Rattle.geom.specs.Mesh.{sizes_of}
use Rattle.geom.specs.Memory.{Bench, cells, rows_of, mesh_of, bench_of}
use Rattle.geom.specs.Refinement.{within, run}
use Rattle.geom.specs.Refusals.{handed_in}
use Rattle.geom.specs.Sheet.{SHEET_CELLS, SHEET_LENT, refined_by, printed}
use Rattle.desk.specs.Desk.{kind_said, Lengths, Lent, Ready, Handed}
use Rattle.desk.proofs.Cells.{same_lengths, cells_lent}
use Rattle.figure.specs.Entry.{outcome}
use Rattle.geom.proofs.Standing.{Laid}
use Rattle.loading.proofs.Readers.{never, judged_on, both_read}
use Rattle.loading.proofs.Fine.{Fine, figure_fine}
use Rattle.loading.proofs.Accepting.{laid, mesh_back, none_due}
use Rattle.loading.proofs.Saying.{figure_lent, kind_read}

-- ---- equal benches

kept_lengths : {kind : Kind} {b c : Bench} → Lengths kind b → AsLong c b → Lengths kind c
kept_lengths l k =
    record {
      positions = k.positions ∙ l.positions;
      marks = k.marks ∙ l.marks;
      points = k.points ∙ l.points;
      lines = k.lines ∙ l.lines;
      areas = k.areas ∙ l.areas;
      volumes = k.volumes ∙ l.volumes;
      curves = k.curves ∙ l.curves;
      steps = k.curve_vertices ∙ l.steps;
    }

-- what reading gives on the program's desk
loaded_is :
    (first second : Bench) (file : List ℕ) → Lengths (kind_said file) first → Lengths (kind_said file) second
    → loaded first second file ≡ loaded_by first (figure (λ (kind : Kind). SHEET_CELLS) file)
unfolding loaded
loaded_is first second file l m =
    ap (λ (b : Bool). loaded_by first (cond b (figure (λ (kind : Kind). cells kind first) file) (stop 9))) (equal_holds (same_lengths l m))
    ∙ ap (loaded_by first) (figure_lent (λ (kind : Kind). cells kind first) (λ (kind : Kind). SHEET_CELLS) file (cells_lent (kind_said file) first l))

-- ---- the kind that was read is the kind that the file says

end_read : (f g : Figure) (bytes rest : List ℕ) → File.end f bytes ≡ read g rest → f ≡ g
unfolding File.end
end_read f g [] rest e = cc
end_read f g (b ∷ bytes) rest e = absurd (never 4 g rest e)

figure_kind : (lent : Kind → Sizes) (file : List ℕ) (f : Figure) (rest : List ℕ) → figure lent file ≡ read f rest → f.kind ≡ kind_said file
unfolding figure File.byte
figure_kind lent [] f rest e = absurd (never 3 f rest e)
figure_kind lent (v ∷ bytes) f rest e =
    let a = both_read (File.judged 1 (eqb v 1) v bytes) _ f rest e in
    let b = both_read (File.kind_field a.more) _ f rest a.on in
    let c = both_read (File.lists b.first (lent b.first) b.more) _ f rest b.on in
    let more = (judged_on 1 (eqb v 1) v a.first bytes a.more a.is).1 in
    sym (ap (λ (x : Figure). x.kind) (end_read _ f c.more rest c.on))
    ∙ sym (kind_read a.more b.first b.more b.is)
    ∙ ap (λ (bs : List ℕ). File.kind_of (get_or bs 0 0)) (sym more)

-- ---- what was read

-- a mesh of a kind was read, and written over the first bench
pub record Was (kind : Kind) (first b : Bench) (s : Sizes) (r : Read Figure) : Type 0 where
  pub mesh : Meshes.Mesh
  pub rest : List ℕ
  pub is : r ≡ read (record { kind = kind; mesh = mesh }) rest
  pub sizes : s ≡ sizes_of mesh
  pub written : b ≡ bench_over first (bench_of mesh)

was_read :
    (kind : Kind) (first b : Bench) (o : Opening) (r : Read Figure) → outcome o b ≡ loaded_by first r → mesh_of_kind kind ≡ o.judgement
    → Was kind first b o.sizes r
was_read kind first b o (read f rest) e j =
    let k : f.kind ≡ kind = cc (j, ap (λ (l : File.Loaded). l.opening.judgement) e) in
    record {
      mesh = f.mesh;
      rest = rest;
      is = λ i. read (record { kind = k i; mesh = f.mesh }) rest;
      sizes = ap (λ (l : File.Loaded). l.opening.sizes) e;
      written = ap (λ (l : File.Loaded). l.bench) e;
    }
was_read kind first b o (stop n) e j =
    absurd (cc (j, ap (λ (l : File.Loaded). l.opening.judgement) e))

was_refused :
    (n : ℕ) (first b : Bench) (o : Opening) (r : Read Figure) (depth time : ℕ) → outcome o b ≡ loaded_by first r → no_mesh n ≡ o.judgement
    → refined_by depth time r ≡ refusal n 0
was_refused n first b o (read f rest) depth time e j =
    absurd (cc (j, ap (λ (l : File.Loaded). l.opening.judgement) e))
was_refused n first b o (stop m) depth time e j =
    let k : m ≡ n = cc (j, ap (λ (l : File.Loaded). l.opening.judgement) e) in
    ap (λ (i : ℕ). refusal i 0) k

-- ---- it is accepted

module _
    (kind : Kind) (file : List ℕ) (first second b : Bench) (s : Sizes) (w : Was kind first b s (figure (λ (k : Kind). SHEET_CELLS) file))
    (l : Lengths (kind_said file) first) (m : Lengths (kind_said file) second) (k : AsLong b first) where
  said : kind_said file ≡ kind
  said = sym (figure_kind (λ (k : Kind). SHEET_CELLS) file _ w.rest w.is)

  here : Lengths kind b
  here = subst (λ (x : Kind). Lengths x b) said (kept_lengths l k)

  fine : Fine kind (cells kind b) w.mesh
  fine = rw (cells_lent kind b here) ((figure_fine (λ (k : Kind). SHEET_CELLS)).gives file _ w.rest w.is)

  stands : Laid w.mesh b
  stands = rw w.written (laid w.mesh first)

  back : mesh_of (rows_of kind s b) ≡ w.mesh
  back = ap (λ (x : Sizes). mesh_of (rows_of kind x b)) w.sizes ∙ mesh_back kind w.mesh b stands fine

  handed : {time : ℕ} {out : List ℕ} → Lent time out → Handed kind s time b second out
  handed t =
      record {
        lent = t;
        first = here;
        second = subst (λ (x : Kind). Lengths x second) said m;
        due =
            ap (λ (x : Sizes). first_due (handed_in true true kind x b)) w.sizes
            ∙ none_due kind w.mesh b stands fine true true refl refl;
        cells =
            ap (λ (x : Meshes.Mesh). within (sizes_of x) SHEET_CELLS) back
            ∙ within_holds (sizes_of w.mesh) SHEET_CELLS (rw (cells_lent kind b here) at fine.within);
      }

  -- and its refinement is the text that the definition prints
  text_is :
      (depth time : ℕ)
      → printed (run kind (eqb time 1) SHEET_LENT depth (mesh_of (rows_of kind s b))) ≡ refined_by depth time (figure (λ (k : Kind). SHEET_CELLS) file)
  text_is depth time =
      ap (λ (x : Meshes.Mesh). printed (run kind (eqb time 1) SHEET_LENT depth x)) back ∙ ap (refined_by depth time) (sym w.is)

-- ---- as the program finds it

module _
    {file : List ℕ} {first second other b : Bench} (o : Reading) {time : ℕ} {out : List ℕ} (ready : Ready time file first second out)
    (e : outcome (opening_of o) b ≡ loaded first other file) (same : other ≡ second) where
  is_loaded : outcome (opening_of o) b ≡ loaded_by first (figure (λ (k : Kind). SHEET_CELLS) file)
  is_loaded = e ∙ ap (λ (x : Bench). loaded first x file) same ∙ loaded_is first second file ready.laid.first ready.second

  module _ {kind : Kinds.Kind} (is : o.opened ≡ Ok kind) (k : AsLong b first) where
    was : Was (kind_of kind) first b o.sizes (figure (λ (k : Kind). SHEET_CELLS) file)
    unfolding opening_of judgement_of
    was = was_read (kind_of kind) first b (opening_of o) _ is_loaded (sym (ap judgement_of is))

    pub found_handed : Handed (kind_of kind) o.sizes time b second out
    found_handed = handed (kind_of kind) file first second b o.sizes was ready.laid.first ready.second k ready.laid.lent

    pub found_text :
        (depth : ℕ)
        → printed (run (kind_of kind) (eqb time 1) SHEET_LENT depth (mesh_of (rows_of (kind_of kind) o.sizes b)))
        ≡ refined_by depth time (figure (λ (k : Kind). SHEET_CELLS) file)
    found_text depth = text_is (kind_of kind) file first second b o.sizes was ready.laid.first ready.second k depth time

  pub found_refused :
      {why : Refusal} {n : ℕ} (depth : ℕ) → o.opened ≡ Err why → n ≡ number_of why
      → refusal n 0 ≡ refined_by depth time (figure (λ (k : Kind). SHEET_CELLS) file)
  unfolding opening_of judgement_of
  found_refused {why} {n} depth is number =
      sym (was_refused n first b (opening_of o) (figure (λ (k : Kind). SHEET_CELLS) file) depth time is_loaded (ap no_mesh number ∙ sym (ap judgement_of is)))
