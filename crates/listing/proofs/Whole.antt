-- The listing of a mesh in memory is its first line and the lines of its lists, one list after the other; no mark of a vertex is in it.
-- Assumes nothing.
use mathlib.Core.Path.{◌≡◌, refl, sym, ◌∙◌, ap}
use mathlib.Core.List.{List, [], ◌∷◌, ◌++◌, map, flat_map, append_assoc, append-nil}
use Prim.Native.Nat.{ℕ, zero, suc, ◌+◌}
use native.Mathlib.Omega.{arith}
use lib.Ieee.{Float}
use lib.ListN.{length, get_or}
use Rattle.geom.specs.declared.answer.Sizes.{Sizes}
use Rattle.geom.specs.declared.vertex.Vertex.{Vertex}
use Rattle.geom.specs.Book.{Kind}
use Rattle.geom.specs.Listing.{PASSES, REFUSED, AFTER, NEWLINE, spaced, decimal, listing, refusal, vertex_line, vertex_lines, point_line, element_line, curve_line}
use Rattle.geom.specs.Memory.{area_corners, volume_corners, first_of, vertex_row, four_row, vertex_row_in, element_row, element_of, curve_row, step_row, curves_of, rows_of, mesh_of, Bench}
use Rattle.geom.proofs.Rows.{length_first_of, map_first_of}
use Rattle.judge.specs.Words.{Parts}
use Rattle.division.specs.Writing.{written}
use Rattle.division.proofs.Rows.{written_over}
use Rattle.division.proofs.Winding.{curve_in, curves_places}
use Rattle.listing.specs.declared.lines.Text.{Text}
use Rattle.listing.specs.Text.{Adds, HasRoom, together, vertex_text, point_text, element_text, curve_text}
use Rattle.listing.specs.Printed.{Printed, heading_of, listed, with_marks, Stated}
use Rattle.listing.proofs.Texts.{joined, Going, going_start, going_room, going_begun}
use Rattle.listing.proofs.Parts.{together_flat}

-- ---- the lines of a list

vertices_snoc : (k : ℕ) (vs : List Vertex) (v : Vertex) → vertex_lines k (vs ++ v ∷ []) ≡ vertex_lines k vs ++ vertex_line (k + length vs) v
unfolding vertex_lines
vertices_snoc k [] v =
    let e : k + 0 ≡ k = omega arith in
    append-nil (vertex_line k v) ∙ ap (λ (i : ℕ). vertex_line i v) (sym e)
vertices_snoc k (u ∷ vs) v =
    let e : suc k + length vs ≡ k + suc (length vs) = omega arith in
    ap (λ (r : List ℕ). vertex_line k u ++ r) (vertices_snoc (suc k) vs v)
    ∙ sym (append_assoc (vertex_line k u) (vertex_lines (suc k) vs) (vertex_line (suc k + length vs) v))
    ∙ ap (λ (i : ℕ). (vertex_line k u ++ vertex_lines (suc k) vs) ++ vertex_line i v) e

vertices_together :
    (positions : List Float) (marks : List ℕ) (n : ℕ) → vertex_lines 0 (first_of (vertex_row positions marks) n) ≡ together (vertex_text positions) n
unfolding first_of vertex_lines together vertex_line vertex_row_in four_row
vertices_together positions marks zero = refl
vertices_together positions marks (suc n) =
    let e : 0 + length (first_of (vertex_row positions marks) n) ≡ n = omega (arith, length_first_of (vertex_row positions marks) n) in
    vertices_snoc 0 (first_of (vertex_row positions marks) n) (vertex_row positions marks n)
    ∙ ap (λ (i : ℕ). vertex_lines 0 (first_of (vertex_row positions marks) n) ++ vertex_line i (vertex_row positions marks n)) e
    ∙ ap (λ (r : List ℕ). r ++ vertex_text positions n) (vertices_together positions marks n)

elements_together :
    (name corners : ℕ) (words : List ℕ) (n : ℕ)
    → flat_map (element_line name) (map element_of (first_of (element_row corners words) n)) ≡ together (element_text name words corners) n
elements_together name corners words n =
    ap (flat_map (element_line name)) (map_first_of element_of (element_row corners words) n)
    ∙ sym (together_flat (element_line name) (λ (i : ℕ). element_of (element_row corners words i)) n)

curves_together :
    (curves steps : List ℕ) (rows total : ℕ) → Parts curves rows steps total
    → flat_map curve_line (curves_of (first_of (curve_row curves) rows) (first_of (step_row steps) total)) ≡ together (curve_text curves steps) rows
curves_together curves steps rows total p =
    ap (flat_map curve_line) (curves_places curves steps total rows (omega (arith, p.sum)))
    ∙ sym (together_flat curve_line (curve_in curves steps) rows)

-- ---- the whole listing

join_all :
    (p q n v a b c d e : List ℕ)
    → p ++ q ++ (n ++ v) ++ a ++ b ++ c ++ d ++ e ≡ joined ((p ++ q ++ n) ∷ v ∷ a ∷ b ∷ c ∷ d ∷ e ∷ [])
unfolding joined
join_all p q n v a b c d e = simp (append_assoc, append-nil)

module _
    (passes : ℕ) (kind : Kind) (s : Sizes) (b : Bench)
    (parts : Parts b.curves s.curves b.curve_vertices s.curve_vertices) where
  pub listing_parts :
      (marks : List ℕ)
      → listed passes kind s (with_marks marks b)
      ≡ joined
      (heading_of passes
      ∷ together (vertex_text b.positions) s.vertices
      ∷ together (point_text b.points) s.points
      ∷ together (element_text 108 b.lines 2) s.lines
      ∷ together (element_text 97 b.areas (area_corners kind)) s.areas
      ∷ together (element_text 115 b.volumes (volume_corners kind)) s.volumes
      ∷ together (curve_text b.curves b.curve_vertices) s.curves
      ∷ [])
  unfolding listing mesh_of rows_of
  listing_parts marks =
      let v = vertices_together b.positions marks s.vertices in
      let p = sym (together_flat point_line (λ (i : ℕ). get_or b.points i 0) s.points) in
      let l = elements_together 108 2 b.lines s.lines in
      let a = elements_together 97 (area_corners kind) b.areas s.areas in
      let w = elements_together 115 (volume_corners kind) b.volumes s.volumes in
      let c = curves_together b.curves b.curve_vertices s.curves s.curve_vertices parts in
      (λ i. PASSES ++ spaced (decimal passes) ++ (NEWLINE ∷ v i) ++ p i ++ l i ++ a i ++ w i ++ c i)
      ∙ join_all PASSES (spaced (decimal passes)) (NEWLINE ∷ []) _ _ _ _ _ _

  -- with any marks it is the same
  pub any_marks :
      (marks others : List ℕ)
      → listed passes kind s (with_marks marks b)
      ≡ listed passes kind s (with_marks others b)
  any_marks marks others = listing_parts marks ∙ sym (listing_parts others)

-- from the first line on
module _
    {passes : ℕ} {kind : Kind} {s : Sizes} {b : Bench} (old : Text)
    (r : Stated passes kind s b old.out.now) (z : old.at ≡ 0) where
  pub heading_room : HasRoom (heading_of passes) old
  heading_room = going_room (going_start old (listing_parts passes kind s b r.parts []) (omega (arith, r.room)))

module _
    {passes : ℕ} {kind : Kind} {s : Sizes} {b : Bench} {old now : Text}
    (a : Adds (heading_of passes) old now) (r : Stated passes kind s b old.out.now) (z : old.at ≡ 0) where
  pub listing_begun :
      (area volume : ℕ) → area ≡ area_corners kind → volume ≡ volume_corners kind → (marks : List ℕ)
      → Going (listed passes kind s (with_marks marks b)) old now
      (together (vertex_text b.positions) s.vertices
      ∷ together (point_text b.points) s.points
      ∷ together (element_text 108 b.lines 2) s.lines
      ∷ together (element_text 97 b.areas area) s.areas
      ∷ together (element_text 115 b.volumes volume) s.volumes
      ∷ together (curve_text b.curves b.curve_vertices) s.curves
      ∷ [])
  listing_begun area volume e f marks =
      rw (e, f)
      (going_begun a (listing_parts passes kind s b r.parts marks) z
      (rw (any_marks passes kind s b r.parts [] marks) at r.room))

-- a text from the buffer's start, which is lent on
pub printed_from :
    {text out : List ℕ} {old now : Text} → Adds text old now → old.at ≡ 0 → out ≡ now.out.now → Printed text old.out.now out now.at
printed_from {text} {out} {old} {now} a z e =
    record {
      length = omega (arith, a.put.next);
      bytes = e ∙ a.put.bytes ∙ ap (λ (k : ℕ). written old.out.now k text) z ∙ written_over old.out.now text;
    }

-- ---- the first line, and the line of a refusal

pub heading_parts : (passes : ℕ) → heading_of passes ≡ joined (PASSES ∷ spaced (decimal passes) ∷ (NEWLINE ∷ []) ∷ [])
unfolding joined
heading_parts passes = append_assoc PASSES (spaced (decimal passes)) (NEWLINE ∷ [])

join_five : (a b c d e : List ℕ) → a ++ b ++ c ++ d ++ e ≡ joined (a ∷ b ∷ c ∷ d ∷ e ∷ [])
unfolding joined
join_five a b c d e = simp (append_assoc, append-nil)

pub refusal_parts :
    (number passes : ℕ)
    → refusal number passes ≡ joined (REFUSED ∷ spaced (decimal number) ∷ spaced AFTER ∷ spaced (decimal passes) ∷ (NEWLINE ∷ []) ∷ [])
unfolding refusal
refusal_parts number passes = join_five REFUSED (spaced (decimal number)) (spaced AFTER) (spaced (decimal passes)) (NEWLINE ∷ [])
