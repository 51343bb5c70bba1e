-- The mesh of a file that was read: its elements and curves are formed, its numbers and coordinates are those that are accepted, and it fits the lent cells.
-- Assumes nothing.
use mathlib.Core.Path.{◌≡◌, refl, sym, ap, subst, ◌∙◌}
use mathlib.Core.Bool.{Bool, true, not, ◌&&◌}
use mathlib.Core.List.{List, [], ◌∷◌}
use Prim.Native.Nat.{ℕ, zero, suc, ◌+◌, ◌-◌, ◌≤◌}
use native.Mathlib.Omega.{arith}
use lib.Dec.{eqb, leb}
use lib.Ieee.{Float}
use lib.ListN.{length}
use borrow.Author.Tests.{leb-true}
use Rattle.geom.specs.declared.vertex.Vertex.{Vertex}
use Rattle.geom.specs.declared.answer.Sizes.{Sizes}
use Rattle.geom.specs.Book.{Kind}
use Rattle.geom.specs.Elements.{Element, Curve}
use Rattle.geom.specs.Mesh.{Mesh, curve_vertices_of, sizes_of}
use Rattle.geom.specs.Refinement.{LIMIT, LIMITS}
use Rattle.geom.specs.Refusals.{good_flags, good_coordinate, good_position, good_position_in, good_number}
use Rattle.geom.specs.Memory.{area_corners, volume_corners}
use Rattle.geom.specs.File as File
use Rattle.geom.specs.File.{Figure}
use Rattle.geom.specs.Between.{All}
use Rattle.geom.proofs.Lists.{and_true_left, and_true_right, all_map}
use Rattle.geom.proofs.Within.{Within}
use Rattle.geom.proofs.Back.{Stepped}
use Rattle.geom.proofs.Standing.{Formed}
use Rattle.loading.proofs.Readers.{Gives, gives_then, gives_done, gives_judged, gives_several, gives_any}

-- ---- the fields

coordinate_good : Gives (λ (c : Float). good_coordinate c ≡ true) File.coordinate
unfolding File.coordinate
coordinate_good = gives_then File.word _ (gives_any File.word) (λ b u. gives_judged 6 _ _ (λ e. e))

-- a vertex whose flags and whose position are accepted
pub record Placed (v : Vertex) : Type 0 where
  pub flags : good_flags v.flags ≡ true
  pub position : good_position v.position ≡ true

all_four : (a b c d : Bool) → a ≡ true → b ≡ true → c ≡ true → d ≡ true → (a && b && c && d) ≡ true
all_four a b c d p q r s = rw (p, q, r, s) refl

vertex_good : Gives Placed File.vertex
unfolding File.vertex good_position_in
vertex_good =
    gives_then File.coordinate _ coordinate_good
    (λ x gx.
    gives_then File.coordinate _ coordinate_good
    (λ y gy.
    gives_then File.coordinate _ coordinate_good
    (λ z gz.
    gives_then File.coordinate _ coordinate_good
    (λ w gw.
    gives_then File.byte _ (gives_any File.byte)
    (λ f u.
    gives_then {P = λ (n : ℕ). good_flags n ≡ true} (File.judged 5 (good_flags f) f) _ (gives_judged 5 (good_flags f) f (λ e. e))
    (λ flags gf.
    gives_then File.word _ (gives_any File.word)
    (λ tag u'.
    gives_then File.word _ (gives_any File.word)
    (λ k u''.
    gives_done _
    (record { flags = gf; position = all_four (good_coordinate x) (good_coordinate y) (good_coordinate z) (good_coordinate w) gx gy gz gw })))))))))

abbrev pub Number : ℕ → ℕ → Type 0
Number count v = good_number count v ≡ true

number_good : (count : ℕ) → Gives (Number count) (File.number count)
unfolding File.number
number_good count = gives_then File.word _ (gives_any File.word) (λ v u. gives_judged 7 (good_number count v) v (λ e. e))

-- an element with its corners, all of them vertices
pub record Cornered (count k : ℕ) (e : Element) : Type 0 where
  pub corners : length e.corners ≡ k
  pub numbers : All (Number count) e.corners

element_good : (count corners : ℕ) → Gives (Cornered count corners) (File.element count corners)
unfolding File.element
element_good count corners =
    gives_then (File.several corners (File.number count)) _ (gives_several (File.number count) (number_good count) corners)
    (λ vs a. gives_then File.parity _ (gives_any File.parity) (λ p u. gives_done _ (record { corners = a.0; numbers = a.1 })))

-- ---- counts and curves

-- a count within the lent cells and the limit
pub record Counted (room n : ℕ) : Type 0 where
  pub lent : n ≤ room
  pub limit : n ≤ LIMIT

both_most : (m n k : ℕ) → (leb m n && leb m k) ≡ true → (m ≤ n) × (m ≤ k)
both_most m n k e =
    (leb-true m n (and_true_left (leb m n) (leb m k) e), leb-true m k (and_true_right (leb m n) (leb m k) e))

counted_good : (lent : ℕ) → Gives (Counted lent) (File.counted lent)
unfolding File.counted
counted_good lent =
    gives_then File.word _ (gives_any File.word)
    (λ n u.
    gives_judged 10 _ n
    (λ e.
    let b = both_most n lent LIMIT e in
    record { lent = b.0; limit = b.1 }))

-- a curve with vertices, of whose steps each has a parity, behind so many curve vertices
pub record Strung (count lent before : ℕ) (c : Curve) : Type 0 where
  pub stepped : Stepped c
  pub numbers : All (Number count) c.vertices
  pub some : not (eqb (length c.vertices) 0) ≡ true
  pub counted : Counted lent (before + length c.vertices)

pub record CurveCount (lent before n : ℕ) : Type 0 where
  pub some : not (eqb n 0) ≡ true
  pub counted : Counted lent (before + n)

curve_count_good : (lent before : ℕ) → Gives (CurveCount lent before) (File.curve_count lent before)
unfolding File.curve_count
curve_count_good lent before =
    gives_then File.word _ (gives_any File.word)
    (λ n u.
    gives_then {P = λ (m : ℕ). not (eqb m 0) ≡ true} (File.judged 8 (not (eqb n 0)) n) _ (gives_judged 8 (not (eqb n 0)) n (λ e. e))
    (λ m some.
    gives_judged 10 _ m
    (λ e.
    let b = both_most (before + m) lent LIMIT e in
    record { some = some; counted = record { lent = b.0; limit = b.1 } })))

curve_good : (count lent before : ℕ) → Gives (Strung count lent before) (File.curve count lent before)
unfolding File.curve
curve_good count lent before =
    gives_then File.word _ (gives_any File.word)
    (λ tag u.
    gives_then (File.curve_count lent before) _ (curve_count_good lent before)
    (λ n g.
    gives_then (File.several n (File.number count)) _ (gives_several (File.number count) (number_good count) n)
    (λ vs a.
    gives_then (File.several (n - 1) File.parity) _ (gives_several File.parity (gives_any File.parity) (n - 1))
    (λ ps b.
    gives_done _
    (record {
      stepped = b.0 ∙ ap (λ (k : ℕ). k - 1) (sym a.0);
      numbers = a.1;
      some = rw a.0 g.some;
      counted = rw a.0 g.counted;
    })))))

-- curves that are each in order, and together within the lent cells
pub record Curves (count lent before n : ℕ) (cs : List Curve) : Type 0 where
  pub number : length cs ≡ n
  pub stepped : All Stepped cs
  pub numbers : All (λ (c : Curve). All (Number count) c.vertices) cs
  pub some : All (λ (c : Curve). not (eqb (length c.vertices) 0) ≡ true) cs
  pub counted : Counted lent (before + curve_vertices_of cs)

curves_good : (count lent n before : ℕ) → Counted lent before → Gives (Curves count lent before n) (File.curves count lent n before)
unfolding File.curves curve_vertices_of
curves_good count lent zero before c =
    gives_done []
    (record {
      number = refl;
      stepped = tt;
      numbers = tt;
      some = tt;
      counted = record { lent = omega (arith, c.lent); limit = omega (arith, c.limit) };
    })
curves_good count lent (suc n) before c =
    gives_then (File.curve count lent before) _ (curve_good count lent before)
    (λ x g.
    gives_then (File.curves count lent n (before + length x.vertices)) _
    (curves_good count lent n (before + length x.vertices) g.counted)
    (λ xs h.
    gives_done (x ∷ xs)
    (record {
      number = ap suc h.number;
      stepped = (g.stepped, h.stepped);
      numbers = (g.numbers, h.numbers);
      some = (g.some, h.some);
      counted = record { lent = omega (arith, h.counted.lent); limit = omega (arith, h.counted.limit) };
    })))

-- ---- the whole mesh

-- what reading promises of a mesh of a kind
pub record Fine (kind : Kind) (lent : Sizes) (m : Mesh) : Type 0 where
  pub formed : Formed kind m
  pub positions : All (λ (v : Vertex). good_position v.position ≡ true) m.vertices
  pub points : All (Number (length m.vertices)) m.points
  pub lines : All (λ (e : Element). All (Number (length m.vertices)) e.corners) m.lists.lines
  pub areas : All (λ (e : Element). All (Number (length m.vertices)) e.corners) m.lists.areas
  pub volumes : All (λ (e : Element). All (Number (length m.vertices)) e.corners) m.lists.volumes
  pub curves : All (λ (c : Curve). All (Number (length m.vertices)) c.vertices) m.lists.curves
  pub some : All (λ (c : Curve). not (eqb (length c.vertices) 0) ≡ true) m.lists.curves
  pub within : Within (sizes_of m) lent
  pub limits : Within (sizes_of m) LIMITS

lists_fine : (kind : Kind) (lent : Sizes) → Gives (Fine kind lent) (File.lists kind lent)
unfolding File.lists File.line sizes_of
lists_fine kind lent =
    gives_then (File.counted lent.vertices) _ (counted_good lent.vertices)
    (λ n cn.
    gives_then (File.several n File.vertex) _ (gives_several File.vertex vertex_good n)
    (λ vs av.
    gives_then (File.counted lent.points) _ (counted_good lent.points)
    (λ p cp.
    gives_then (File.several p (File.number n)) _ (gives_several (File.number n) (number_good n) p)
    (λ ps aq.
    gives_then (File.counted lent.lines) _ (counted_good lent.lines)
    (λ l cl.
    gives_then (File.several l (File.element n 2)) _ (gives_several (File.element n 2) (element_good n 2) l)
    (λ ls al.
    gives_then (File.counted lent.areas) _ (counted_good lent.areas)
    (λ a ca.
    gives_then (File.several a (File.element n (area_corners kind))) _ (gives_several (File.element n (area_corners kind)) (element_good n (area_corners kind)) a)
    (λ bs aa.
    gives_then (File.counted lent.volumes) _ (counted_good lent.volumes)
    (λ s cs.
    gives_then (File.several s (File.element n (volume_corners kind))) _ (gives_several (File.element n (volume_corners kind)) (element_good n (volume_corners kind)) s)
    (λ ss ad.
    gives_then (File.counted lent.curves) _ (counted_good lent.curves)
    (λ c ck.
    gives_then (File.curves n lent.curve_vertices c 0) _ (curves_good n lent.curve_vertices c 0 (record { lent = omega arith; limit = omega arith }))
    (λ ks h.
    gives_done _
    (record {
      formed =
          record {
            flags = all_map (λ v g. g.flags) vs av.1;
            lines = all_map (λ e g. g.corners) ls al.1;
            areas = all_map (λ e g. g.corners) bs aa.1;
            volumes = all_map (λ e g. g.corners) ss ad.1;
            curves = h.stepped;
          };
      positions = all_map (λ v g. g.position) vs av.1;
      points = rw av.0 aq.1;
      lines = rw av.0 (all_map (λ e g. g.numbers) ls al.1);
      areas = rw av.0 (all_map (λ e g. g.numbers) bs aa.1);
      volumes = rw av.0 (all_map (λ e g. g.numbers) ss ad.1);
      curves = rw av.0 h.numbers;
      some = h.some;
      within =
          record {
            vertices = omega (arith, av.0, cn.lent);
            points = omega (arith, aq.0, cp.lent);
            lines = omega (arith, al.0, cl.lent);
            areas = omega (arith, aa.0, ca.lent);
            volumes = omega (arith, ad.0, cs.lent);
            curves = omega (arith, h.number, ck.lent);
            curve_vertices = omega (arith, h.counted.lent);
          };
      limits =
          record {
            vertices = omega (arith, av.0, cn.limit);
            points = omega (arith, aq.0, cp.limit);
            lines = omega (arith, al.0, cl.limit);
            areas = omega (arith, aa.0, ca.limit);
            volumes = omega (arith, ad.0, cs.limit);
            curves = omega (arith, h.number, ck.limit);
            curve_vertices = omega (arith, h.counted.limit);
          };
    })))))))))))))

-- nothing is left over
gives_end : {P : Figure → Type 0} (f : Figure) → P f → Gives P (File.end f)
unfolding File.end
gives_end {P} f p = record { gives = go }
  where
    go : (bytes : List ℕ) (x : Figure) (rest : List ℕ) → File.end f bytes ≡ File.read x rest → P x
    go [] x rest e = let g : f ≡ x = cc in subst P g p
    go (b ∷ bytes) x rest e = absurd cc

-- A file that was read is a mesh of its kind, in order, within the cells that are lent for that kind.
pub figure_fine : (lent : Kind → Sizes) → Gives (λ (f : Figure). Fine f.kind (lent f.kind) f.mesh) (File.figure lent)
unfolding File.figure
figure_fine lent =
    gives_then File.byte _ (gives_any File.byte)
    (λ v u.
    gives_then (File.judged 1 _ v) _ (gives_any _)
    (λ v' u'.
    gives_then File.kind_field _ (gives_any File.kind_field)
    (λ kind u''.
    gives_then (File.lists kind (lent kind)) _ (lists_fine kind (lent kind))
    (λ m fine. gives_end (record { kind = kind; mesh = m }) fine))))
