-- What a number form has to do with good points so that every pass keeps coordinates good; and that every pass does then, of either kind, whatever the lists are.
-- Assumes nothing.
use mathlib.Core.Path.{◌≡◌, refl, sym, ap, ◌∙◌, subst}
use mathlib.Core.Bool.{Bool, true, false, cond, ◌&&◌}
use mathlib.Core.List.{List, [], ◌∷◌, map}
use Prim.Native.Nat.{ℕ, zero, suc, ◌<◌}
use native.Mathlib.Nat.{zero-lt-suc}
use native.Mathlib.Omega.{arith}
use lib.Dec.{eqb}
use lib.ListN.{length, drop, length-map}
use Rattle.geom.specs.Book.{Kind, cubes, simplices, Pair, Book}
use Rattle.geom.specs.Elements.{Element, Lists}
use Rattle.geom.specs.Passes.{pass}
use Rattle.geom.specs.Form.{Form}
use Rattle.geom.specs.Vertices.{position_in, midpoint_in, pair_in}
use Rattle.geom.specs.Mesh.{MeshIn}
use Rattle.geom.specs.Smoothing.{with_midpoints_in, GatheredIn, nothing, ignored, update, to_corners, gather, gathered_in, replaced, moved_in, settled_in, settled_from_in, smoothed_in}
use Rattle.geom.specs.Refinement.{StateIn, pass_over, state_after, went}
use Rattle.geom.specs.Refusals.{good_position_in}
use Rattle.geom.specs.Soundness.{Axis, on}
use Rattle.geom.specs.Between.{All}
use Rattle.geom.proofs.Lists.{all_append, all_of_map, all_each, and_true_left, and_true_right}

-- a point that passes refusal 6's test
abbrev pub GoodAt : (F : Form) → F.Point → Type 0
GoodAt F p = good_position_in F p ≡ true

-- what a rule gives of good corners, one at least
abbrev pub Gives : (F : Form) → (F.Sum → Type 0) → (List F.Point → F.Sum) → Type 0
Gives F Given rule = (ps : List F.Point) → 0 < length ps → All (GoodAt F) ps → Given (rule ps)

pub record Steady (F : Form) : Type 1 where
  -- on an axis the midpoint is made of the ends on that axis
  pub by_axis :
      (i : Axis) (p q a b : F.Point) → on F.points i a ≡ on F.points i p → on F.points i b ≡ on F.points i q
      → on F.points i (F.midpoint a b) ≡ on F.points i (F.midpoint p q)
  pub origin : GoodAt F F.origin
  pub midpoint : (p q : F.Point) → GoodAt F p → GoodAt F q → GoodAt F (F.midpoint p q)
  -- what an element gives, and what n of them add up to
  pub Given : F.Sum → Type 0
  pub Added : ℕ → F.Sum → Type 0
  pub none : Added 0 F.none
  pub add : (n : ℕ) (s p : F.Sum) → Added n s → Given p → Added (suc n) (F.add s p)
  pub mean : (n : ℕ) (s : F.Sum) → 0 < n → Added n s → GoodAt F (F.mean s n)
  pub segment : Gives F Given F.segment
  pub triangle : Gives F Given F.triangle
  pub tetrahedron : Gives F Given F.tetrahedron
  pub line : Gives F Given F.line
  pub square : Gives F Given F.square
  pub cube : Gives F Given F.cube

-- a vertex at a good point
abbrev pub Placed : (F : Form) → F.Vertex → Type 0
Placed F v = GoodAt F (F.position v)

either : {A : Type 0} (test : A → Bool) (b : Bool) (x y : A) → test x ≡ true → test y ≡ true → test (cond b x y) ≡ true
either test true x y h k = h
either test false x y h k = k

some_of : (n : ℕ) → eqb n 0 ≡ false → 0 < n
some_of zero e = let z : ◌≡◌ {A = ℕ} 0 1 = cc in absurd (omega arith)
some_of (suc n) e = zero-lt-suc n

-- of a good point each coordinate is good, and a point is good whose coordinates are
record Axes (F : Form) (p : F.Point) : Type 0 where
  on_x : F.good (F.points.x p) ≡ true
  on_y : F.good (F.points.y p) ≡ true
  on_z : F.good (F.points.z p) ≡ true
  on_w : F.good (F.points.w p) ≡ true

axes : (F : Form) (p : F.Point) → GoodAt F p → Axes F p
unfolding good_position_in
axes F p h =
    let x = F.good (F.points.x p) in
    let y = F.good (F.points.y p) in
    let z = F.good (F.points.z p) in
    let w = F.good (F.points.w p) in
    let xyz = and_true_left (x && y && z) w h in
    let xy = and_true_left (x && y) z xyz in
    record { on_x = and_true_left x y xy; on_y = and_true_right x y xy; on_z = and_true_right (x && y) z xyz; on_w = and_true_right (x && y && z) w h }

four_good :
    (F : Form) (a b c d : F.Coordinate) → F.good a ≡ true → F.good b ≡ true → F.good c ≡ true → F.good d ≡ true → GoodAt F (F.points.four a b c d)
unfolding good_position_in
four_good F a b c d h k l m =
    let e = F.points.axes_of_lem a b c d in
    rw (e.0, e.1, e.2, e.3, h, k, l, m) refl

module _ {F : Form} (steady : Steady F) where
  -- ---- what a vertex gathers

  abbrev Gathers : GatheredIn F → Type 0
  Gathers g = steady.Added g.count g.sum

  pub placed_at : (vs : List F.Vertex) (i : ℕ) → All (Placed F) vs → GoodAt F (position_in F vs i)
  placed_at [] i a = ap (good_position_in F) (F.parts_of F.origin 0 0 0).0 ∙ steady.origin
  placed_at (v ∷ vs) zero a = a.0
  placed_at (v ∷ vs) (suc i) a = placed_at vs i a.1

  update_adds : (rank : ℕ) (p : F.Sum) (g : GatheredIn F) → steady.Given p → Gathers g → Gathers (update rank p g)
  unfolding update
  update_adds rank p g h k = go (ignored rank g)
    where
      go : (b : Bool) → Gathers (cond b g (record { sum = F.add g.sum p; count = suc g.count; touch = rank }))
      go true = k
      go false = steady.add g.count g.sum p k h

  corners_add : (rank : ℕ) (p : F.Sum) (v : ℕ) (cs : List ℕ) (g : GatheredIn F) → (0 < length cs → steady.Given p) → Gathers g → Gathers (to_corners rank p v cs g)
  unfolding to_corners
  corners_add rank p v [] g h k = k
  corners_add rank p v (c ∷ cs) g h k =
      corners_add rank p v cs (cond (eqb c v) (update rank p g) g) (λ l. h (zero-lt-suc _)) (go (eqb c v))
    where
      go : (b : Bool) → Gathers (cond b (update rank p g) g)
      go true = update_adds rank p g (h (zero-lt-suc _)) k
      go false = k

  elements_add :
      (rank : ℕ) (rule : List F.Point → F.Sum) (vs : List F.Vertex) (v : ℕ) (es : List Element) (g : GatheredIn F)
      → Gives F steady.Given rule → All (Placed F) vs → Gathers g → Gathers (gather rank rule vs v es g)
  unfolding gather
  elements_add rank rule vs v [] g r a k = k
  elements_add rank rule vs v (e ∷ es) g r a k =
      let ps = map (position_in F vs) e.corners in
      elements_add rank rule vs v es (to_corners rank (rule ps) v e.corners g) r a
      (corners_add rank (rule ps) v e.corners g
      (λ l. r ps (subst (λ (n : ℕ). 0 < n) (sym (length-map e.corners (position_in F vs))) l) (all_of_map (GoodAt F) (position_in F vs) e.corners (all_each (λ (c : ℕ). placed_at vs c a) e.corners))) k)

  gathered_adds : (kind : Kind) (l : Lists) (vs : List F.Vertex) (v : ℕ) → All (Placed F) vs → Gathers (gathered_in F kind l vs v)
  unfolding gathered_in nothing
  gathered_adds simplices l vs v a =
      elements_add 1 F.segment vs v l.lines _ steady.segment a
      (elements_add 1 F.triangle vs v l.areas _ steady.triangle a
      (elements_add 1 F.tetrahedron vs v l.volumes nothing steady.tetrahedron a steady.none))
  gathered_adds cubes l vs v a =
      elements_add 3 F.cube vs v l.volumes _ steady.cube a
      (elements_add 2 F.square vs v l.areas _ steady.square a
      (elements_add 1 F.line vs v l.lines nothing steady.line a steady.none))

  -- ---- what becomes of a vertex

  moved_good : (time : Bool) (v : F.Vertex) (p : F.Point) → Placed F v → GoodAt F p → GoodAt F (moved_in F time v p)
  unfolding moved_in
  moved_good time v p h k =
      let old = axes F (F.position v) h in
      let new = axes F p k in
      four_good F _ _ _ _
      (either F.good (replaced time (F.flags v) 0) _ _ new.on_x old.on_x)
      (either F.good (replaced time (F.flags v) 1) _ _ new.on_y old.on_y)
      (either F.good (replaced time (F.flags v) 2) _ _ new.on_z old.on_z)
      (either F.good (replaced time (F.flags v) 3) _ _ new.on_w old.on_w)

  settled_placed : (time : Bool) (v : F.Vertex) (g : GatheredIn F) → Placed F v → Gathers g → Placed F (settled_in F time v g)
  unfolding settled_in
  settled_placed time v g h k = go (eqb g.count 0) refl
    where
      p : F.Point
      p = F.mean g.sum g.count

      go : (b : Bool) → eqb g.count 0 ≡ b → Placed F (cond b v (F.vertex (moved_in F time v p) (F.flags v) (F.tag v) (F.k v)))
      go true e = h
      go false e =
          ap (good_position_in F) (F.parts_of _ _ _ _).0
          ∙ moved_good time v p h (steady.mean g.count g.sum (some_of g.count e) k)

  settled_all :
      (kind : Kind) (time : Bool) (l : Lists) (vs : List F.Vertex) (n : ℕ) (us : List F.Vertex) → All (Placed F) vs → All (Placed F) us
      → All (Placed F) (settled_from_in F kind time l vs n us)
  unfolding settled_from_in
  settled_all kind time l vs n [] a b = tt
  settled_all kind time l vs n (u ∷ us) a b =
      (settled_placed time u (gathered_in F kind l vs n) b.0 (gathered_adds kind l vs n a), settled_all kind time l vs (suc n) us a b.1)

  -- ---- a pass, and passes

  pair_placed : (vs : List F.Vertex) (q : Pair) → All (Placed F) vs → Placed F (pair_in F vs q)
  unfolding pair_in midpoint_in
  pair_placed vs q a =
      ap (good_position_in F) (F.parts_of _ _ _ _).0
      ∙ steady.midpoint (position_in F vs q.first) (position_in F vs q.second) (placed_at vs q.first a) (placed_at vs q.second a)

  with_placed : (vs : List F.Vertex) (new : Book) → All (Placed F) vs → All (Placed F) (with_midpoints_in F vs new)
  unfolding with_midpoints_in
  with_placed vs new a =
      all_append (Placed F) vs (map (pair_in F vs) new) a (all_of_map (Placed F) (pair_in F vs) new (all_each (λ (q : Pair). pair_placed vs q a) new))

  pass_placed :
      (kind : Kind) (time : Bool) (base : ℕ) (s : StateIn F) → All (Placed F) s.mesh.vertices → All (Placed F) (pass_over kind time base s).mesh.vertices
  unfolding pass_over smoothed_in
  pass_placed kind time base s a =
      let after = pass kind base (went s) in
      let new = drop (length s.book) after.book in
      let vs = with_midpoints_in F s.mesh.vertices new in
      let b = with_placed s.mesh.vertices new a in
      settled_all kind time after.lists vs 0 vs b b

  -- Every coordinate is good after any number of passes, where those handed in are.
  pub placed_after :
      (kind : Kind) (time : Bool) (mesh : MeshIn F) (n : ℕ) → All (Placed F) mesh.vertices → All (Placed F) (state_after kind time mesh n).mesh.vertices
  unfolding state_after
  placed_after kind time mesh zero a = a
  placed_after kind time mesh (suc n) a = pass_placed kind time (length mesh.vertices) (state_after kind time mesh n) (placed_after kind time mesh n a)
