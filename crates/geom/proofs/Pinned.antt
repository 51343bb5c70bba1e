-- What a pass leaves alone: the flags, tag and k of every vertex, each coordinate whose axis is flagged, and w without smooth_time. A midpoint is flagged where both
-- ends are, on such an axis it lies between them, and it has their strand, all at every depth. And every tag, with its k, was one handed in.
-- Assumes nothing.
use mathlib.Core.Path.{◌≡◌, refl, sym, ap, ap₂, ◌∙◌, subst}
use mathlib.Core.Bool.{Bool, true, false, cond, not, ◌&&◌}
use mathlib.Core.Logic.{⊎_elim}
use mathlib.Core.List.{List, [], ◌∷◌, ◌++◌, map}
use Prim.Native.Nat.{ℕ, zero, suc, ◌+◌, ◌-◌, ◌*◌, ◌/◌, ◌%◌, ◌^◌, ◌≤◌, ◌<◌, min}
use native.Mathlib.Nat.{add-zero}
use native.Mathlib.Decide.{dec_lt}
use native.Mathlib.Omega.{arith}
use lib.Bits.{bit_and, and_shr, and_step}
use lib.Dec.{eqb}
use lib.ListN.{length, drop, length-append, length-map, get_or-append, get_or-map}
use lib.Seq.{get_or-append-add, drop_at}
use Rattle.geom.specs.Book.{Kind, Pair, pair, Book}
use Rattle.geom.specs.Elements.{Lists}
use Rattle.geom.specs.Passes.{pass}
use Rattle.geom.specs.Form.{Form}
use Rattle.geom.specs.Mesh.{MeshIn}
use Rattle.geom.specs.Vertices.{flagged, strand_in, vertex_in, midpoint_in, pair_in}
use Rattle.geom.specs.Smoothing.{with_midpoints_in, GatheredIn, gathered_in, replaced, moved_in, settled_in, settled_from_in, smoothed_in}
use Rattle.geom.specs.Refinement.{StateIn, pass_over, state_after, went}
use Rattle.geom.specs.Soundness.{Axis, x_axis, y_axis, z_axis, w_axis, bit, on, Pinned, SameStrand, Kept, Middle, Inherits, entry}
use Rattle.geom.specs.Between.{All, Well, Low, Rising, Good}
use Rattle.geom.proofs.Lists.{and_false}
use Rattle.geom.proofs.Rows.{get_d_any}
use Rattle.geom.proofs.Books.{Grown}
use Rattle.geom.proofs.Well.{pass_grows}
use Rattle.geom.proofs.Steps.{passes_good}
use Rattle.geom.proofs.Left.{went_after}
use Rattle.geom.proofs.Steady.{Steady}
use Rattle.geom.proofs.Joins.{strand_self, strand_then, strand_back, strand_stays, one_end, one_colour}

-- ---- what stays of a vertex

kept_self : (F : Form) (time : Bool) (a : F.Vertex) → Kept F time a a
kept_self F time a = record { flags = refl; strand = strand_self F a; pinned = λ i f. refl; moment = λ e. refl }

module _ {F : Form} {time : Bool} {a b : F.Vertex} (i : Axis) (s : Kept F time a b) where
  kept_pinned : Pinned F i a → Pinned F i b
  kept_pinned f = ap (λ (n : ℕ). flagged n (bit i)) s.flags ∙ f

  pinned_kept : Pinned F i b → Pinned F i a
  pinned_kept f = ap (λ (n : ℕ). flagged n (bit i)) (sym s.flags) ∙ f

kept_then : {F : Form} {time : Bool} {a b c : F.Vertex} → Kept F time a b → Kept F time b c → Kept F time a c
kept_then s t =
    record {
      flags = t.flags ∙ s.flags;
      strand = strand_then s.strand t.strand;
      pinned = λ i f. t.pinned i (kept_pinned i s f) ∙ s.pinned i f;
      moment = λ e. t.moment e ∙ s.moment e;
    }

not_replaced : (time : Bool) (flags i : ℕ) → flagged flags i ≡ true → replaced time flags i ≡ false
unfolding replaced
not_replaced time flags i e = rw e refl

no_time : (time : Bool) (flags : ℕ) → time ≡ false → replaced time flags 3 ≡ false
unfolding replaced
no_time time flags e = rw e (and_false (not (flagged flags 3)))

module _ (F : Form) where
  settled_kept : (time : Bool) (v : F.Vertex) (g : GatheredIn F) → Kept F time v (settled_in F time v g)
  unfolding settled_in moved_in
  settled_kept time v g = go (eqb g.count 0)
    where
      p : F.Point
      p = F.mean g.sum g.count

      old : F.Point
      old = F.position v

      moved : F.Point
      moved = moved_in F time v p

      -- an axis that isn't replaced
      pin : (i : Axis) → replaced time (F.flags v) (bit i) ≡ false → on F.points i moved ≡ on F.points i old
      pin x_axis f = (F.points.axes_of_lem _ _ _ _).0 ∙ ap (λ (b : Bool). cond b (F.points.x p) (F.points.x old)) f
      pin y_axis f = (F.points.axes_of_lem _ _ _ _).1 ∙ ap (λ (b : Bool). cond b (F.points.y p) (F.points.y old)) f
      pin z_axis f = (F.points.axes_of_lem _ _ _ _).2 ∙ ap (λ (b : Bool). cond b (F.points.z p) (F.points.z old)) f
      pin w_axis f = (F.points.axes_of_lem _ _ _ _).3 ∙ ap (λ (b : Bool). cond b (F.points.w p) (F.points.w old)) f

      go : (b : Bool) → Kept F time v (cond b v (F.vertex moved (F.flags v) (F.tag v) (F.k v)))
      go true = kept_self F time v
      go false =
          let parts = F.parts_of moved (F.flags v) (F.tag v) (F.k v) in
          record {
            flags = parts.1;
            strand = record { tag = parts.2; k = parts.3 };
            pinned = λ i f. ap (on F.points i) parts.0 ∙ pin i (not_replaced time (F.flags v) (bit i) f);
            moment = λ e. ap F.points.w parts.0 ∙ pin w_axis (no_time time (F.flags v) e);
          }

  -- ---- the vertex with a number, after a pass

  settled_at :
      (kind : Kind) (time : Bool) (l : Lists) (vs : List F.Vertex) (n : ℕ) (us : List F.Vertex) (i : ℕ) → i < length us
      → vertex_in F (settled_from_in F kind time l vs n us) i ≡ settled_in F time (vertex_in F us i) (gathered_in F kind l vs (n + i))
  unfolding settled_from_in
  settled_at kind time l vs n [] i h = absurd (omega arith)
  settled_at kind time l vs n (u ∷ us) zero h = ap (λ (m : ℕ). settled_in F time u (gathered_in F kind l vs m)) (sym (add-zero n))
  settled_at kind time l vs n (u ∷ us) (suc i) h =
      let e : suc n + i ≡ n + suc i = omega arith in
      settled_at kind time l vs (suc n) us i (omega arith) ∙ ap (λ (m : ℕ). settled_in F time (vertex_in F us i) (gathered_in F kind l vs m)) e

  length_smoothed : (kind : Kind) (time : Bool) (l : Lists) (vs : List F.Vertex) → length (smoothed_in F kind time l vs) ≡ length vs
  unfolding smoothed_in settled_from_in
  length_smoothed kind time l vs = go 0 vs
    where
      go : (n : ℕ) (us : List F.Vertex) → length (settled_from_in F kind time l vs n us) ≡ length us
      go n [] = refl
      go n (u ∷ us) = ap suc (go (suc n) us)

  length_with : (vs : List F.Vertex) (new : Book) → length (with_midpoints_in F vs new) ≡ length vs + length new
  unfolding with_midpoints_in
  length_with vs new = length-append vs (map (pair_in F vs) new) ∙ ap (λ (n : ℕ). length vs + n) (length-map new (pair_in F vs))

  smoothed_kept :
      (kind : Kind) (time : Bool) (l : Lists) (vs : List F.Vertex) (i : ℕ) → i < length vs
      → Kept F time (vertex_in F vs i) (vertex_in F (smoothed_in F kind time l vs) i)
  unfolding smoothed_in
  smoothed_kept kind time l vs i h =
      subst (Kept F time (vertex_in F vs i)) (sym (settled_at kind time l vs 0 vs i h)) (settled_kept time (vertex_in F vs i) (gathered_in F kind l vs (0 + i)))

  old_at : (vs : List F.Vertex) (new : Book) (i : ℕ) → i < length vs → vertex_in F (with_midpoints_in F vs new) i ≡ vertex_in F vs i
  unfolding with_midpoints_in
  old_at vs new i h = get_or-append vs (map (pair_in F vs) new) _ i h

  new_at :
      (vs : List F.Vertex) (new : Book) (j : ℕ) → j < length new
      → vertex_in F (with_midpoints_in F vs new) (length vs + j) ≡ pair_in F vs (entry new j)
  unfolding with_midpoints_in
  new_at vs new j h =
      let made = map (pair_in F vs) new in
      get_or-append-add vs made j _
      ∙ get_d_any made j _ (pair_in F vs (pair 0 0)) (omega (arith, h, length-map new (pair_in F vs)))
      ∙ get_or-map (pair_in F vs) new j (pair 0 0)

-- what a pass adds to the book
abbrev added : {F : Form} → Kind → ℕ → StateIn F → Book
added kind base s = drop (length s.book) (pass kind base (went s)).book

module _ {F : Form} (kind : Kind) (time : Bool) (base : ℕ) (s : StateIn F) where
  abbrev before : List F.Vertex
  before = s.mesh.vertices

  abbrev after : List F.Vertex
  after = (pass_over kind time base s).mesh.vertices

  length_pass : length after ≡ length before + length (added kind base s)
  unfolding pass_over
  length_pass = length_smoothed F kind time _ (with_midpoints_in F before (added kind base s)) ∙ length_with F before (added kind base s)

  pass_old : (i : ℕ) → i < length before → Kept F time (vertex_in F before i) (vertex_in F after i)
  unfolding pass_over
  pass_old i h =
      let new = added kind base s in
      subst (λ (v : F.Vertex). Kept F time v (vertex_in F after i)) (old_at F before new i h)
      (smoothed_kept F kind time (pass kind base (went s)).lists (with_midpoints_in F before new) i (omega (arith, length_with F before new)))

  pass_new :
      (j : ℕ) → j < length (added kind base s)
      → Kept F time (pair_in F before (entry (added kind base s) j)) (vertex_in F after (length before + j))
  unfolding pass_over
  pass_new j h =
      let new = added kind base s in
      subst (λ (v : F.Vertex). Kept F time v (vertex_in F after (length before + j))) (new_at F before new j h)
      (smoothed_kept F kind time (pass kind base (went s)).lists (with_midpoints_in F before new) (length before + j) (omega (arith, length_with F before new)))

-- ---- any number of passes

module _ {F : Form} (kind : Kind) (time : Bool) (mesh : MeshIn F) where
  abbrev vertices : ℕ → List F.Vertex
  vertices n = (state_after kind time mesh n).mesh.vertices

  pub never_fewer : (n : ℕ) → length mesh.vertices ≤ length (vertices n)
  unfolding state_after
  never_fewer zero = omega arith
  never_fewer (suc n) = omega (arith, never_fewer n, length_pass kind time (length mesh.vertices) (state_after kind time mesh n))

  -- a vertex handed in
  pub kept_after : (n v : ℕ) → v < length mesh.vertices → Kept F time (vertex_in F mesh.vertices v) (vertex_in F (vertices n) v)
  unfolding state_after
  kept_after zero v h = kept_self F time _
  kept_after (suc n) v h =
      kept_then (kept_after n v h) (pass_old kind time (length mesh.vertices) (state_after kind time mesh n) v (omega (arith, never_fewer n)))

-- ---- midpoints

-- both bits on, and no other way
and_bits : (c a b : ℕ) → a < 2 → b < 2 → eqb ((c * 2 + min a b) % 2) 1 ≡ (eqb a 1 && eqb b 1)
and_bits c zero zero h k = let e : (c * 2 + 0) % 2 ≡ 0 = omega arith in ap (λ (n : ℕ). eqb n 1) e
and_bits c zero (suc zero) h k = let e : (c * 2 + 0) % 2 ≡ 0 = omega arith in ap (λ (n : ℕ). eqb n 1) e
and_bits c (suc zero) zero h k = let e : (c * 2 + 0) % 2 ≡ 0 = omega arith in ap (λ (n : ℕ). eqb n 1) e
and_bits c (suc zero) (suc zero) h k = let e : (c * 2 + 1) % 2 ≡ 1 = omega arith in ap (λ (n : ℕ). eqb n 1) e
and_bits c (suc (suc a)) b h k = absurd (omega arith)
and_bits c zero (suc (suc b)) h k = absurd (omega arith)
and_bits c (suc zero) (suc (suc b)) h k = absurd (omega arith)

-- flags on where both are on
and_flagged : (x y i : ℕ) → flagged (bit_and x y) i ≡ (flagged x i && flagged y i)
unfolding flagged
and_flagged x y i =
    let p = x / 2 ^ i in
    let q = y / 2 ^ i in
    ap (λ (n : ℕ). eqb (n % 2) 1) (and_shr x y i ∙ and_step p q) ∙ and_bits (bit_and (p / 2) (q / 2)) (p % 2) (q % 2) (below p) (below q)
  where
    below : (n : ℕ) → n % 2 < 2
    below n = omega arith

made_middle : (F : Form) (vs : List F.Vertex) (q : Pair) → Middle F (vertex_in F vs q.first) (vertex_in F vs q.second) (pair_in F vs q)
unfolding pair_in midpoint_in
made_middle F vs q =
    let parts = F.parts_of _ _ _ _ in
    record { flags = parts.1; strand = record { tag = parts.2; k = parts.3 }; pinned = λ i f g. ap (on F.points i) parts.0 }

middle_pinned : {F : Form} {a b v : F.Vertex} (i : Axis) → Middle F a b v → Pinned F i a → Pinned F i b → Pinned F i v
middle_pinned {F} {a} {b} i m f g = ap (λ (n : ℕ). flagged n (bit i)) m.flags ∙ and_flagged (F.flags a) (F.flags b) (bit i) ∙ ap₂ ◌&&◌ f g

-- smoothing moves no end on an axis that both have flagged
middle_stays :
    {F : Form} → Steady F → {time : Bool} {a b v a' b' v' : F.Vertex} → Kept F time a a' → Kept F time b b' → Kept F time v v' → Middle F a b v
    → Middle F a' b' v'
middle_stays {F} steady {time} {a} {b} {v} {a'} {b'} {v'} p q r m =
    record {
      flags = r.flags ∙ m.flags ∙ ap₂ bit_and (sym p.flags) (sym q.flags);
      strand = strand_then (strand_back (strand_stays p.strand q.strand)) (strand_then m.strand r.strand);
      pinned = λ i f g.
          let f' = pinned_kept i p f in
          let g' = pinned_kept i q g in
          r.pinned i (middle_pinned i m f' g') ∙ m.pinned i f' g'
          ∙ sym (steady.by_axis i (F.position a) (F.position b) (F.position a') (F.position b') (p.pinned i f') (q.pinned i g'));
    }

rising_at : (b : ℕ) (book : Book) (e : ℕ) → Rising b book → e < length book → Low (b + e) (entry book e)
rising_at b [] e r h = absurd (omega arith)
rising_at b (q ∷ book) zero r h = record { start = omega (arith, r.0.start); stop = omega (arith, r.0.stop) }
rising_at b (q ∷ book) (suc e) r h =
    let l = rising_at (suc b) book e r.1 (omega arith) in
    record { start = omega (arith, l.start); stop = omega (arith, l.stop) }

low_at : (m : ℕ) (book : Book) (j : ℕ) → All (Low m) book → j < length book → Low m (entry book j)
low_at m [] j a h = absurd (omega arith)
low_at m (q ∷ book) zero a h = a.0
low_at m (q ∷ book) (suc j) a h = low_at m book j a.1 (omega arith)

past : (a b : ℕ) → (a < b → ⊥) → b + (a - b) ≡ a
past a b n = omega arith

module _ {F : Form} (kind : Kind) (time : Bool) (mesh : MeshIn F) (well : Well kind (length mesh.vertices) mesh.lists) where
  abbrev base : ℕ
  base = length mesh.vertices

  abbrev state : ℕ → StateIn F
  state n = state_after kind time mesh n

  pub good_after : (n : ℕ) → Good kind base (went (state n))
  good_after n = subst (Good kind base) (sym (went_after kind time mesh n)) (passes_good kind base mesh.lists well n)

  grows : (n : ℕ) → Grown base (base + length (state n).book) (state n).book (pass kind base (went (state n))).book
  grows n = pass_grows kind base (went (state n)) (good_after n)

  added_is : (n : ℕ) → added kind base (state n) ≡ (grows n).more
  added_is n = ap (λ (b : Book). drop (length (state n).book) b) (grows n).is ∙ drop_at (state n).book (grows n).more (length (state n).book) refl

  -- each entry of the book is a vertex
  pub counted : (n : ℕ) → length (state n).mesh.vertices ≡ base + length (state n).book
  unfolding state_after pass_over
  counted zero = sym (add-zero base)
  counted (suc n) =
      length_pass kind time base (state n)
      ∙ omega (arith, counted n, ap length (added_is n), ap length (grows n).is, length-append (state n).book (grows n).more)

  -- what a pass adds are pairs of vertices before it
  added_low : (n j : ℕ) → j < length (added kind base (state n)) → Low (length (state n).mesh.vertices) (entry (added kind base (state n)) j)
  added_low n j h =
      rw (counted n)
      (subst (λ (b : Book). Low (base + length (state n).book) (entry b j)) (sym (added_is n))
      (low_at (base + length (state n).book) (grows n).more j (grows n).low (omega (arith, h, ap length (added_is n)))))

  -- every midpoint, at every depth from that at which it was made
  pub middle_after :
      Steady F → (n e : ℕ) → e < length (state n).book
      → let vs = (state n).mesh.vertices in
      let q = entry (state n).book e in
      Middle F (vertex_in F vs q.first) (vertex_in F vs q.second) (vertex_in F vs (base + e))
  unfolding state_after pass_over
  middle_after steady zero e h = absurd (omega arith)
  middle_after steady (suc n) e h = go (middle_after steady n e) (dec_lt e (length book))
    where
      s : StateIn F
      s = state n

      vs : List F.Vertex
      vs = s.mesh.vertices

      us : List F.Vertex
      us = (pass_over kind time base s).mesh.vertices

      book : Book
      book = s.book

      later : Book
      later = (pass kind base (went s)).book

      new : Book
      new = added kind base s

      later_is : later ≡ book ++ new
      later_is = (grows n).is ∙ ap (λ (b : Book). book ++ b) (sym (added_is n))

      many : length vs ≡ base + length book
      many = counted n

      old : (i : ℕ) → i < length vs → Kept F time (vertex_in F vs i) (vertex_in F us i)
      old i l = pass_old kind time base s i l

      Goal : Pair → ℕ → Type 0
      Goal q v = Middle F (vertex_in F us q.first) (vertex_in F us q.second) (vertex_in F us v)

      go :
          (e < length book → Middle F (vertex_in F vs (entry book e).first) (vertex_in F vs (entry book e).second) (vertex_in F vs (base + e)))
          → Dec (e < length book) → Goal (entry later e) (base + e)
      go before (yes l) =
          let q = entry book e in
          let low = rising_at base book e (good_after n).rising l in
          let same : entry later e ≡ q = ap (λ (b : Book). entry b e) later_is ∙ get_or-append book new (pair 0 0) e l in
          subst (λ (x : Pair). Goal x (base + e)) (sym same)
          (middle_stays steady (old q.first (omega (arith, low.start, many))) (old q.second (omega (arith, low.stop, many))) (old (base + e) (omega (arith, many))) (before l))
      go before (no f) =
          let j = e - length book in
          let e_is : length book + j ≡ e = past e (length book) f in
          let at_is : length vs + j ≡ base + e = omega (arith, many, e_is) in
          let j_new : j < length new = omega (arith, e_is, h, ap length later_is, length-append book new) in
          let q = entry new j in
          let low = added_low n j j_new in
          let same : entry later e ≡ q = ap (λ (b : Book). entry b e) later_is ∙ ap (entry (book ++ new)) (sym e_is) ∙ get_or-append-add book new j (pair 0 0) in
          let made : Kept F time (pair_in F vs q) (vertex_in F us (base + e)) =
          subst (λ (i : ℕ). Kept F time (pair_in F vs q) (vertex_in F us i)) at_is (pass_new kind time base s j j_new) in
          subst (λ (x : Pair). Goal x (base + e)) (sym same)
          (middle_stays steady (old q.first low.start) (old q.second low.stop) made (made_middle F vs q))

  -- a join has one colour
  pub turned_after :
      Steady F → (n e : ℕ) → e < length (state n).book
      → let vs = (state n).mesh.vertices in
      let q = entry (state n).book e in
      (a b v : F.Vertex) → SameStrand F (vertex_in F vs q.first) a → SameStrand F (vertex_in F vs q.second) b → Middle F b a v
      → (F.k (vertex_in F vs q.first) ≡ F.k (vertex_in F vs q.second) → ⊥)
      → SameStrand F (vertex_in F vs (base + e)) v
  turned_after steady n e h a b v p q m differ = one_colour (middle_after steady n e h) p q m differ

  -- ---- tags

  -- what has the strand of a vertex has the tag and k that it inherits
  inherits_then : {a b : F.Vertex} → Inherits F mesh.vertices a → SameStrand F a b → Inherits F mesh.vertices b
  inherits_then h p = record { number = h.number; below = h.below; strand = strand_then h.strand p }

  pair_tagged :
      (vs : List F.Vertex) (q : Pair) → Inherits F mesh.vertices (vertex_in F vs q.first) → Inherits F mesh.vertices (vertex_in F vs q.second)
      → Inherits F mesh.vertices (pair_in F vs q)
  pair_tagged vs q f g =
      let a = vertex_in F vs q.first in
      let b = vertex_in F vs q.second in
      let p = (made_middle F vs q).strand in
      ⊎_elim
      (λ (e : strand_in F a b ≡ a). inherits_then f (rw e at p))
      (λ (e : strand_in F a b ≡ b). inherits_then g (rw e at p))
      (one_end F a b)

  pub tagged_after : (n i : ℕ) → i < length (state n).mesh.vertices → Inherits F mesh.vertices (vertex_in F (state n).mesh.vertices i)
  unfolding state_after pass_over
  tagged_after zero i h = record { number = i; below = h; strand = strand_self F _ }
  tagged_after (suc n) i h = go (tagged_after n) (dec_lt i (length vs))
    where
      s : StateIn F
      s = state n

      vs : List F.Vertex
      vs = s.mesh.vertices

      us : List F.Vertex
      us = (pass_over kind time base s).mesh.vertices

      go : ((j : ℕ) → j < length vs → Inherits F mesh.vertices (vertex_in F vs j)) → Dec (i < length vs) → Inherits F mesh.vertices (vertex_in F us i)
      go before (yes l) = inherits_then (before i l) (pass_old kind time base s i l).strand
      go before (no f) =
          let j = i - length vs in
          let i_is : length vs + j ≡ i = past i (length vs) f in
          let j_new : j < length (added kind base s) = omega (arith, i_is, h, length_pass kind time base s) in
          let q = entry (added kind base s) j in
          let low = added_low n j j_new in
          subst (λ (x : ℕ). Inherits F mesh.vertices (vertex_in F us x)) i_is
          (inherits_then (pair_tagged vs q (before q.first low.start) (before q.second low.stop)) (pass_new kind time base s j j_new).strand)
