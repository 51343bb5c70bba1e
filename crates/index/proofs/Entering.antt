-- A new entry: it hangs from the place where its key's way ended, and every way to an entry stays as it was.
-- Assumes nothing.
use mathlib.Core.Path.{◌≡◌, refl, sym, ◌∙◌, ap, subst}
use mathlib.Core.Bool.{Bool, cond}
use mathlib.Core.Logic.{◌⊎◌, ◌≢◌, inl, inr, ⊎_elim, by_cases}
use mathlib.Core.List.{List}
use Prim.Native.Nat.{ℕ, zero, suc, ◌+◌, ◌*◌, ◌/◌, ◌<◌, ◌≤◌}
use native.Mathlib.Omega.{arith}
use native.Mathlib.Nat.{eq-or-lt_of_le}
use native.Mathlib.Decide.{ℕ_discrete}
use lib.Dec.{eqb}
use lib.ListN.{length, get_or}
use borrow.Author.Tests.{eq-eqb, ne_eqb}
use Rattle.index.specs.Keys.{bit_of, Agree}
use Rattle.index.specs.Cells.{NONE, Layout, Sound, word_at, cells, key_at, keys_of, bucket_of, bucket_at}
use Rattle.index.specs.Trees.{root_place, place, walk, Leads, Below, Linked, Open, bare, under}
use Rattle.index.specs.Answers.{Free, Entered}
use Rattle.index.proofs.Bits.{bit_below}
use Rattle.index.proofs.Rows.{row_before, lent_all, same_row, words_same, bucket_below}
use Rattle.index.proofs.Ways.{place_on}

-- the words after a new entry
pub record Wrote (L : Layout) (words : List ℕ) (made : ℕ) (q : List ℕ) (at : ℕ) (after : List ℕ) : Type 0 where
  pub long : length after ≡ length words
  pub key : key_at L after made ≡ q
  pub sides : (side : ℕ) → side < 2 → word_at L after made (L.key + side) ≡ NONE
  pub link : get_or after at 0 ≡ made
  pub rows : (i : ℕ) → i < L.row * made → i ≢ at → get_or after i 0 ≡ get_or words i 0
  pub roots : (h : ℕ) → root_place L words h ≢ at → get_or after (root_place L words h) 0 ≡ get_or words (root_place L words h) 0

-- ── the open place ──

-- a link of a row that is made
pub record Side (L : Layout) (made at : ℕ) : Type 0 where
  pub entry : ℕ
  pub below : entry < made
  pub side : ℕ
  pub two : side < 2
  pub is : at ≡ L.row * entry + (L.key + side)

-- where a new link stands: in a row that is made, on a side, or in the first word of the key's bucket
pub open_at :
    {L : Layout} {words : List ℕ} {made at : ℕ} {q : List ℕ} → Open L words made q at
    → Side L made at ⊎ (at ≡ root_place L words (bucket_of L (cells L words) q))
unfolding place
open_at (bare w shut is) = inr is
open_at {L} {words} {made} {at} {q} (under {k = k} {p = p} r nil is) =
    inl (record { entry = p; below = r.below; side = bit_of q k; two = bit_below q k; is = is ∙ place_on L words q k p r.leads.ends })

-- a row's links stand before the row that comes after all
pub side_below : {L : Layout} → Sound L → {made at : ℕ} → Side L made at → at < L.row * made
side_below {L} s o = omega (arith, row_before L o.below, s.links, o.two, o.is)

pub open_long : {L : Layout} → Sound L → {words : List ℕ} {made at : ℕ} {q : List ℕ} → made < cells L words → Open L words made q at → at < length words
open_long {L} s {words} {made} {at} {q} l o =
    ⊎_elim
    (λ (t : Side L made at). omega (arith, side_below s t, row_before L l, lent_all L words))
    (λ (t : at ≡ root_place L words (bucket_of L (cells L words) q)). omega (arith, bucket_below L (cells L words) q (omega arith), lent_all L words))
    (open_at o)

-- a link below an entry that is made stands before all later rows
link_below : {L : Layout} → Sound L → {made : ℕ} (p side : ℕ) → p < made → side < 2 → L.row * p + (L.key + side) < L.row * made
link_below {L} s p side l m = omega (arith, row_before L l, s.links)

-- no link on a way to an entry stands at the open place
apart :
    {L : Layout} → Sound L → {words : List ℕ} {made at : ℕ} {q : List ℕ} → made < cells L words → Open L words made q at
    → (p : List ℕ) (k e : ℕ) → Leads L words made p k e → (j : ℕ) → j ≤ k → place L words p j ≢ at
unfolding place
apart {L} s {words} {made} {at} {q} l (bare w shut is) p k e f zero n t =
    let b : bucket_of L (cells L words) p ≡ bucket_of L (cells L words) q = omega arith in
    let r : walk L words p 0 ≡ walk L words q 0 = ap (λ (h : ℕ). get_or words (root_place L words h) 0) b in
    shut (omega (arith, f.within 0 (omega arith))) (ap (bucket_at L words) (sym r) ∙ f.home ∙ b)
apart {L} s {words} {made} {at} {q} l (bare w shut is) p k e f (suc j) n t =
    let c = link_below s (walk L words p j) (bit_of p j) (f.within j (omega arith)) (bit_below p j) in
    let d = row_before L l in
    omega arith
apart {L} s {words} {made} {at} {q} l (under {k = d} {p = r} g nil is) p k e f zero n t =
    let c = link_below s r (bit_of q d) g.below (bit_below q d) in
    let b = place_on L words q d r g.leads.ends in
    let z = row_before L l in
    omega arith
apart {L} s {words} {made} {at} {q} l (under {k = d} {p = r} g nil is) p k e f (suc j) n t =
    let c = f.within (suc j) n in
    let z : walk L words p (suc j) ≡ NONE = ap (λ (i : ℕ). get_or words i 0) (t ∙ is) ∙ nil in
    omega (arith, g.linked.few)

-- so a new entry leaves every way to an entry as it was
module _ (L : Layout) (s : Sound L) (words : List ℕ) (made : ℕ) (q : List ℕ) (at : ℕ) (after : List ℕ) (l : made < cells L words) (o : Open L words made q at) (e : Wrote L words made q at after) where
  from_place :
      (p : List ℕ) (k d : ℕ) → Leads L words made p k d → (j : ℕ) → j ≤ k → place L after p j ≡ place L words p j
      → walk L after p j ≡ walk L words p j
  unfolding place
  from_place p k d f zero n is = ap (λ (i : ℕ). get_or after i 0) is ∙ e.roots (bucket_of L (cells L words) p) (apart s l o p k d f zero n)
  from_place p k d f (suc j) n is =
      ap (λ (i : ℕ). get_or after i 0) is
      ∙ e.rows (place L words p (suc j)) (link_below s (walk L words p j) (bit_of p j) (f.within j (omega arith)) (bit_below p j)) (apart s l o p k d f (suc j) n)

  same_place : (p : List ℕ) (k d : ℕ) → Leads L words made p k d → (j : ℕ) → j ≤ k → place L after p j ≡ place L words p j
  unfolding place
  same_place p k d f zero n = ap (λ (n : ℕ). L.row * (n / (L.row + 2)) + 2 * bucket_of L (n / (L.row + 2)) p) e.long
  same_place p k d f (suc j) n =
      ap (λ (i : ℕ). L.row * i + (L.key + bit_of p j)) (from_place p k d f j (omega arith) (same_place p k d f j (omega arith)))

  same_walk : (p : List ℕ) (k d : ℕ) → Leads L words made p k d → (j : ℕ) → j ≤ k → walk L after p j ≡ walk L words p j
  same_walk p k d f j n = from_place p k d f j n (same_place p k d f j n)

  -- the keys stay
  key_word : (d i : ℕ) → d < made → i < L.key → word_at L after d i ≡ word_at L words d i
  key_word d i m n =
      e.rows (L.row * d + i) (omega (arith, row_before L m, s.links))
      (λ z.
      ⊎_elim
      (λ (t : Side L made at). off t (same_row L d t.entry (omega (arith, s.links)) (omega (arith, s.links, t.two)) (z ∙ t.is)))
      (λ (t : at ≡ root_place L words (bucket_of L (cells L words) q)). omega (arith, row_before L m, row_before L l, s.links))
      (open_at o))
    where
      off : (t : Side L made at) → (d ≡ t.entry) × (i ≡ L.key + t.side) → ⊥
      off t y = omega (arith, y.1)

  keys : (d : ℕ) → d < made → key_at L after d ≡ key_at L words d
  keys d m = words_same L after words d 0 L.key (λ i n. key_word d i m (omega arith))

  count : cells L after ≡ cells L words
  count = ap (λ (n : ℕ). n / (L.row + 2)) e.long

  buckets : (d : ℕ) → d < made → bucket_at L after d ≡ bucket_at L words d
  buckets d m = let a = keys d m in let b = count in cc

  its : bucket_at L after made ≡ bucket_of L (cells L words) q
  its = let a = e.key in let b = count in cc

  leads_kept : (p : List ℕ) (k d : ℕ) → Leads L words made p k d → Leads L after (suc made) p k d
  leads_kept p k d f =
      record {
        ends = same_walk p k d f k (omega arith) ∙ f.ends;
        within = λ j n. omega (arith, same_walk p k d f j n, f.within j n);
        home =
            ap (bucket_at L after) (same_walk p k d f 0 (omega arith))
            ∙ buckets (walk L words p 0) (f.within 0 (omega arith))
            ∙ f.home
            ∙ ap (λ (n : ℕ). bucket_of L n p) (sym count);
      }

level_of : {L : Layout} {words : List ℕ} {made at : ℕ} {q : List ℕ} → Open L words made q at → ℕ
level_of (bare w shut is) = 0
level_of (under {k = k} r nil is) = suc k

linked_of : {L : Layout} {words : List ℕ} {made at : ℕ} {q : List ℕ} → Open L words made q at → Linked L words made
linked_of (bare w shut is) = w
linked_of (under r nil is) = r.linked

-- the way of q leads to the new entry
new_leads :
    (L : Layout) (s : Sound L) (words : List ℕ) (made : ℕ) (q : List ℕ) (at : ℕ) (after : List ℕ) → made < cells L words
    → (o : Open L words made q at) → Wrote L words made q at after → Leads L after (suc made) q (level_of o) made
unfolding place level_of
new_leads L s words made q at after l (bare w shut is) e =
    let o : Open L words made q at = bare w shut is in
    let ends : walk L after q 0 ≡ made = ap (λ (i : ℕ). get_or after i 0) (ap (λ (n : ℕ). L.row * (n / (L.row + 2)) + 2 * bucket_of L (n / (L.row + 2)) q) e.long ∙ sym is) ∙ e.link in
    record {
      ends = ends;
      within = λ j m. subst (λ (i : ℕ). walk L after q i < suc made) (first j m) (omega arith);
      home = ap (bucket_at L after) ends ∙ its L s words made q at after l o e ∙ ap (λ (n : ℕ). bucket_of L n q) (sym (count L s words made q at after l o e));
    }
  where
    first : (j : ℕ) → j ≤ 0 → 0 ≡ j
    first j m = omega arith
new_leads L s words made q at after l (under {k = k} {p = p} r nil is) e =
    let o : Open L words made q at = under r nil is in
    let f = leads_kept L s words made q at after l o e q k p r.leads in
    let ends : walk L after q (suc k) ≡ made =
    ap (λ (i : ℕ). get_or after i 0) (place_on L after q k p f.ends ∙ sym (place_on L words q k p r.leads.ends) ∙ sym is) ∙ e.link
    in
    record {
      ends = ends;
      within =
          λ j m.
          ⊎_elim
          (λ (t : j ≡ suc k). subst (λ (i : ℕ). walk L after q i < suc made) (sym t) (omega (arith, ends)))
          (λ (t : j < suc k). f.within j (omega arith))
          (eq-or-lt_of_le m);
      home = f.home;
    }

-- the link below an entry that is the new one
hung :
    {L : Layout} → Sound L → {words : List ℕ} {made at : ℕ} {q : List ℕ} → made < cells L words → (o : Open L words made q at) (d side : ℕ)
    → d < made → side < 2 → L.row * d + (L.key + side) ≡ at
    → (level_of o ≡ suc ((linked_of o).depth d))
    × Agree ((linked_of o).depth d) q (key_at L words d)
    × (bit_of q ((linked_of o).depth d) ≡ side)
unfolding place level_of linked_of
hung {L} s l (bare w shut is) d side m n t = absurd (omega (arith, link_below s d side m n, row_before L l))
hung {L} s {words} {made} {at} {q} l (under {k = k} {p = p} r nil is) d side m n t =
    let b = bit_below q k in
    let y = same_row L p d (omega (arith, s.links)) (omega (arith, s.links)) (sym (place_on L words q k p r.leads.ends) ∙ sym is ∙ sym t) in
    let same : p ≡ d = y.0 in
    let turn : bit_of q k ≡ side = omega (arith, y.1) in
    let level : r.linked.depth d ≡ k = ap r.linked.depth (sym same) ∙ r.level in (
      ap suc (sym level),
      λ j c. sym (ap (λ (z : ℕ). bit_of (key_at L words z) j) (sym same) ∙ r.agrees j (omega arith)),
      ap (bit_of q) level ∙ turn,
    )

-- the first word of a bucket that is the new link
rooted :
    {L : Layout} → Sound L → {words : List ℕ} {made at : ℕ} {q : List ℕ} → made < cells L words → (o : Open L words made q at) (h : ℕ)
    → root_place L words h ≡ at → level_of o ≡ 0
unfolding level_of
rooted s l (bare w shut is) h t = refl
rooted {L} s {words} {made} {at} {q} l (under {k = k} {p = p} r nil is) h t =
    let c = link_below s p (bit_of q k) r.below (bit_below q k) in
    let b = place_on L words q k p r.leads.ends in
    let z = row_before L l in
    absurd (omega arith)

-- the key's bucket has an entry, where the new link isn't its first word
covered :
    {L : Layout} {words : List ℕ} {made at : ℕ} {q : List ℕ} (o : Open L words made q at) → root_place L words (bucket_of L (cells L words) q) ≢ at
    → walk L words q 0 < made
unfolding place
covered (bare w shut is) t = absurd (t (sym is))
covered (under r nil is) t = r.leads.within 0 (omega arith)

at_root : (L : Layout) (words q : List ℕ) (h : ℕ) → h ≡ bucket_of L (cells L words) q → walk L words q 0 ≡ get_or words (root_place L words h) 0
unfolding place
at_root L words q h b = ap (λ (n : ℕ). get_or words (root_place L words n) 0) (sym b)

linked_new :
    (L : Layout) (s : Sound L) (words : List ℕ) (made : ℕ) (q : List ℕ) (at : ℕ) (after : List ℕ) → Free L words made q at
    → Wrote L words made q at after → Linked L after (suc made)
linked_new L s words made q at after free e =
    record {
      depth = depth;
      room = omega (arith, ap (λ (n : ℕ). n / (L.row + 2)) e.long);
      few = omega (arith, free.few);
      own = own;
      under = below;
      top = top;
      distinct = distinct;
    }
  where
    l : made < cells L words
    l = free.lent

    o : Open L words made q at
    o = free.place

    w : Linked L words made
    w = linked_of o

    depth : ℕ → ℕ
    depth d = cond (eqb d made) (level_of o) (w.depth d)

    old : (d : ℕ) → d < made → depth d ≡ w.depth d
    old d m = ap (λ (b : Bool). cond b (level_of o) (w.depth d)) (ne_eqb d made (omega arith))

    new : (d : ℕ) → d ≡ made → depth d ≡ level_of o
    new d t = ap (λ (b : Bool). cond b (level_of o) (w.depth d)) (eq-eqb d made t)

    key_of : (d : ℕ) → d < made → key_at L after d ≡ key_at L words d
    key_of = keys L s words made q at after l o e

    own : (d : ℕ) → d < suc made → Leads L after (suc made) (key_at L after d) (depth d) d
    own d k =
        ⊎_elim
        (λ (t : d ≡ made).
        subst (λ (n : ℕ). Leads L after (suc made) (key_at L after d) n d) (sym (new d t))
        (subst (λ (n : ℕ). Leads L after (suc made) (key_at L after n) (level_of o) n) (sym t)
        (subst (λ (p : List ℕ). Leads L after (suc made) p (level_of o) made) (sym e.key) (new_leads L s words made q at after l o e))))
        (λ (t : d < made).
        subst (λ (n : ℕ). Leads L after (suc made) (key_at L after d) n d) (sym (old d t))
        (subst (λ (p : List ℕ). Leads L after (suc made) p (w.depth d) d) (sym (key_of d t))
        (leads_kept L s words made q at after l o e (key_at L words d) (w.depth d) d (w.own d t))))
        (eq-or-lt_of_le (omega arith))

    below :
        (d side : ℕ) → d < suc made → side < 2 → word_at L after d (L.key + side) ≢ NONE
        → Below L after (suc made) depth d side (word_at L after d (L.key + side))
    below d side k n some =
        ⊎_elim
        (λ (t : d ≡ made). absurd (some (ap (λ (z : ℕ). word_at L after z (L.key + side)) t ∙ e.sides side n)))
        (λ (t : d < made). by_cases (ℕ_discrete (L.row * d + (L.key + side)) at) (hit t) (miss t))
        (eq-or-lt_of_le (omega arith))
      where
        hit : d < made → L.row * d + (L.key + side) ≡ at → Below L after (suc made) depth d side (word_at L after d (L.key + side))
        hit m t =
            let y = hung s l o d side m n t in
            subst (Below L after (suc made) depth d side) (sym (ap (λ (i : ℕ). get_or after i 0) t ∙ e.link))
            (record {
              within = omega arith;
              deeper = new made refl ∙ y.0 ∙ ap suc (sym (old d m));
              agrees =
                  λ j z.
                  ap (λ (p : List ℕ). bit_of p j) e.key
                  ∙ y.1 j (omega (arith, old d m))
                  ∙ ap (λ (p : List ℕ). bit_of p j) (sym (key_of d m));
              turned = ap (λ (p : List ℕ). bit_of p (depth d)) e.key ∙ ap (bit_of q) (old d m) ∙ y.2;
            })

        miss : d < made → L.row * d + (L.key + side) ≢ at → Below L after (suc made) depth d side (word_at L after d (L.key + side))
        miss m t =
            let x : word_at L after d (L.key + side) ≡ word_at L words d (L.key + side) = e.rows (L.row * d + (L.key + side)) (link_below s d side m n) t in
            let b = w.under d side m n (λ z. some (x ∙ z)) in
            let c = word_at L words d (L.key + side) in
            subst (Below L after (suc made) depth d side) (sym x)
            (record {
              within = omega (arith, b.within);
              deeper = old c b.within ∙ b.deeper ∙ ap suc (sym (old d m));
              agrees =
                  λ j z.
                  ap (λ (p : List ℕ). bit_of p j) (key_of c b.within)
                  ∙ b.agrees j (omega (arith, old d m))
                  ∙ ap (λ (p : List ℕ). bit_of p j) (sym (key_of d m));
              turned =
                  ap (λ (p : List ℕ). bit_of p (depth d)) (key_of c b.within)
                  ∙ ap (bit_of (key_at L words c)) (old d m)
                  ∙ b.turned;
            })

    top :
        (h : ℕ) → get_or after (root_place L after h) 0 < suc made → bucket_at L after (get_or after (root_place L after h) 0) ≡ h
        → depth (get_or after (root_place L after h) 0) ≡ 0
    top h k same = by_cases (ℕ_discrete (root_place L words h) at) hit miss
      where
        same_root : root_place L after h ≡ root_place L words h
        same_root = ap (λ (n : ℕ). L.row * n + 2 * h) (count L s words made q at after l o e)

        hit : root_place L words h ≡ at → depth (get_or after (root_place L after h) 0) ≡ 0
        hit t = new (get_or after (root_place L after h) 0) (ap (λ (i : ℕ). get_or after i 0) (same_root ∙ t) ∙ e.link) ∙ rooted s l o h t

        miss : root_place L words h ≢ at → depth (get_or after (root_place L after h) 0) ≡ 0
        miss t = ⊎_elim last first (eq-or-lt_of_le (omega arith))
          where
            x : get_or after (root_place L after h) 0 ≡ get_or words (root_place L words h) 0
            x = ap (λ (i : ℕ). get_or after i 0) same_root ∙ e.roots h t

            first : get_or after (root_place L after h) 0 < made → depth (get_or after (root_place L after h) 0) ≡ 0
            first m =
                let r : get_or words (root_place L words h) 0 < made = omega (arith, x) in
                ap depth x
                ∙ old (get_or words (root_place L words h) 0) r
                ∙ w.top h r (sym (buckets L s words made q at after l o e (get_or words (root_place L words h) 0) r) ∙ ap (bucket_at L after) (sym x) ∙ same)

            last : get_or after (root_place L after h) 0 ≡ made → depth (get_or after (root_place L after h) 0) ≡ 0
            last m =
                let b : h ≡ bucket_of L (cells L words) q = sym same ∙ ap (bucket_at L after) m ∙ its L s words made q at after l o e in
                let c = covered o (λ z. t (ap (root_place L words) b ∙ z)) in
                let y : walk L words q 0 ≡ get_or words (root_place L words h) 0 = at_root L words q h b in
                absurd (omega (arith, x))

    distinct : (c d : ℕ) → c < d → d < suc made → key_at L after c ≡ key_at L after d → ⊥
    distinct c d k m same =
        ⊎_elim
        (λ (r : d ≡ made). free.absent c (omega arith) (sym (key_of c (omega arith)) ∙ same ∙ ap (key_at L after) r ∙ e.key))
        (λ (r : d < made). w.distinct c d k r (sym (key_of c (omega arith)) ∙ same ∙ key_of d r))
        (eq-or-lt_of_le (omega arith))

-- the same keys make the same list of them
keys_same : (L : Layout) (after words : List ℕ) (n : ℕ) → ((e : ℕ) → e < n → key_at L after e ≡ key_at L words e) → keys_of L after n ≡ keys_of L words n
unfolding keys_of
keys_same L after words zero same = refl
keys_same L after words (suc n) same =
    let p = keys_same L after words n (λ e l. same e (omega arith)) in
    let q = same n (omega arith) in
    cc

-- one entry more, with the key q
pub entered :
    {L : Layout} → Sound L → {words : List ℕ} {made : ℕ} {q : List ℕ} {at : ℕ} {after : List ℕ} → Free L words made q at → Wrote L words made q at after
    → Entered L words made q after
unfolding keys_of
entered {L} s {words} {made} {q} {at} {after} free e =
    let old = keys_same L after words made (keys L s words made q at after free.lent free.place e) in
    let own = e.key in
    record { linked = linked_new L s words made q at after free e; keys = cc }
