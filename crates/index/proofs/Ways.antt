-- The way of a key: following its bits finds its entry, or that it has none, after no more looks at other entries than the key has bits.
-- Assumes nothing.
use mathlib.Core.Path.{◌≡◌, refl, sym, ◌∙◌, ap, subst}
use mathlib.Core.Logic.{◌≢◌, ⊎_elim}
use mathlib.Core.List.{List}
use Prim.Native.Nat.{ℕ, suc, ◌+◌, ◌*◌, ◌/◌, ◌%◌, ◌<◌, ◌≤◌}
use native.Mathlib.Omega.{arith}
use native.Mathlib.Nat.{eq-or-lt_of_le}
use lib.ListN.{length, get_or}
use Rattle.index.specs.Keys.{number, halves, bit_of, Agree}
use Rattle.index.specs.Cells.{NONE, Layout, word_at, cells, key_at, bucket_of, bucket_at}
use Rattle.index.specs.Trees.{root_place, place, walk, Leads, Below, Linked, Reached, bare, under}
use Rattle.index.specs.Answers.{InBucket, Lacks}
use Rattle.index.proofs.Bits.{Words, bit_below, same_key}
use Rattle.index.proofs.Rows.{length_words}

-- the place below entry p on the way of q
pub place_on : (L : Layout) (words q : List ℕ) (k p : ℕ) → walk L words q k ≡ p → place L words q (suc k) ≡ L.row * p + (L.key + bit_of q k)
unfolding place
place_on L words q k p e = ap (λ (n : ℕ). L.row * n + (L.key + bit_of q k)) e

-- the way of the key that entry d has
leads_to :
    {L : Layout} {words : List ℕ} {made : ℕ} {q : List ℕ} (w : Linked L words made) (d : ℕ) → d < made → key_at L words d ≡ q
    → Leads L words made q (w.depth d) d
leads_to {L} {words} {made} w d l same = subst (λ (p : List ℕ). Leads L words made p (w.depth d) d) same (w.own d l)

-- The search for q has come to e at level k, and the entry of q, if there is one, is no higher.
pub record Going (L : Layout) (words : List ℕ) (made : ℕ) (q : List ℕ) (k e rest : ℕ) : Type 0 where
  pub at : Reached L words made q k e
  pub shallow : k ≤ 32 * L.key
  pub left : rest ≡ halves (number q) k
  pub passed : (d : ℕ) → d < made → key_at L words d ≡ q → k ≤ at.linked.depth d

pub start :
    {L : Layout} {words : List ℕ} {made h : ℕ} {q : List ℕ} {link : ℕ} → Linked L words made → InBucket L (cells L words) q h
    → link ≡ word_at L words (cells L words) (2 * h) → link < made → bucket_at L words link ≡ h → Going L words made q 0 link (number q)
unfolding place halves
start {L} {words} {made} {h} {q} {link} w at is l same =
    record {
      at =
          record {
            linked = w;
            below = l;
            level = ap w.depth is ∙ w.top h (omega arith) (ap (bucket_at L words) (sym is) ∙ same);
            leads =
                record {
                  ends = ends;
                  within = λ j m. subst (λ (i : ℕ). walk L words q i < made) (first j m) (omega (arith, ends));
                  home = ap (bucket_at L words) ends ∙ same ∙ at.is;
                };
            agrees = λ j m. absurd (omega arith);
          };
      shallow = omega arith;
      left = refl;
      passed = λ d m e. omega arith;
    }
  where
    ends : get_or words (root_place L words (bucket_of L (cells L words) q)) 0 ≡ link
    ends = ap (λ (b : ℕ). get_or words (root_place L words b) 0) (sym at.is) ∙ sym is

    first : (j : ℕ) → j ≤ 0 → 0 ≡ j
    first j m = omega arith

-- the entry of another key is at a level that the key has a bit for
pub high :
    {L : Layout} {words : List ℕ} {made : ℕ} {q : List ℕ} {k e rest : ℕ} → Going L words made q k e rest → length q ≡ L.key → Words q
    → Words (key_at L words e) → (key_at L words e ≡ q → ⊥) → k < 32 * L.key
high {L} {words} {made} {q} {k} {e} g long v w ne =
    ⊎_elim (λ (s : k ≡ 32 * L.key). absurd (ne (same s))) (λ (s : k < 32 * L.key). s) (eq-or-lt_of_le g.shallow)
  where
    its : length (key_at L words e) ≡ L.key
    its = length_words L words e 0 L.key

    same : k ≡ 32 * L.key → key_at L words e ≡ q
    same s = same_key w v (its ∙ sym long) (λ j m. g.at.agrees j (omega (arith, its)))

-- past the entry of another key, the entry of q is deeper
deeper :
    {L : Layout} {words : List ℕ} {made k e rest : ℕ} {q : List ℕ} (g : Going L words made q k e rest) → (key_at L words e ≡ q → ⊥)
    → (d : ℕ) → d < made → key_at L words d ≡ q → k < g.at.linked.depth d
deeper {L} {words} {made} {k} {e} {rest} {q} g ne d l same =
    ⊎_elim
    (λ (s : k ≡ g.at.linked.depth d). absurd (ne (ap (key_at L words) (sym g.at.leads.ends ∙ ap (walk L words q) s ∙ here) ∙ same)))
    (λ (s : k < g.at.linked.depth d). s)
    (eq-or-lt_of_le (g.passed d l same))
  where
    here : walk L words q (g.at.linked.depth d) ≡ d
    here = (leads_to g.at.linked d l same).ends

-- on to the entry below
pub on :
    {L : Layout} {words : List ℕ} {made k e rest side next : ℕ} {q : List ℕ} → Going L words made q k e rest → (key_at L words e ≡ q → ⊥)
    → k < 32 * L.key → side ≡ rest % 2 → next ≡ word_at L words e (L.key + side) → next ≢ NONE → Going L words made q (suc k) next (rest / 2)
unfolding halves
on {L} {words} {made} {k} {e} {rest} {side} {next} {q} g ne l is n some =
    record {
      at =
          record {
            linked = w;
            below = made_next;
            level = ap w.depth n ∙ b.deeper ∙ ap suc g.at.level;
            leads =
                record {
                  ends = ends;
                  within = within;
                  home = g.at.leads.home;
                };
            agrees = agrees;
          };
      shallow = omega arith;
      left = ap (λ (z : ℕ). z / 2) g.left;
      passed = λ d m same. deeper g ne d m same;
    }
  where
    w : Linked L words made
    w = g.at.linked

    turn : side ≡ bit_of q k
    turn = is ∙ ap (λ (z : ℕ). z % 2) g.left

    b : Below L words made w.depth e side (word_at L words e (L.key + side))
    b = w.under e side g.at.below (omega (arith, bit_below q k, turn)) (λ z. some (n ∙ z))

    made_next : next < made
    made_next = omega (arith, b.within)

    ends : walk L words q (suc k) ≡ next
    ends =
        ap (λ (z : ℕ). get_or words z 0)
        (place_on L words q k e g.at.leads.ends ∙ ap (λ (s : ℕ). L.row * e + (L.key + s)) (sym turn))
        ∙ sym n

    within : (j : ℕ) → j ≤ suc k → walk L words q j < made
    within j m =
        ⊎_elim
        (λ (s : j ≡ suc k). subst (λ (i : ℕ). walk L words q i < made) (sym s) (omega (arith, ends, made_next)))
        (λ (s : j < suc k). g.at.leads.within j (omega arith))
        (eq-or-lt_of_le m)

    agrees : Agree (suc k) (key_at L words next) q
    agrees j m =
        ap (λ (z : ℕ). bit_of (key_at L words z) j) n
        ∙ ⊎_elim
        (λ (s : j ≡ k). ap (bit_of (key_at L words (word_at L words e (L.key + side)))) (s ∙ sym g.at.level) ∙ b.turned ∙ turn ∙ ap (bit_of q) (sym s))
        (λ (s : j < k). b.agrees j (omega (arith, g.at.level)) ∙ g.at.agrees j s)
        (eq-or-lt_of_le (omega arith))

-- the bucket has no entry
pub ends_bare :
    {L : Layout} {words : List ℕ} {made h link : ℕ} {q : List ℕ} → Linked L words made → InBucket L (cells L words) q h
    → link ≡ word_at L words (cells L words) (2 * h) → (link < made → bucket_at L words link ≡ h → ⊥)
    → Lacks L words made q (L.row * cells L words + 2 * h)
unfolding place
ends_bare {L} {words} {made} {h} {link} {q} w at is ne =
    record {
      absent = λ d l same. let f = leads_to w d l same in shut (f.within 0 (omega arith)) f.home;
      hangs = λ l. bare w shut (ap (root_place L words) at.is);
    }
  where
    root : link ≡ walk L words q 0
    root = is ∙ ap (λ (b : ℕ). get_or words (root_place L words b) 0) at.is

    shut : walk L words q 0 < made → bucket_at L words (walk L words q 0) ≡ bucket_of L (cells L words) q → ⊥
    shut l e = ne (omega (arith, root)) (ap (bucket_at L words) root ∙ e ∙ sym at.is)

-- nothing hangs on the key's side
pub ends_under :
    {L : Layout} {words : List ℕ} {made k e rest side next at : ℕ} {q : List ℕ} → Going L words made q k e rest → (key_at L words e ≡ q → ⊥)
    → side ≡ rest % 2 → next ≡ word_at L words e (L.key + side) → next ≡ NONE → at ≡ L.row * e + (L.key + side) → Lacks L words made q at
ends_under {L} {words} {made} {k} {e} {rest} {side} {next} {at} {q} g ne is n nil there =
    record { absent = absent; hangs = λ l. under g.at last (there ∙ sym here) }
  where
    turn : side ≡ bit_of q k
    turn = is ∙ ap (λ (z : ℕ). z % 2) g.left

    here : place L words q (suc k) ≡ L.row * e + (L.key + side)
    here = place_on L words q k e g.at.leads.ends ∙ ap (λ (s : ℕ). L.row * e + (L.key + s)) (sym turn)

    last : walk L words q (suc k) ≡ NONE
    last = ap (λ (z : ℕ). get_or words z 0) here ∙ sym n ∙ nil

    absent : (d : ℕ) → d < made → key_at L words d ≡ q → ⊥
    absent d l same =
        let m = deeper g ne d l same in
        let f = leads_to g.at.linked d l same in
        omega (arith, f.within (suc k) m, last, g.at.linked.few)

-- with no entry, any words are an index
pub linked_none : (L : Layout) (words : List ℕ) → Linked L words 0
linked_none L words =
    record {
      depth = λ e. 0;
      room = omega arith;
      few = omega arith;
      own = λ e k. absurd (omega arith);
      under = λ e side k. absurd (omega arith);
      top = λ h k. absurd (omega arith);
      distinct = λ d e k l is. absurd (omega arith);
    }
