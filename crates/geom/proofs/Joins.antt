-- Document 02, U3: the strand of a midpoint is one of the two ends, tag and k together, and where the k differ it is the same in both directions, so that a join
-- doesn't change colour with the direction of its line.
-- Says nothing of which pairs get a midpoint. Assumes nothing.
use mathlib.Core.Path.{◌≡◌, refl, sym, ◌∙◌}
use mathlib.Core.Logic.{◌⊎◌, inl, inr}
use Prim.Native.Nat.{◌≤◌, ◌<◌}
use native.Mathlib.Decide.{dec_lt}
use native.Mathlib.Omega.{arith}
use borrow.Author.Tests.{lt-ltb, le-ltb}
use Rattle.geom.specs.Form.{Form}
use Rattle.geom.specs.Vertices.{strand_in}
use Rattle.geom.specs.Soundness.{SameStrand, Middle}

pub strand_self : (F : Form) (a : F.Vertex) → SameStrand F a a
strand_self F a = record { tag = refl; k = refl }

pub strand_then : {F : Form} {a b c : F.Vertex} → SameStrand F a b → SameStrand F b c → SameStrand F a c
strand_then p q = record { tag = q.tag ∙ p.tag; k = q.k ∙ p.k }

pub strand_back : {F : Form} {a b : F.Vertex} → SameStrand F a b → SameStrand F b a
strand_back p = record { tag = sym p.tag; k = sym p.k }

-- ---- the end with the smaller k, the first on a tie

module _ (F : Form) (a b : F.Vertex) where
  pub strand_first : F.k a ≤ F.k b → strand_in F a b ≡ a
  unfolding strand_in
  strand_first l = rw (le-ltb (F.k b) (F.k a) l) refl

  pub strand_second : F.k b < F.k a → strand_in F a b ≡ b
  unfolding strand_in
  strand_second l = rw (lt-ltb (F.k b) (F.k a) l) refl

  pub one_end : (strand_in F a b ≡ a) ⊎ (strand_in F a b ≡ b)
  one_end = go (dec_lt (F.k b) (F.k a))
    where
      go : Dec (F.k b < F.k a) → (strand_in F a b ≡ a) ⊎ (strand_in F a b ≡ b)
      go (yes l) = inr (strand_second l)
      go (no f) = inl (strand_first (omega (arith, f)))

-- ---- in both directions

strand_turned : (F : Form) (a b : F.Vertex) → (F.k a ≡ F.k b → ⊥) → strand_in F a b ≡ strand_in F b a
strand_turned F a b differ = go (dec_lt (F.k b) (F.k a))
  where
    go : Dec (F.k b < F.k a) → strand_in F a b ≡ strand_in F b a
    go (yes l) = strand_second F a b l ∙ sym (strand_first F b a (omega (arith, l)))
    go (no f) = strand_first F a b (omega (arith, f)) ∙ sym (strand_second F b a (omega (arith, f, differ)))

-- it goes by tag and k alone, which smoothing keeps
pub strand_stays :
    {F : Form} {a b a' b' : F.Vertex} → SameStrand F a a' → SameStrand F b b' → SameStrand F (strand_in F a b) (strand_in F a' b')
strand_stays {F} {a} {b} {a'} {b'} p q = go (dec_lt (F.k b) (F.k a))
  where
    go : Dec (F.k b < F.k a) → SameStrand F (strand_in F a b) (strand_in F a' b')
    go (yes l) = rw (strand_second F a b l, strand_second F a' b' (omega (arith, l, p.k, q.k))) q
    go (no f) = rw (strand_first F a b (omega (arith, f)), strand_first F a' b' (omega (arith, f, p.k, q.k))) p

-- u is between a and b, and v between two that have their strands, the other way round
pub one_colour :
    {F : Form} {a b u a' b' v : F.Vertex} → Middle F a b u → SameStrand F a a' → SameStrand F b b' → Middle F b' a' v → (F.k a ≡ F.k b → ⊥)
    → SameStrand F u v
one_colour {F} {a} {b} m p q n differ =
    strand_then (strand_back (rw (← strand_turned F a b differ) m.strand)) (strand_then (strand_stays q p) n.strand)
