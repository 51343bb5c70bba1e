-- `input::read_full`: what a turn reads stands behind what was read before it. Assumes nothing.
use Rattle.std.proofs.Common.{◌≡◌, ℕ, ◌+◌, ◌-◌, ◌≤◌, List, ◌++◌, rules, arith, length, take, slice_range, sym, ap, ◌∙◌, subst, le_refl, drop_at, length-take-le}
use Rattle.std.proofs.lemmas.Slice.{take-put_mid_below}
use Rattle.std.specs.Io.KnownBytes.{Consumes}
use Rattle.std.proofs.KnownBytes.{Consumes-trans}
use borrow.Rule.Slice.PartMut.{put_mid, post_of}
use lib.Seq.{take-add, take-append-le}
use Rattle.input.proofs.read_full.Goals as goal

-- n bytes put at a place are the next n of the whole
put_behind : (at k n : ℕ) (xs ys : List ℕ) → at ≤ length xs → n ≤ length ys → take at xs ++ take n ys ≡ take (at + n) (put_mid at k xs ys)
put_behind at k n xs ys within fits =
    let all = put_mid at k xs ys in
    let next : slice_range all at (at + n) ≡ take n ys =
    let same : (at + n) - at ≡ n = omega arith in
    ap (take ((at + n) - at)) (drop_at (take at xs) (ys ++ post_of at k xs) at (length-take-le at xs within))
    ∙ ap (λ m. take m (ys ++ post_of at k xs)) same
    ∙ take-append-le n ys (post_of at k xs) fits in
    let first : take at all ≡ take at xs = take-put_mid_below _ _ _ _ _ (le_refl _) within in
    let same : at + ((at + n) - at) ≡ at + n = omega arith in
    ap (λ l. take at xs ++ l) (sym next)
    ∙ ap (λ l. l ++ slice_range all at (at + n)) (sym first)
    ∙ sym (take-add at ((at + n) - at) all)
    ∙ ap (λ m. take m all) same

pub loop-done-preserved : goal.loop-done-preserved
loop-done-preserved g c =
    let s = c.loop-done in
    record {
      within = search rules;
      read =
          subst (Consumes _ _)
          (put_behind s.done (length s.buf - s.done) c.in_ok-n.n s.buf c.read.new.buf s.invariant.within c.in_ok-n.ensures.bound.0)
          (Consumes-trans _ _ _ _ _ s.invariant.read c.in_ok-n.ensures.bytes.0);
    }
