-- Curves written one after the other: the rows in memory are the definition's curves, what stands after i of them, and that what does not
-- fit then never fits.
-- Assumes nothing.
use mathlib.Core.Path.{◌≡◌, refl, sym, ◌∙◌, ap, subst}
use mathlib.Core.Logic.{◌⊎◌, inl, inr, ⊎_elim}
use mathlib.Core.List.{List, [], ◌∷◌, ◌++◌, map, flat_map}
use Prim.Native.Nat.{ℕ, zero, suc, ◌+◌, ◌*◌, ◌-◌, ◌<◌, ◌≤◌}
use native.Mathlib.Omega.{arith}
use native.Mathlib.Nat.{eq-or-lt_of_le, zero-add}
use native.Mathlib.Numerals.{add-one}
use lib.ListN.{length, get_or, take, drop, length-append}
use lib.Seq.{drop-drop}
use Rattle.geom.specs.Book.{Kind, Book, Made, each}
use Rattle.geom.specs.Elements.{Curve}
use Rattle.geom.specs.Rules.{curve, curve_from}
use Rattle.geom.specs.Mesh.{curve_vertices_of}
use Rattle.geom.specs.Memory.{CurveRow, StepRow, first_of, curve_row, step_row, step_words, curves_of, parity_of, over, curve_words, vertex_words}
use Rattle.geom.specs.Refusals.{curve_lengths}
use Rattle.book.specs.Cells.{pairs_of}
use Rattle.division.specs.Writing.{written}
use Rattle.division.specs.Threads.{curve_at, curves_in, Spread, Strings, Wound}
use Rattle.geom.proofs.Rows.{length_first_of, get_d_first_of, first_of_same, map_first_of, flat_map_append}
use Rattle.division.proofs.Rows.{first_of_part, written_none, written_more, written_over}
use Rattle.division.proofs.Folds.{up_to, up_to_on, made_grows, book_grows}
use Rattle.division.proofs.Strands.{curve_grows}

-- ── where a curve's vertices begin ──

-- the vertices of the curves before row i
abbrev pub start_of : List ℕ → ℕ → ℕ
start_of rows i = curve_lengths (first_of (curve_row rows) i)

lengths_snoc : (cs : List CurveRow) (c : CurveRow) → curve_lengths (cs ++ c ∷ []) ≡ curve_lengths cs + c.count
unfolding curve_lengths
lengths_snoc [] c = omega arith
lengths_snoc (d ∷ cs) c = omega (arith, lengths_snoc cs c)

pub start_suc : (rows : List ℕ) (i : ℕ) → start_of rows (suc i) ≡ start_of rows i + get_or rows (2 * i + 1) 0
unfolding first_of curve_row
start_suc rows i = lengths_snoc (first_of (curve_row rows) i) (curve_row rows i)

pub start_grows : (rows : List ℕ) (i n : ℕ) → i ≤ n → start_of rows i ≤ start_of rows n
start_grows rows i zero l = let e : i ≡ 0 = omega arith in let f = ap (start_of rows) e in omega arith
start_grows rows i (suc n) l =
    let s = start_suc rows n in
    let ih = start_grows rows i n in
    ⊎_elim
    (λ (e : i ≡ suc n). let f = ap (start_of rows) e in omega arith)
    (λ (k : i < suc n). let g = ih (omega arith) in omega arith)
    (eq-or-lt_of_le l)

-- ── the curves in memory ──

-- a part of a list that is read off by its places
part_places :
    {A : Type 0} (d : A) (f : ℕ → A) (total from n : ℕ) → from + n ≤ total
    → take n (drop from (first_of f total)) ≡ first_of (λ (j : ℕ). f (from + j)) n
part_places d f total from n l =
    sym (first_of_part d (first_of f total) from n (omega (arith, length_first_of f total)))
    ∙ first_of_same (λ (j : ℕ). get_or (first_of f total) (from + j) d) (λ (j : ℕ). f (from + j)) n
    (λ j k. get_d_first_of f d (from + j) total (omega arith))

step_words_snoc : (xs : List StepRow) (x : StepRow) → step_words (xs ++ x ∷ []) ≡ map (λ (r : StepRow). r.step) xs
unfolding step_words
step_words_snoc [] x = refl
step_words_snoc (y ∷ []) x = refl
step_words_snoc (y ∷ z ∷ zs) x = ap (λ (r : List ℕ). y.step ∷ r) (step_words_snoc (z ∷ zs) x)

step_words_places : (f : ℕ → StepRow) (n : ℕ) → step_words (first_of f n) ≡ first_of (λ (j : ℕ). (f j).step) (n - 1)
unfolding step_words first_of
step_words_places f zero = refl
step_words_places f (suc n) =
    let e : suc n - 1 ≡ n = omega arith in
    step_words_snoc (first_of f n) (f n)
    ∙ map_first_of (λ (r : StepRow). r.step) f n
    ∙ ap (first_of (λ (j : ℕ). (f j).step)) (sym e)

-- the curve of a row, from the rows of its vertices on
abbrev one : CurveRow → List StepRow → Curve
one c steps =
    record {
      tag = c.tag;
      vertices = map (λ (r : StepRow). r.vertex) (take c.count steps);
      parities = map parity_of (step_words (take c.count steps));
    }

curves_snoc :
    (cs : List CurveRow) (c : CurveRow) (steps : List StepRow)
    → curves_of (cs ++ c ∷ []) steps ≡ curves_of cs steps ++ one c (drop (curve_lengths cs) steps) ∷ []
unfolding curves_of curve_lengths
curves_snoc [] c steps = refl
curves_snoc (d ∷ cs) c steps =
    ap (λ (r : List Curve). one d steps ∷ r)
    (curves_snoc cs c (drop d.count steps)
    ∙ ap (λ (s : List StepRow). curves_of cs (drop d.count steps) ++ one c s ∷ []) (drop-drop (curve_lengths cs) d.count steps))

one_places :
    (rows words : List ℕ) (total i : ℕ) → start_of rows i + get_or rows (2 * i + 1) 0 ≤ total
    → one (curve_row rows i) (drop (start_of rows i) (first_of (step_row words) total)) ≡ curve_at rows words (start_of rows i) i
unfolding curve_row step_row
one_places rows words total i l =
    let from = start_of rows i in
    let n = get_or rows (2 * i + 1) 0 in
    let f : ℕ → StepRow = λ j. step_row words (from + j) in
    let part = part_places (record { vertex = 0; step = 0 }) (step_row words) total from n l in
    let vs = ap (map (λ (r : StepRow). r.vertex)) part ∙ map_first_of (λ (r : StepRow). r.vertex) f n in
    let ps =
    ap (λ (s : List StepRow). map parity_of (step_words s)) part
    ∙ ap (map parity_of) (step_words_places f n)
    ∙ map_first_of parity_of (λ (j : ℕ). (f j).step) (n - 1)
    in
    λ j. record { tag = get_or rows (2 * i) 0; vertices = vs j; parities = ps j }

-- curve i of the list
abbrev pub curve_in : List ℕ → List ℕ → ℕ → Curve
curve_in rows words i = curve_at rows words (start_of rows i) i

pub curves_places :
    (rows words : List ℕ) (total n : ℕ) → start_of rows n ≤ total
    → curves_of (first_of (curve_row rows) n) (first_of (step_row words) total) ≡ first_of (curve_in rows words) n
unfolding first_of curves_of
curves_places rows words total zero l = refl
curves_places rows words total (suc n) l =
    let s = start_suc rows n in
    curves_snoc (first_of (curve_row rows) n) (curve_row rows n) (first_of (step_row words) total)
    ∙ ap (λ (c : Curve). curves_of (first_of (curve_row rows) n) (first_of (step_row words) total) ++ c ∷ []) (one_places rows words total n (omega arith))
    ∙ ap (λ (cs : List Curve). cs ++ curve_in rows words n ∷ []) (curves_places rows words total n (omega arith))

-- ── curves written one after the other ──

vertices_append : (xs ys : List Curve) → curve_vertices_of (xs ++ ys) ≡ curve_vertices_of xs + curve_vertices_of ys
unfolding curve_vertices_of
vertices_append [] ys = omega arith
vertices_append (x ∷ xs) ys = omega (arith, vertices_append xs ys)

curve_words_append : (xs ys : List Curve) → curve_words (xs ++ ys) ≡ curve_words xs ++ curve_words ys
unfolding curve_words
curve_words_append = flat_map_append _

vertex_words_append : (xs ys : List Curve) → vertex_words (xs ++ ys) ≡ vertex_words xs ++ vertex_words ys
unfolding vertex_words
vertex_words_append = flat_map_append _

-- a curve stays one curve
one_row : (kind : Kind) (base : ℕ) (book : Book) (c : Curve) → length (curve_words (curve kind base book c).made) ≡ 2
unfolding curve curve_words flat_map
one_row kind base book c = go c.vertices
  where
    go : (vs : List ℕ) → length (curve_words (curve_from kind base book c vs).made) ≡ 2
    go [] = refl
    go (u ∷ ws) = refl

module _ (kind : Kind) (base room cells n : ℕ) (rows words : List ℕ) (start : Book) where
  -- the first i curves
  abbrev curves_to : ℕ → Made Curve
  curves_to i = up_to (curve kind base) start (curve_in rows words) i

  curves_all : each (curve kind base) start (curves_in rows words n) ≡ curves_to n
  curves_all = ap (each (curve kind base) start) (curves_places rows words (start_of rows n) n (omega arith))

  -- the first i curves stand on the new bench
  pub record Winding (new vertices book : List ℕ) (i at entries from : ℕ) (after strung book₂ : List ℕ) : Type 0 where
    pub within : i ≤ n
    pub fits : 2 * n ≤ length new
    pub begins : from ≡ start_of rows i
    pub spread : Spread base room cells at entries strung book₂
    pub holds : pairs_of book₂ entries ≡ (curves_to i).book
    pub counted : at ≡ curve_vertices_of (curves_to i).made
    pub number : 2 * i ≡ length (curve_words (curves_to i).made)
    pub wide : 2 * at ≡ length (vertex_words (curves_to i).made)
    pub list : after ≡ written new 0 (curve_words (curves_to i).made)
    pub strings : strung ≡ written vertices 0 (vertex_words (curves_to i).made)
    pub long : length after ≡ length new
    pub far : length strung ≡ length vertices
    pub kept : length book₂ ≡ length book

  pub winding_start :
      {made : ℕ} {new vertices book : List ℕ} → start ≡ pairs_of book made → 2 * n ≤ length new → Spread base room cells 0 made vertices book
      → Winding new vertices book 0 0 made 0 new vertices book
  unfolding first_of each curve_lengths curve_vertices_of curve_words vertex_words flat_map
  winding_start {new = new} {vertices = vertices} e l s =
      record {
        within = omega arith;
        fits = l;
        begins = refl;
        spread = s;
        holds = sym e;
        counted = refl;
        number = refl;
        wide = refl;
        list = sym (written_none new 0 (omega arith));
        strings = sym (written_none vertices 0 (omega arith));
        long = refl;
        far = refl;
        kept = refl;
      }

  module _ {new vertices book : List ℕ} {i at entries from : ℕ} {after strung book₂ : List ℕ} (m : Winding new vertices book i at entries from after strung book₂) where
    -- the next curve's vertices are within the list
    pub winding_room : i < n → start_of rows i + get_or rows (2 * i + 1) 0 ≤ start_of rows n
    winding_room l = let s = start_suc rows i in let g = start_grows rows (suc i) n l in omega arith

    -- the rule of the next curve
    abbrev given : Made Curve
    given = curve kind base (pairs_of book₂ entries) (curve_at rows words from i)

    step_is : given ≡ curve kind base (curves_to i).book (curve_in rows words i)
    step_is =
        let h = m.holds in
        let b = m.begins in
        ap (λ (k : Book). curve kind base k (curve_at rows words from i)) h
        ∙ ap (λ (k : ℕ). curve kind base (curves_to i).book (curve_at rows words k i)) b

    pub winding_full :
        i < n → (room < length given.book) ⊎ (cells < at + curve_vertices_of given.made)
        → (room < length (each (curve kind base) start (curves_in rows words n)).book)
        ⊎ (cells < curve_vertices_of (each (curve kind base) start (curves_in rows words n)).made)
    winding_full l x =
        let o = up_to_on (curve kind base) start (curve_in rows words) i in
        let step = curve kind base (curves_to i).book (curve_in rows words i) in
        ⊎_elim
        (λ h.
        inl
        (omega (
          arith,
          ap (λ (s : Made Curve). length s.book) step_is,
          ap (λ (s : Made Curve). length s.book) o,
          ap (λ (s : Made Curve). length s.book) curves_all,
          book_grows (curve kind base) start (curve_in rows words) (curve_grows kind base) (i + 1) n (omega arith),
        )))
        (λ h.
        inr
        (omega (
          arith,
          m.counted,
          vertices_append (curves_to i).made step.made,
          ap (λ (s : Made Curve). curve_vertices_of s.made) step_is,
          ap (λ (s : Made Curve). curve_vertices_of s.made) o,
          ap (λ (s : Made Curve). curve_vertices_of s.made) curves_all,
          made_grows (curve kind base) start (curve_in rows words) curve_vertices_of vertices_append (i + 1) n (omega arith),
        )))
        x

    pub winding_on :
        {more next : ℕ} {after₂ strung₂ book₃ : List ℕ} → i < n → length after₂ ≡ length after → length strung₂ ≡ length strung
        → length book₃ ≡ length book₂ → Strings base room cells i at given after after₂ strung strung₂ book₃ more next
        → Winding new vertices book (i + 1) more next (from + get_or rows (2 * i + 1) 0) after₂ strung₂ book₃
    winding_on {more} {next} {after₂} {strung₂} {book₃} l long far kept x' =
        let x = subst (λ (s : Made Curve). Strings base room cells i at s after after₂ strung strung₂ book₃ more next) step_is x' in
        let o = up_to_on (curve kind base) start (curve_in rows words) i in
        let made = (curves_to i).made in
        let step = curve kind base (curves_to i).book (curve_in rows words i) in
        let cs = curve_words made in
        let vs = vertex_words made in
        let row = one_row kind base (curves_to i).book (curve_in rows words i) in
        let g : curve_words (curves_to (i + 1)).made ≡ cs ++ curve_words step.made =
        ap (λ (s : Made Curve). curve_words s.made) o ∙ curve_words_append made step.made
        in
        let h : vertex_words (curves_to (i + 1)).made ≡ vs ++ vertex_words step.made =
        ap (λ (s : Made Curve). vertex_words s.made) o ∙ vertex_words_append made step.made
        in
        record {
          within = omega arith;
          fits = m.fits;
          begins =
              ap (λ (k : ℕ). k + get_or rows (2 * i + 1) 0) m.begins ∙ sym (start_suc rows i) ∙ ap (start_of rows) (sym (add-one i));
          spread =
              record { ready = x.ready; within = x.within; lent = omega (arith, m.spread.lent); small = m.spread.small };
          holds = x.entries ∙ ap (λ (s : Made Curve). s.book) (sym o);
          counted =
              x.counted
              ∙ omega (arith, m.counted, vertices_append made step.made, ap (λ (s : Made Curve). curve_vertices_of s.made) o);
          number = omega (arith, m.number, row, length-append cs (curve_words step.made), ap length g);
          wide = x.ends ∙ omega (arith, m.wide, length-append vs (vertex_words step.made), ap length h);
          list =
              x.list
              ∙ ap (λ (w : List ℕ). written w (2 * i) (curve_words step.made)) m.list
              ∙ ap (λ (j : ℕ). written (written new 0 cs) j (curve_words step.made)) (m.number ∙ sym (zero-add (length cs)))
              ∙ written_more new 0 cs (curve_words step.made) (omega (arith, m.number, row, m.fits))
              ∙ ap (written new 0) (sym g);
          strings =
              x.strung
              ∙ ap (λ (w : List ℕ). written w (2 * at) (vertex_words step.made)) m.strings
              ∙ ap (λ (j : ℕ). written (written vertices 0 vs) j (vertex_words step.made)) (m.wide ∙ sym (zero-add (length vs)))
              ∙ written_more vertices 0 vs (vertex_words step.made) (omega (arith, x.ends, m.wide, x.within, m.spread.lent, m.far))
              ∙ ap (written vertices 0) (sym h);
          long = long ∙ m.long;
          far = far ∙ m.far;
          kept = kept ∙ m.kept;
        }

    pub winding_done :
        n ≤ i → Wound base room cells (each (curve kind base) start (curves_in rows words n)) new after vertices strung book₂ at entries
    winding_done l =
        let e : i ≡ n = omega (arith, m.within) in
        let a : curves_to i ≡ each (curve kind base) start (curves_in rows words n) = ap curves_to e ∙ sym curves_all in
        record {
          ready = m.spread.ready;
          entries = m.holds ∙ ap (λ (s : Made Curve). s.book) a;
          counted = m.counted ∙ ap (λ (s : Made Curve). curve_vertices_of s.made) a;
          within = m.spread.within;
          list =
              m.list
              ∙ written_over new (curve_words (curves_to i).made)
              ∙ ap (λ (s : Made Curve). over new (curve_words s.made)) a;
          strung =
              m.strings
              ∙ written_over vertices (vertex_words (curves_to i).made)
              ∙ ap (λ (s : Made Curve). over vertices (vertex_words s.made)) a;
        }
