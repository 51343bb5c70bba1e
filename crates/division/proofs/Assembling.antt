-- The pieces of an element, written one behind the other behind the rows that stand, flat ones left out.
-- Assumes nothing.
use mathlib.Core.Path.{◌≡◌, refl, sym, ◌∙◌, ap, ap₂, subst}
use mathlib.Core.Bool.{Bool, true, false}
use mathlib.Core.Logic.{⊎_elim}
use mathlib.Core.List.{List, [], ◌∷◌, ◌++◌, flat_map, append-nil}
use Prim.Native.Nat.{ℕ, zero, suc, ◌+◌, ◌*◌, ◌-◌, ◌/◌, ◌<◌, ◌≤◌}
use native.Mathlib.Omega.{arith}
use native.Mathlib.Nat.{eq-or-lt_of_le, add-zero, zero-add, mul-zero, mul-suc, mul_comm, mul-le-mul_left, le-div_iff_mul-le, div-eq_of_lt-le}
use native.Mathlib.Numerals.{add-one}
use lib.ListN.{length, get_or, take, drop, set, length-append, length-drop, get_or-append}
use lib.Seq.{drop_at, get_or-drop, drop-drop}
use Rattle.std.proofs.lemmas.List.{take-append-le}
use Rattle.geom.specs.declared.parity.Parity.{Parity}
use Rattle.geom.specs.Parity.{times}
use Rattle.std.specs.Prelude.{Result, Ok, Err}
use Rattle.geom.specs.Book.{Pair, Made}
use Rattle.book.specs.declared.Full.{Full}
use Rattle.book.specs.declared.Book.{Book as Held}
use Rattle.geom.specs.Elements.{Element, Row, pick, flat, unless, pieces}
use Rattle.geom.specs.Memory.{first_of, element_row, element_words, parity_of, parity_word}
use Rattle.geom.proofs.Rows.{map_first_of}
use Rattle.division.specs.Writing.{written, Laid, Laying, Extends, Exceeds, Extended}
use Rattle.division.specs.Shapes.{below, row_of, table_of, axes_of, kept_from}
use Rattle.division.proofs.Rows.{written_none, written_set, written_more, length_written}
use Rattle.division.proofs.Tables.{below_at, below_all}
use Rattle.division.proofs.Dividing.{row_words, words_append, row_on, length_pick}

-- ── elements behind the rows that stand ──

-- a row that has a cell has its words
pub row_room : (k rows cells l : ℕ) → rows < cells → suc k * cells ≤ l → (k + 1) * rows + suc k ≤ l
row_room k rows cells l a b =
    let m = mul-le-mul_left (suc k) a in
    let d = mul-suc (suc k) rows in
    let e = ap (λ (w : ℕ). w * rows) (add-one k) in
    omega arith

-- rows that are written one after the other
module _ {k cells rows : ℕ} {new : List ℕ} where
  -- no element
  pub laid_none : rows ≤ cells → suc k * cells ≤ length new → Laid k cells rows [] new new rows
  unfolding element_words flat_map
  laid_none l lent =
      record {
        counted = sym (add-zero rows);
        within = l;
        ends = sym (add-zero (suc k * rows));
        list = sym (written_none new (suc k * rows) (omega (arith, mul-le-mul_left (suc k) l)));
      }

  -- the slice keeps its length
  pub laid_length : {es : List Element} {words : List ℕ} {r : ℕ} → Laid k cells rows es new words r → suc k * cells ≤ length new → length words ≡ length new
  laid_length {es} {words} {r} x lent =
      ap length x.list
      ∙ length_written new (suc k * rows) (element_words es) (omega (arith, x.ends, mul-le-mul_left (suc k) x.within))

  -- more elements
  pub laid_more :
      {es more : List Element} {words after : List ℕ} {r t : ℕ} → Laid k cells rows es new words r → suc k * cells ≤ length new
      → Laid k cells r more words after t → Laid k cells rows (es ++ more) new after t
  laid_more {es} {more} {words} {after} {r} {t} x lent y =
      let out = element_words es in
      let next = element_words more in
      let g : element_words (es ++ more) ≡ out ++ next = words_append es more in
      record {
        counted = omega (arith, x.counted, y.counted, length-append es more);
        within = y.within;
        ends = y.ends ∙ omega (arith, x.ends, ap length g, length-append out next);
        list =
            y.list
            ∙ ap (λ (w : List ℕ). written w (suc k * r) next) x.list
            ∙ ap (λ (j : ℕ). written (written new (suc k * rows) out) j next) x.ends
            ∙ written_more new (suc k * rows) out next (omega (arith, x.ends, y.ends, mul-le-mul_left (suc k) y.within))
            ∙ ap (written new (suc k * rows)) (sym g);
      }

  -- one element: its corners, and then the word of its parity
  pub laid_one :
      {cs after : List ℕ} {p : Parity} {at w : ℕ} → length cs ≡ k → rows < cells → suc k * cells ≤ length new → at ≡ (k + 1) * rows
      → after ≡ written new at cs → w ≡ parity_word p → Laid k cells rows (record { corners = cs; parity = p } ∷ []) new (set after (at + k) w) (rows + 1)
  unfolding element_words flat_map
  laid_one {cs} {after} {p} {at} {w} wide l lent place is word =
      let e : Element = record { corners = cs; parity = p } in
      let here : at ≡ suc k * rows = place ∙ ap (λ (j : ℕ). j * rows) (add-one k) in
      let room = row_room k rows cells (length new) l lent in
      let n : at + k ≡ at + length cs = omega arith in
      let g : element_words (e ∷ []) ≡ row_words e = append-nil (row_words e) in
      let row = length-append cs (parity_word p ∷ []) in
      record {
        counted = refl;
        within = omega arith;
        ends = sym (row_on k rows) ∙ omega (arith, row, ap length g);
        list =
            ap (λ (x : List ℕ). set x (at + k) w) is
            ∙ ap (λ (j : ℕ). set (written new at cs) j w) n
            ∙ written_set new at cs w (omega arith)
            ∙ ap (λ (v : ℕ). written new at (cs ++ v ∷ [])) word
            ∙ ap (λ (j : ℕ). written new j (row_words e)) here
            ∙ ap (written new (suc k * rows)) (sym g);
      }

-- ── one piece, or none ──

module _ (k : ℕ) (p : Parity) (points table axes : List ℕ) (from : ℕ) where
  -- the corners of the piece
  abbrev corners : List ℕ
  corners = pick points (take k (drop from table))

  -- the piece
  abbrev piece : Element
  piece = record { corners = corners; parity = times (parity_of (get_or table (from + k) 0)) p }

  pub kept_flat :
      {cells rows : ℕ} {new : List ℕ} → true ≡ flat (axes_of k axes) corners → rows ≤ cells → suc k * cells ≤ length new
      → Laid k cells rows (kept_from k p points table axes from) new new rows
  kept_flat {cells} {rows} {new} f l lent = subst (λ (b : Bool). Laid k cells rows (unless b piece []) new new rows) f (laid_none l lent)

  pub kept_full : {cells rows : ℕ} → false ≡ flat (axes_of k axes) corners → rows ≡ cells → cells < rows + length (kept_from k p points table axes from)
  kept_full {cells} {rows} f e = subst (λ (b : Bool). cells < rows + length (unless b piece [])) f (omega arith)

  pub kept_laid :
      {cells rows at w : ℕ} {new after : List ℕ} → false ≡ flat (axes_of k axes) corners → rows < cells → suc k * cells ≤ length new
      → from + suc k ≤ length table → at ≡ (k + 1) * rows → after ≡ written new at corners
      → w ≡ parity_word (times (parity_of (get_or table (from + k) 0)) p)
      → Laid k cells rows (kept_from k p points table axes from) new (set after (at + k) w) (rows + 1)
  kept_laid {cells} {rows} {at} {w} {new} {after} f l lent row place is word =
      subst (λ (b : Bool). Laid k cells rows (unless b piece []) new (set after (at + k) w) (rows + 1)) f
      (laid_one (length_pick points table from k row) l lent place is word)

-- ── the pieces of a table ──

pub pieces_append :
    (axes : List (List Pair)) (p : Parity) (points : List ℕ) (xs ys : List Row)
    → pieces axes p points (xs ++ ys) ≡ pieces axes p points xs ++ pieces axes p points ys
unfolding pieces
pieces_append axes p points [] ys = refl
pieces_append axes p points (r ∷ xs) ys =
    ap (unless b e) (pieces_append axes p points xs ys) ∙ go b
  where
    b : Bool
    b = flat axes (pick points r.places)

    e : Element
    e = record { corners = pick points r.places; parity = times r.parity p }

    go : (b : Bool) → unless b e (pieces axes p points xs ++ pieces axes p points ys) ≡ unless b e (pieces axes p points xs) ++ pieces axes p points ys
    go true = refl
    go false = refl

module _ (k : ℕ) (p : Parity) (points table axes : List ℕ) where
  -- the pieces of the first i rows
  abbrev pub pieces_to : ℕ → List Element
  pieces_to i = pieces (axes_of k axes) p points (first_of (λ (j : ℕ). row_of (element_row k table j)) i)

  pieces_all : pieces (axes_of k axes) p points (table_of k table) ≡ pieces_to (length table / suc k)
  unfolding table_of
  pieces_all = ap (pieces (axes_of k axes) p points) (map_first_of row_of (element_row k table) (length table / suc k))

  pieces_suc : (i : ℕ) → pieces_to (suc i) ≡ pieces_to i ++ kept_from k p points table axes (suc k * i)
  unfolding first_of pieces row_of element_row
  pieces_suc i =
      pieces_append (axes_of k axes) p points (first_of (λ (j : ℕ). row_of (element_row k table j)) i) (row_of (element_row k table i) ∷ [])

  -- more rows make no fewer pieces
  pieces_grow : (i n : ℕ) → i ≤ n → length (pieces_to i) ≤ length (pieces_to n)
  pieces_grow i zero l = let e : i ≡ 0 = omega arith in let f = ap (λ (j : ℕ). length (pieces_to j)) e in omega arith
  pieces_grow i (suc n) l =
      let s = ap length (pieces_suc n) in
      let a = length-append (pieces_to n) (kept_from k p points table axes (suc k * n)) in
      let ih = pieces_grow i n in
      ⊎_elim
      (λ (e : i ≡ suc n). let f = ap (λ (j : ℕ). length (pieces_to j)) e in omega arith)
      (λ (m : i < suc n). let g = ih (omega arith) in omega arith)
      (eq-or-lt_of_le l)

  -- the pieces of the rows before the word `from` of the table stand
  pub record Assembling (cells rows : ℕ) (new : List ℕ) (from filled : ℕ) (words : List ℕ) : Type 0 where
    pub turn : ℕ
    pub came : from ≡ suc k * turn
    pub within : from ≤ length table
    pub lent : suc k * cells ≤ length new
    pub laid : Laid k cells rows (pieces_to turn) new words filled

  pub assembling_start : {cells rows : ℕ} {new : List ℕ} → rows ≤ cells → suc k * cells ≤ length new → Assembling cells rows new 0 rows new
  unfolding first_of pieces
  assembling_start l lent = record { turn = 0; came = sym (mul-zero (suc k)); within = omega arith; lent = lent; laid = laid_none l lent }

  -- what a turn knows: its row is within the table
  pub record Turn (cells : ℕ) (new : List ℕ) (from filled : ℕ) (words : List ℕ) : Type 0 where
    pub row : from + suc k ≤ length table
    pub within : filled ≤ cells
    pub long : length words ≡ length new
    pub lent : suc k * cells ≤ length words

  module _ {cells rows : ℕ} {new : List ℕ} {from filled : ℕ} {words : List ℕ} (a : Assembling cells rows new from filled words) where
    pub assembling_turn : k < length table - from → Turn cells new from filled words
    assembling_turn l =
        let long = laid_length a.laid a.lent in
        record { row = omega (arith, a.within); within = a.laid.within; long = long; lent = omega (arith, a.lent) }

    -- the next row
    next : pieces_to (suc a.turn) ≡ pieces_to a.turn ++ kept_from k p points table axes from
    next = pieces_suc a.turn ∙ ap (λ (j : ℕ). pieces_to a.turn ++ kept_from k p points table axes j) (sym a.came)

    pub assembling_on :
        {after : List ℕ} {r : ℕ} → from + suc k ≤ length table → Laid k cells filled (kept_from k p points table axes from) words after r
        → Assembling cells rows new (from + (k + 1)) r after
    assembling_on {after} {r} l x =
        record {
          turn = suc a.turn;
          came = omega (arith, mul-suc (suc k) a.turn, a.came);
          within = omega arith;
          lent = a.lent;
          laid = subst (λ (es : List Element). Laid k cells rows es new after r) (sym next) (laid_more a.laid a.lent x);
        }

    -- no cell for the next piece: then none for all
    pub assembling_full :
        from + suc k ≤ length table → cells < filled + length (kept_from k p points table axes from)
        → cells < rows + length (pieces (axes_of k axes) p points (table_of k table))
    assembling_full l x =
        let n = a.turn in
        let turn : suc n ≤ length table / suc k =
        (le-div_iff_mul-le {k = suc k} {x = suc n} {y = length table} (omega arith)).1
        (omega (arith, a.came, mul-suc (suc k) n, mul_comm (suc n) (suc k)))
        in
        omega (
          arith,
          a.laid.counted,
          ap length next,
          length-append (pieces_to n) (kept_from k p points table axes from),
          ap length pieces_all,
          pieces_grow (suc n) (length table / suc k) turn,
        )

    pub assembling_done :
        length table - from ≤ k → Laid k cells rows (pieces (axes_of k axes) p points (table_of k table)) new words filled
    assembling_done l =
        let n = a.turn in
        let e : length table / suc k ≡ n =
        div-eq_of_lt-le {k = n} (suc k) {m = length table} (omega (arith, a.came, a.within, mul_comm n (suc k)))
        (omega (arith, a.came, a.within, mul-suc (suc k) n, mul_comm (suc n) (suc k), add-one n))
        in
        subst (λ (es : List Element). Laid k cells rows es new words filled) (ap pieces_to (sym e) ∙ sym pieces_all) a.laid

  -- ── the rows, cut off one after the other ──

  pub record Rowing (cells rows : ℕ) (new rest : List ℕ) (size filled : ℕ) (words : List ℕ) : Type 0 where
    pub from : ℕ
    pub assembling : Assembling cells rows new from filled words
    pub lies : rest ≡ drop from table
    pub wide : size ≡ k + 1

  pub rowing_start :
      {cells rows size : ℕ} {new rest : List ℕ} → rest ≡ table → size ≡ k + 1 → rows ≤ cells → suc k * cells ≤ length new
      → Rowing cells rows new rest size rows new
  rowing_start e w l lent = record { from = 0; assembling = assembling_start l lent; lies = e; wide = w }

  module _ {cells rows : ℕ} {new rest : List ℕ} {size filled : ℕ} {words : List ℕ} (r : Rowing cells rows new rest size filled words) where
    pub rowing_done : length rest < size → Laid k cells rows (pieces (axes_of k axes) p points (table_of k table)) new words filled
    rowing_done l = assembling_done r.assembling (omega (arith, ap length r.lies, length-drop r.from table, r.wide))

    module _ (x after : List ℕ) (cut : rest ≡ x ++ after) (long : length x ≡ size) where
      row_lies : k < length table - r.from
      row_lies = omega (arith, ap length (sym r.lies ∙ cut), length-append x after, length-drop r.from table, r.wide, long)

      pub rowing_turn : Turn cells new r.from filled words
      rowing_turn = assembling_turn r.assembling row_lies

      row_is : kept_from k p points x axes 0 ≡ kept_from k p points table axes r.from
      row_is =
          let ws : take k x ≡ take k (drop r.from table) = sym (take-append-le k x after (omega (arith, r.wide))) ∙ ap (take k) (sym cut ∙ r.lies) in
          let w : get_or x (0 + k) 0 ≡ get_or table (r.from + k) 0 =
          ap (λ (i : ℕ). get_or x i 0) (zero-add k)
          ∙ sym (get_or-append x after 0 k (omega (arith, r.wide)))
          ∙ ap (λ (y : List ℕ). get_or y k 0) (sym cut ∙ r.lies)
          ∙ get_or-drop r.from table k 0
          in
          ap₂
          (λ (cs : List ℕ) (f : ℕ).
          unless (flat (axes_of k axes) (pick points cs)) (record { corners = pick points cs; parity = times (parity_of f) p }) [])
          ws w

      pub row_below : (n : ℕ) → below n table ≡ true → below n x ≡ true
      row_below n e =
          below_all n x
          (λ i l.
          let a : get_or x i 0 ≡ get_or table (r.from + i) 0 =
          sym (get_or-append x after 0 i l) ∙ ap (λ (y : List ℕ). get_or y i 0) (sym cut ∙ r.lies) ∙ get_or-drop r.from table i 0
          in
          let b = below_at n table e (r.from + i) (omega (arith, rowing_turn.row, r.wide)) in
          omega (arith, a, b))

      pub rowing_full :
          cells < filled + length (kept_from k p points x axes 0)
          → cells < rows + length (pieces (axes_of k axes) p points (table_of k table))
      rowing_full l =
          assembling_full r.assembling rowing_turn.row (subst (λ (es : List Element). cells < filled + length es) row_is l)

      pub rowing_on :
          {size' next : ℕ} {now : List ℕ} → size' ≡ size → Laid k cells filled (kept_from k p points x axes 0) words now next
          → Rowing cells rows new after size' next now
      rowing_on {size'} {next} {now} e l =
          record {
            from = r.from + (k + 1);
            assembling = assembling_on r.assembling rowing_turn.row (subst (λ (es : List Element). Laid k cells filled es words now next) row_is l);
            lies = sym (drop_at x after (k + 1) (long ∙ r.wide)) ∙ ap (drop (k + 1)) (sym cut ∙ r.lies) ∙ drop-drop (k + 1) r.from table;
            wide = e ∙ r.wide;
          }

-- ── the last thing that is written ──

-- how the pieces end, the list ends
pub ends_as :
    {k cells rows : ℕ} {es : List Element} {m : Made Element} {new after : List ℕ} (b book : Held)
    → ((r : ℕ) → Laid k cells rows es new after r → Extends k b.base b.room cells rows m new after book.cells.now r book.made)
    → (cells < rows + length es → Exceeds b.room cells rows m)
    → (x : Result ℕ Full) → Laying k cells rows es new after x → Extended k cells rows m new after b book x
ends_as b book fits bursts (Ok r) x = fits r x
ends_as b book fits bursts (Err e) x = bursts x
