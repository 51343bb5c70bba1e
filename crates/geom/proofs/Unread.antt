-- A file that was read is what is written for the mesh that it gave: field by field its bytes are the bytes of what was read.
-- Assumes nothing.
use mathlib.Core.Path.{◌≡◌, refl, sym, ap, ap₂, subst, ◌∙◌}
use mathlib.Core.Bool.{Bool, true, false, cond, not, ◌&&◌}
use mathlib.Core.List.{List, [], ◌∷◌, ◌++◌, map, flat_map, append_assoc, append-nil}
use Prim.Native.Nat.{ℕ, zero, suc, ◌+◌, ◌-◌, ◌*◌, ◌/◌, ◌%◌, ◌^◌, ◌<◌}
use native.Mathlib.Omega.{arith}
use lib.Dec.{T, eqb, leb}
use lib.Ieee as Ieee
use lib.Ieee.{Float, nan, inf, fin, binary32, is_nan, of_bits, to_bits}
use lib.Ieee.Bits.{to_bits-of_bits}
use lib.ListN.{length}
use borrow.Author.Tests.{leb-true}
use Rattle.geom.specs.declared.parity.Parity.{Parity}
use Rattle.geom.specs.declared.answer.Sizes.{Sizes}
use Rattle.geom.specs.Book.{Kind}
use Rattle.geom.specs.Elements.{Curve}
use Rattle.geom.specs.Mesh.{Mesh}
use Rattle.geom.specs.Refinement.{LIMIT}
use Rattle.geom.specs.Refusals.{good_flags, good_parity, good_coordinate, good_number}
use Rattle.geom.specs.Memory.{area_corners, volume_corners, parity_of, parity_word}
use Rattle.geom.specs.File as File
use Rattle.geom.specs.File.{Read, read, stop, Reader, and_then, ◌>>=◌, done, judged, several, word_bytes, vertex_bytes, element_bytes, curve_bytes, list_bytes, kind_byte, file_of, Figure}
use Rattle.geom.specs.Between.{All}
use Rattle.geom.proofs.Lists.{same_number}
use Rattle.geom.proofs.Reread.{body}

abbrev pub Bytes : List ℕ → Type 0
Bytes bytes = All (λ (b : ℕ). b < 256) bytes

-- ---- readers and the bytes of what they read

-- behind the front, a reader's bytes are those of what it read, which has a property
pub record Wrote {A : Type 0} (P : A → Type 0) (front : List ℕ) (enc : A → List ℕ) (field : Reader A) : Type 0 where
  pub wrote : (bytes : List ℕ) (x : A) (rest : List ℕ) → Bytes bytes → field bytes ≡ read x rest → (front ++ bytes ≡ enc x ++ rest) × P x

abbrev Any : {A : Type 0} → A → Type 0
Any x = Unit {0}

never : {A : Type 0} (n : ℕ) (x : A) (bytes : List ℕ) → stop n ≡ read x bytes → ⊥
never n x bytes e = let z : ◌≡◌ {A = ℕ} 0 1 = cc in omega arith

all_right : {A : Type 0} (P : A → Type 0) (xs ys : List A) → All P (xs ++ ys) → All P ys
all_right P [] ys a = a
all_right P (x ∷ xs) ys a = all_right P xs ys a.1

wrote_then :
    {A B : Type 0} {P : A → Type 0} {Q : B → Type 0} (front : List ℕ) (e₁ : A → List ℕ) (e₂ : B → List ℕ) (field : Reader A) (next : A → Reader B)
    → Wrote P [] e₁ field → ((x : A) → P x → Wrote Q (front ++ e₁ x) e₂ (next x)) → Wrote Q front e₂ (◌>>=◌ field next)
wrote_then {A} {B} {P} {Q} front e₁ e₂ field next w h = record { wrote = λ bytes y rest a e. go bytes y rest a (field bytes) refl e }
  where
    go : (bytes : List ℕ) (y : B) (rest : List ℕ) → Bytes bytes → (r : Read A) → field bytes ≡ r → and_then r next ≡ read y rest → (front ++ bytes ≡ e₂ y ++ rest) × Q y
    go bytes y rest a (read x more) f k =
        let u = w.wrote bytes x more a f in
        let v = (h x u.1).wrote more y rest (all_right (λ (b : ℕ). b < 256) (e₁ x) more (subst Bytes u.0 a)) k in
        (ap (λ (l : List ℕ). front ++ l) u.0 ∙ sym (append_assoc front (e₁ x) more) ∙ v.0, v.1)
    go bytes y rest a (stop n) f k = absurd (never n y rest k)

wrote_done : {A : Type 0} {P : A → Type 0} (front : List ℕ) (enc : A → List ℕ) (x : A) → front ≡ enc x → P x → Wrote P front enc (done x)
wrote_done {A} {P} front enc x e p = record { wrote = λ bytes y rest a k. go bytes y rest k }
  where
    go : (bytes : List ℕ) (y : A) (rest : List ℕ) → read x bytes ≡ read y rest → (front ++ bytes ≡ enc y ++ rest) × P y
    go bytes y rest k =
        let f : x ≡ y = cc in
        let g : bytes ≡ rest = cc in
        (ap₂ (λ (a b : List ℕ). a ++ b) (e ∙ ap enc f) g, subst P f p)

wrote_judged : {A : Type 0} {P : A → Type 0} (front : List ℕ) (enc : A → List ℕ) (n : ℕ) (good : Bool) (x : A) → (good ≡ true → (front ≡ enc x) × P x) → Wrote P front enc (judged n good x)
unfolding judged
wrote_judged {A} {P} front enc n good x p = record { wrote = λ bytes y rest a k. go good refl bytes y rest a k }
  where
    go : (b : Bool) → good ≡ b → (bytes : List ℕ) (y : A) (rest : List ℕ) → Bytes bytes → cond b (read x bytes) (stop n) ≡ read y rest → (front ++ bytes ≡ enc y ++ rest) × P y
    go true g bytes y rest a k = (wrote_done {P = P} front enc x (p g).0 (p g).1).wrote bytes y rest a k
    go false g bytes y rest a k = absurd (never n y rest k)

-- a test beside a field: no bytes of its own
wrote_test : {A : Type 0} (n : ℕ) (good : Bool) (x : A) → Wrote (λ (y : A). (good ≡ true) × (x ≡ y)) [] (λ (y : A). []) (judged n good x)
wrote_test {A} n good x = wrote_judged {P = λ (y : A). (good ≡ true) × (x ≡ y)} [] (λ (y : A). []) n good x (λ g. (refl, (g, refl)))

-- ---- fields

byte_wrote : Wrote (λ (b : ℕ). b < 256) [] (λ (b : ℕ). b ∷ []) File.byte
unfolding File.byte
byte_wrote = record { wrote = go }
  where
    go : (bytes : List ℕ) (x : ℕ) (rest : List ℕ) → Bytes bytes → File.byte bytes ≡ read x rest → (bytes ≡ x ∷ rest) × (x < 256)
    go [] x rest a e = absurd (never 3 x rest e)
    go (b ∷ bytes) x rest a e = let f : b ≡ x = cc in (cc, subst (λ (k : ℕ). k < 256) f a.0)

word_bytes_lem : (a b c d : ℕ) → a < 256 → b < 256 → c < 256 → d < 256 → word_bytes (((a * 256 + b) * 256 + c) * 256 + d) ≡ a ∷ b ∷ c ∷ d ∷ []
unfolding word_bytes
word_bytes_lem a b c d ha hb hc hd =
    let n = ((a * 256 + b) * 256 + c) * 256 + d in
    let p : n / 2 ^ 24 % 256 ≡ a = omega arith in
    let q : n / 2 ^ 16 % 256 ≡ b = omega arith in
    let r : n / 2 ^ 8 % 256 ≡ c = omega arith in
    let s : n % 256 ≡ d = omega arith in
    λ i. p i ∷ q i ∷ r i ∷ s i ∷ []

word_wrote : Wrote (λ (n : ℕ). n < 2 ^ 32) [] word_bytes File.word
unfolding File.word
word_wrote = record { wrote = go }
  where
    go : (bytes : List ℕ) (x : ℕ) (rest : List ℕ) → Bytes bytes → File.word bytes ≡ read x rest → (bytes ≡ word_bytes x ++ rest) × (x < 2 ^ 32)
    go [] x rest h e = absurd (never 3 x rest e)
    go (a ∷ []) x rest h e = absurd (never 3 x rest e)
    go (a ∷ b ∷ []) x rest h e = absurd (never 3 x rest e)
    go (a ∷ b ∷ c ∷ []) x rest h e = absurd (never 3 x rest e)
    go (a ∷ b ∷ c ∷ d ∷ bytes) x rest h e =
        let ha = h.0 in
        let hb = h.1.0 in
        let hc = h.1.1.0 in
        let hd = h.1.1.1.0 in
        let f : ((a * 256 + b) * 256 + c) * 256 + d ≡ x = cc in
        let g : bytes ≡ rest = cc in (
          ap₂ (λ (l r : List ℕ). l ++ r) (sym (word_bytes_lem a b c d ha hb hc hd) ∙ ap word_bytes f) g,
          omega arith,
        )

counted_wrote : (lent : ℕ) → Wrote Any [] word_bytes (File.counted lent)
unfolding File.counted
counted_wrote lent =
    wrote_then [] word_bytes word_bytes File.word _ word_wrote
    (λ n p. wrote_judged (word_bytes n) word_bytes 10 (leb n lent && leb n LIMIT) n (λ g. (refl, tt)))

-- an accepted coordinate is a number
good_number_lem : (c : Float) → good_coordinate c ≡ true → T (not (is_nan c))
unfolding good_coordinate Ieee.le Ieee.lt Ieee.eq is_nan
good_number_lem nan e = let z : ◌≡◌ {A = ℕ} 0 1 = cc in absurd (omega arith)
good_number_lem (inf s) e = tt
good_number_lem (fin s m d) e = tt

abbrev float : Float → List ℕ
float c = word_bytes (to_bits binary32 c)

coordinate_wrote : Wrote Any [] float File.coordinate
unfolding File.coordinate
coordinate_wrote =
    wrote_then [] word_bytes float File.word _ word_wrote
    (λ n p.
    let c = of_bits binary32 n in
    wrote_judged (word_bytes n) float 6 (good_coordinate c) c
    (λ g. (ap word_bytes (sym (to_bits-of_bits binary32 n p (good_number_lem c g))), tt)))

vertex_front : (x y z w : Float) (f flags tag k : ℕ) → f ≡ flags
    → float x ++ float y ++ float z ++ float w ++ (f ∷ []) ++ [] ++ word_bytes tag ++ word_bytes k
    ≡ vertex_bytes (record { position = record { x = x; y = y; z = z; w = w }; flags = flags; tag = tag; k = k })
unfolding vertex_bytes word_bytes
vertex_front x y z w f flags tag k e =
    ap (λ (b : ℕ). float x ++ float y ++ float z ++ float w ++ (b ∷ []) ++ [] ++ word_bytes tag ++ word_bytes k) e

vertex_wrote : Wrote Any [] vertex_bytes File.vertex
unfolding File.vertex
vertex_wrote =
    wrote_then [] float vertex_bytes File.coordinate _ coordinate_wrote
    (λ x px.
    let f₁ = [] ++ float x in
    wrote_then f₁ float vertex_bytes File.coordinate _ coordinate_wrote
    (λ y py.
    let f₂ = f₁ ++ float y in
    wrote_then f₂ float vertex_bytes File.coordinate _ coordinate_wrote
    (λ z pz.
    let f₃ = f₂ ++ float z in
    wrote_then f₃ float vertex_bytes File.coordinate _ coordinate_wrote
    (λ w pw.
    let f₄ = f₃ ++ float w in
    wrote_then f₄ (λ (b : ℕ). b ∷ []) vertex_bytes File.byte _ byte_wrote
    (λ f pf.
    let f₅ = f₄ ++ f ∷ [] in
    wrote_then f₅ (λ (b : ℕ). []) vertex_bytes (judged 5 (good_flags f) f) _ (wrote_test 5 (good_flags f) f)
    (λ flags g.
    let f₆ = f₅ ++ [] in
    wrote_then f₆ word_bytes vertex_bytes File.word _ word_wrote
    (λ tag pt.
    let f₇ = f₆ ++ word_bytes tag in
    wrote_then f₇ word_bytes vertex_bytes File.word _ word_wrote
    (λ k pk.
    wrote_done (f₇ ++ word_bytes k) vertex_bytes _ (vertex_front x y z w f flags tag k g.1) tt))))))))

number_wrote : (count : ℕ) → Wrote Any [] word_bytes (File.number count)
unfolding File.number
number_wrote count =
    wrote_then [] word_bytes word_bytes File.word _ word_wrote
    (λ v p. wrote_judged (word_bytes v) word_bytes 7 (good_number count v) v (λ g. (refl, tt)))

parity_word_lem : (p : ℕ) → good_parity p ≡ true → p ≡ parity_word (parity_of p)
unfolding good_parity
parity_word_lem zero e = refl
parity_word_lem (suc zero) e = refl
parity_word_lem (suc (suc p)) e = let h = leb-true (suc (suc p)) 1 e in absurd (omega arith)

abbrev mark : Parity → List ℕ
mark p = parity_word p ∷ []

parity_wrote : Wrote Any [] mark File.parity
unfolding File.parity
parity_wrote =
    wrote_then [] (λ (b : ℕ). b ∷ []) mark File.byte _ byte_wrote
    (λ p h. wrote_judged (p ∷ []) mark 5 (good_parity p) (parity_of p) (λ g. (ap (λ (b : ℕ). b ∷ []) (parity_word_lem p g), tt)))

-- ---- one after the other

several_wrote :
    {A : Type 0} (enc : A → List ℕ) (field : Reader A) → Wrote Any [] enc field → (n : ℕ)
    → Wrote (λ (xs : List A). length xs ≡ n) [] (flat_map enc) (several n field)
unfolding several flat_map
several_wrote enc field w zero = wrote_done [] (flat_map enc) [] refl refl
several_wrote {A} enc field w (suc n) =
    wrote_then [] enc (flat_map enc) field _ w
    (λ x p.
    wrote_then (enc x) (flat_map enc) (flat_map enc) (several n field) _ (several_wrote enc field w n)
    (λ xs l. wrote_done {P = λ (ys : List A). length ys ≡ suc n} (enc x ++ flat_map enc xs) (flat_map enc) (x ∷ xs) refl (ap suc l)))

element_wrote : (count corners : ℕ) → Wrote Any [] element_bytes (File.element count corners)
unfolding File.element element_bytes
element_wrote count corners =
    wrote_then [] (flat_map word_bytes) element_bytes (several corners (File.number count)) _ (several_wrote word_bytes (File.number count) (number_wrote count) corners)
    (λ vs l.
    wrote_then (flat_map word_bytes vs) mark element_bytes File.parity _ parity_wrote
    (λ p u. wrote_done (flat_map word_bytes vs ++ mark p) element_bytes _ refl tt))

-- ---- curves

curve_count_wrote : (lent before : ℕ) → Wrote Any [] word_bytes (File.curve_count lent before)
unfolding File.curve_count
curve_count_wrote lent before =
    wrote_then [] word_bytes word_bytes File.word _ word_wrote
    (λ n p.
    wrote_then (word_bytes n) (λ (b : ℕ). []) word_bytes (judged 8 (not (eqb n 0)) n) _ (wrote_test 8 (not (eqb n 0)) n)
    (λ some h.
    wrote_judged (word_bytes n ++ []) word_bytes 10 (leb (before + some) lent && leb (before + some) LIMIT) some
    (λ g. (append-nil (word_bytes n) ∙ ap word_bytes h.1, tt))))

marks : (ps : List Parity) → flat_map mark ps ≡ map parity_word ps
unfolding flat_map
marks [] = refl
marks (p ∷ ps) = ap (λ (l : List ℕ). parity_word p ∷ l) (marks ps)

curve_wrote : (count lent before : ℕ) → Wrote Any [] curve_bytes (File.curve count lent before)
unfolding File.curve curve_bytes
curve_wrote count lent before =
    wrote_then [] word_bytes curve_bytes File.word _ word_wrote
    (λ tag pt.
    let f₁ = word_bytes tag in
    wrote_then f₁ word_bytes curve_bytes (File.curve_count lent before) _ (curve_count_wrote lent before)
    (λ n pn.
    let f₂ = f₁ ++ word_bytes n in
    wrote_then f₂ (flat_map word_bytes) curve_bytes (several n (File.number count)) _ (several_wrote word_bytes (File.number count) (number_wrote count) n)
    (λ vs lv.
    let f₃ = f₂ ++ flat_map word_bytes vs in
    wrote_then f₃ (flat_map mark) curve_bytes (several (n - 1) File.parity) _ (several_wrote mark File.parity parity_wrote (n - 1))
    (λ ps lp.
    wrote_done (f₃ ++ flat_map mark ps) curve_bytes _
    (ap₂ (λ (k : ℕ) (l : List ℕ). f₁ ++ word_bytes k ++ flat_map word_bytes vs ++ l) (sym lv) (marks ps)) tt))))

curves_wrote : (count lent n before : ℕ) → Wrote (λ (cs : List Curve). length cs ≡ n) [] (flat_map curve_bytes) (File.curves count lent n before)
unfolding File.curves flat_map
curves_wrote count lent zero before = wrote_done [] (flat_map curve_bytes) [] refl refl
curves_wrote count lent (suc n) before =
    wrote_then [] curve_bytes (flat_map curve_bytes) (File.curve count lent before) _ (curve_wrote count lent before)
    (λ c p.
    wrote_then (curve_bytes c) (flat_map curve_bytes) (flat_map curve_bytes) (File.curves count lent n (before + length c.vertices)) _
    (curves_wrote count lent n (before + length c.vertices))
    (λ cs l. wrote_done {P = λ (ds : List Curve). length ds ≡ suc n} (curve_bytes c ++ flat_map curve_bytes cs) (flat_map curve_bytes) (c ∷ cs) refl (ap suc l)))

-- ---- the whole file

regroup : (a b c d e f g h i j k l : List ℕ)
    → a ++ b ++ c ++ d ++ e ++ f ++ g ++ h ++ i ++ j ++ k ++ l ≡ (a ++ b) ++ (c ++ d) ++ (e ++ f) ++ (g ++ h) ++ (i ++ j) ++ (k ++ l)
regroup a b c d e f g h i j k l = simp append_assoc

-- a list behind its count
pub counted_list : {A : Type 0} (enc : A → List ℕ) (xs : List A) (n : ℕ) → length xs ≡ n → word_bytes n ++ flat_map enc xs ≡ list_bytes enc xs
unfolding list_bytes
counted_list enc xs n l = ap (λ (k : ℕ). word_bytes k ++ flat_map enc xs) (sym l)

lists_wrote : (kind : Kind) (lent : Sizes) → Wrote Any [] body (File.lists kind lent)
unfolding File.lists File.line
lists_wrote kind lent =
    wrote_then [] word_bytes body (File.counted lent.vertices) _ (counted_wrote lent.vertices)
    (λ n _.
    let f₁ = word_bytes n in
    wrote_then f₁ (flat_map vertex_bytes) body (several n File.vertex) _ (several_wrote vertex_bytes File.vertex vertex_wrote n)
    (λ vs lv.
    let f₂ = f₁ ++ flat_map vertex_bytes vs in
    wrote_then f₂ word_bytes body (File.counted lent.points) _ (counted_wrote lent.points)
    (λ p _.
    let f₃ = f₂ ++ word_bytes p in
    wrote_then f₃ (flat_map word_bytes) body (several p (File.number n)) _ (several_wrote word_bytes (File.number n) (number_wrote n) p)
    (λ ps lp.
    let f₄ = f₃ ++ flat_map word_bytes ps in
    wrote_then f₄ word_bytes body (File.counted lent.lines) _ (counted_wrote lent.lines)
    (λ l _.
    let f₅ = f₄ ++ word_bytes l in
    wrote_then f₅ (flat_map element_bytes) body (several l (File.element n 2)) _ (several_wrote element_bytes (File.element n 2) (element_wrote n 2) l)
    (λ ls ll.
    let f₆ = f₅ ++ flat_map element_bytes ls in
    wrote_then f₆ word_bytes body (File.counted lent.areas) _ (counted_wrote lent.areas)
    (λ a _.
    let f₇ = f₆ ++ word_bytes a in
    wrote_then f₇ (flat_map element_bytes) body (several a (File.element n (area_corners kind))) _ (several_wrote element_bytes (File.element n (area_corners kind)) (element_wrote n (area_corners kind)) a)
    (λ bs la.
    let f₈ = f₇ ++ flat_map element_bytes bs in
    wrote_then f₈ word_bytes body (File.counted lent.volumes) _ (counted_wrote lent.volumes)
    (λ s _.
    let f₉ = f₈ ++ word_bytes s in
    wrote_then f₉ (flat_map element_bytes) body (several s (File.element n (volume_corners kind))) _ (several_wrote element_bytes (File.element n (volume_corners kind)) (element_wrote n (volume_corners kind)) s)
    (λ ss ls'.
    let f₁₀ = f₉ ++ flat_map element_bytes ss in
    wrote_then f₁₀ word_bytes body (File.counted lent.curves) _ (counted_wrote lent.curves)
    (λ c _.
    let f₁₁ = f₁₀ ++ word_bytes c in
    wrote_then f₁₁ (flat_map curve_bytes) body (File.curves n lent.curve_vertices c 0) _ (curves_wrote n lent.curve_vertices c 0)
    (λ cs lc.
    wrote_done (f₁₁ ++ flat_map curve_bytes cs) body _
    (regroup (word_bytes n) (flat_map vertex_bytes vs) (word_bytes p) (flat_map word_bytes ps) (word_bytes l) (flat_map element_bytes ls) (word_bytes a) (flat_map element_bytes bs) (word_bytes s) (flat_map element_bytes ss) (word_bytes c) (flat_map curve_bytes cs)
    ∙ rw (counted_list vertex_bytes vs n lv, counted_list word_bytes ps p lp, counted_list element_bytes ls l ll, counted_list element_bytes bs a la, counted_list element_bytes ss s ls', counted_list curve_bytes cs c lc) refl)
    tt))))))))))))

kind_byte_lem : (b : ℕ) → leb b 1 ≡ true → b ≡ kind_byte (File.kind_of b)
kind_byte_lem zero e = refl
kind_byte_lem (suc zero) e = refl
kind_byte_lem (suc (suc b)) e = let h = leb-true (suc (suc b)) 1 e in absurd (omega arith)

kind_wrote : Wrote Any [] (λ (k : Kind). kind_byte k ∷ []) File.kind_field
unfolding File.kind_field
kind_wrote =
    wrote_then [] (λ (b : ℕ). b ∷ []) (λ (k : Kind). kind_byte k ∷ []) File.byte _ byte_wrote
    (λ b h. wrote_judged (b ∷ []) (λ (k : Kind). kind_byte k ∷ []) 2 (leb b 1) (File.kind_of b) (λ g. (ap (λ (a : ℕ). a ∷ []) (kind_byte_lem b g), tt)))

-- the file of a figure
abbrev pub file_for : Figure → List ℕ
file_for f = file_of f.kind f.mesh

end_wrote : (front : List ℕ) (f : Figure) → front ≡ file_for f → Wrote Any front file_for (File.end f)
unfolding File.end
end_wrote front f e = record { wrote = go }
  where
    go : (bytes : List ℕ) (x : Figure) (rest : List ℕ) → Bytes bytes → File.end f bytes ≡ read x rest → (front ++ bytes ≡ file_for x ++ rest) × Any x
    go [] x rest a k = (wrote_done {P = Any} front file_for f e tt).wrote [] x rest a k
    go (b ∷ bytes) x rest a k = absurd (never 4 x rest k)

version : (v : ℕ) (kind : Kind) (m : Mesh) → eqb v 1 ≡ true → (v ∷ []) ++ [] ++ (kind_byte kind ∷ []) ++ body m ≡ file_of kind m
unfolding file_of
version v kind m e = ap (λ (n : ℕ). n ∷ kind_byte kind ∷ body m) (same_number v 1 e)

figure_wrote : (lent : Kind → Sizes) → Wrote Any [] file_for (File.figure lent)
unfolding File.figure
figure_wrote lent =
    wrote_then [] (λ (b : ℕ). b ∷ []) file_for File.byte _ byte_wrote
    (λ v pv.
    wrote_then (v ∷ []) (λ (b : ℕ). []) file_for (judged 1 (eqb v 1) v) _ (wrote_test 1 (eqb v 1) v)
    (λ u h.
    wrote_then (v ∷ []) (λ (k : Kind). kind_byte k ∷ []) file_for File.kind_field _ kind_wrote
    (λ kind pk.
    wrote_then (v ∷ kind_byte kind ∷ []) body file_for (File.lists kind (lent kind)) _ (lists_wrote kind (lent kind))
    (λ m pm. end_wrote (v ∷ kind_byte kind ∷ body m) (record { kind = kind; mesh = m }) (version v kind m h.0)))))

-- A file that is accepted, read and written, has its old bytes.
pub writes_back : (lent : Kind → Sizes) (bytes : List ℕ) (f : Figure) → All (λ (b : ℕ). b < 256) bytes → File.figure lent bytes ≡ read f [] → file_of f.kind f.mesh ≡ bytes
writes_back lent bytes f a e = sym (((figure_wrote lent).wrote bytes f [] a e).0 ∙ append-nil (file_for f))
