-- The bytes of a mesh, read: each field gives back what was written, whatever stands behind it. Assumes nothing.
use mathlib.Core.Path.{◌≡◌, refl, sym, ap, ◌∙◌}
use mathlib.Core.Bool.{Bool, true, cond, not, ◌&&◌}
use mathlib.Core.List.{List, [], ◌∷◌, ◌++◌, map, flat_map, append_assoc, append-nil}
use Prim.Native.Nat.{ℕ, suc, ◌+◌, ◌-◌, ◌*◌, ◌/◌, ◌%◌, ◌^◌, ◌≤◌, ◌<◌}
use native.Mathlib.Omega.{arith}
use native.Mathlib.Nat.{div-add-mod', div-div-eq-div-mul}
use lib.Dec.{T, eqb, leb}
use lib.Ieee.{Float, binary32, fits, to_bits}
use lib.Ieee.Bits.{of_bits-to_bits, to_bits-lt}
use lib.ListN.{length}
use borrow.Author.Tests.{le-leb}
use Rattle.geom.specs.declared.parity.Parity.{Parity}
use Rattle.geom.specs.declared.parity.Parity.TheVariants.{Even, Odd}
use Rattle.geom.specs.declared.vertex.Vertex.{Vertex}
use Rattle.geom.specs.declared.answer.Sizes.{Sizes}
use Rattle.geom.specs.Book.{Kind, cubes, simplices}
use Rattle.geom.specs.Elements.{Element, Curve}
use Rattle.geom.specs.Mesh.{Mesh, curve_vertices_of, sizes_of}
use Rattle.geom.specs.Refinement.{LIMIT, LIMITS}
use Rattle.geom.specs.Refusals.{good_flags, good_parity, good_coordinate, good_number}
use Rattle.geom.specs.Memory.{area_corners, volume_corners, parity_word}
use Rattle.geom.specs.File as File
use Rattle.geom.specs.File.{Read, read, stop, Reader, and_then, word_bytes, vertex_bytes, element_bytes, curve_bytes, list_bytes, kind_byte, file_of}
use Rattle.geom.specs.Between.{All}
use Rattle.geom.proofs.Lists.{below_number}
use Rattle.geom.proofs.Within.{Within}
use Rattle.geom.proofs.Back.{Stepped}

-- ---- fields

-- a field that was read is handed on
on_read : {A B : Type 0} (r : Read A) (x : A) (rest : List ℕ) (next : A → Reader B) {s : Read B} → r ≡ read x rest → next x rest ≡ s → and_then r next ≡ s
on_read {A} r x rest next e k = ap (λ (q : Read A). and_then q next) e ∙ k

on_good : {A : Type 0} (n : ℕ) (good : Bool) (x : A) (rest : List ℕ) → good ≡ true → File.judged n good x rest ≡ read x rest
unfolding File.judged
on_good n good x rest e = ap (λ (b : Bool). cond b (read x rest) (stop n)) e

put_together : (n a b c p q r : ℕ) → a * 256 + p ≡ n → b * 256 + q ≡ a → c * 256 + r ≡ b → ((c * 256 + r) * 256 + q) * 256 + p ≡ n
put_together n a b c p q r e f g = omega arith

digits : (n : ℕ) → n < 2 ^ 32 → ((n / 2 ^ 24 % 256 * 256 + n / 2 ^ 16 % 256) * 256 + n / 2 ^ 8 % 256) * 256 + n % 256 ≡ n
digits n h =
    let a : n / 2 ^ 24 % 256 ≡ n / 2 ^ 24 = omega arith in
    ap (λ (k : ℕ). ((k * 256 + n / 2 ^ 16 % 256) * 256 + n / 2 ^ 8 % 256) * 256 + n % 256) a
    ∙ put_together n (n / 2 ^ 8) (n / 2 ^ 16) (n / 2 ^ 24) (n % 256) (n / 2 ^ 8 % 256) (n / 2 ^ 16 % 256)
    (div-add-mod' n 256)
    (ap (λ (k : ℕ). k * 256 + n / 2 ^ 8 % 256) (sym (div-div-eq-div-mul n 256 256)) ∙ div-add-mod' (n / 2 ^ 8) 256)
    (ap (λ (k : ℕ). k * 256 + n / 2 ^ 16 % 256) (sym (div-div-eq-div-mul n 65536 256)) ∙ div-add-mod' (n / 2 ^ 16) 256)

pub word_back : (n : ℕ) (rest : List ℕ) → n < 2 ^ 32 → File.word (word_bytes n ++ rest) ≡ read n rest
unfolding File.word word_bytes
word_back n rest h = ap (λ (k : ℕ). read k rest) (digits n h)

both_most : (m n k : ℕ) → m ≤ n → m ≤ k → (leb m n && leb m k) ≡ true
both_most m n k p q = rw (le-leb m n p, le-leb m k q) refl

pub counted_back : (lent n : ℕ) (rest : List ℕ) → n ≤ lent → n ≤ LIMIT → File.counted lent (word_bytes n ++ rest) ≡ read n rest
unfolding File.counted
counted_back lent n rest l m =
    on_read (File.word (word_bytes n ++ rest)) n rest _ (word_back n rest (omega arith))
    (on_good 10 (leb n lent && leb n LIMIT) n rest (both_most n lent LIMIT l m))

-- a coordinate that binary32 holds, and that is accepted
pub record Held (c : Float) : Type 0 where
  pub holds : T (fits binary32 c)
  pub good : good_coordinate c ≡ true

pub coordinate_back : (c : Float) (rest : List ℕ) → Held c → File.coordinate (word_bytes (to_bits binary32 c) ++ rest) ≡ read c rest
unfolding File.coordinate
coordinate_back c rest h =
    let n = to_bits binary32 c in
    on_read (File.word (word_bytes n ++ rest)) n rest _ (word_back n rest (to_bits-lt binary32 c h.holds))
    (ap (λ (v : Float). File.judged 6 (good_coordinate v) v rest) (of_bits-to_bits binary32 c h.holds)
    ∙ on_good 6 (good_coordinate c) c rest h.good)

-- a vertex that a file can hold
pub record Placed (v : Vertex) : Type 0 where
  pub x : Held v.position.x
  pub y : Held v.position.y
  pub z : Held v.position.z
  pub w : Held v.position.w
  pub flags : good_flags v.flags ≡ true
  pub tag : v.tag < 2 ^ 32
  pub k : v.k < 2 ^ 32

abbrev float : Float → List ℕ
float c = word_bytes (to_bits binary32 c)

vertex_split : (v : Vertex) (rest : List ℕ)
    → vertex_bytes v ++ rest
    ≡ float v.position.x ++ (float v.position.y ++ (float v.position.z ++ (float v.position.w ++ (v.flags ∷ (word_bytes v.tag ++ (word_bytes v.k ++ rest))))))
unfolding vertex_bytes word_bytes
vertex_split v rest = refl

pub vertex_back : (v : Vertex) (rest : List ℕ) → Placed v → File.vertex (vertex_bytes v ++ rest) ≡ read v rest
unfolding File.vertex File.byte
vertex_back v rest p =
    let k = word_bytes v.k ++ rest in
    let t = word_bytes v.tag ++ k in
    let f = v.flags ∷ t in
    let w = float v.position.w ++ f in
    let z = float v.position.z ++ w in
    let y = float v.position.y ++ z in
    let x = float v.position.x ++ y in
    ap File.vertex (vertex_split v rest)
    ∙ on_read (File.coordinate x) v.position.x y _ (coordinate_back v.position.x y p.x)
    (on_read (File.coordinate y) v.position.y z _ (coordinate_back v.position.y z p.y)
    (on_read (File.coordinate z) v.position.z w _ (coordinate_back v.position.z w p.z)
    (on_read (File.coordinate w) v.position.w f _ (coordinate_back v.position.w f p.w)
    (on_read (File.judged 5 (good_flags v.flags) v.flags t) v.flags t _ (on_good 5 (good_flags v.flags) v.flags t p.flags)
    (on_read (File.word t) v.tag k _ (word_back v.tag k p.tag)
    (on_read (File.word k) v.k rest _ (word_back v.k rest p.k)
    refl))))))

-- ---- one after the other

pub several_back :
    {A : Type 0} {P : A → Type 0} (bytes : A → List ℕ) (field : Reader A) → ((x : A) (rest : List ℕ) → P x → field (bytes x ++ rest) ≡ read x rest)
    → (xs : List A) (rest : List ℕ) → All P xs → File.several (length xs) field (flat_map bytes xs ++ rest) ≡ read xs rest
unfolding File.several flat_map
several_back bytes field back [] rest a = refl
several_back bytes field back (x ∷ xs) rest a =
    let more = flat_map bytes xs ++ rest in
    ap (File.several (suc (length xs)) field) (append_assoc (bytes x) (flat_map bytes xs) rest)
    ∙ on_read (field (bytes x ++ more)) x more _ (back x more a.0)
    (on_read (File.several (length xs) field more) xs rest _ (several_back bytes field back xs rest a.1) refl)

pub parity_read : (p : Parity) (rest : List ℕ) → File.parity (parity_word p ∷ rest) ≡ read p rest
unfolding File.parity File.byte File.judged good_parity
parity_read Even rest = refl
parity_read Odd rest = refl

pub parities_back : (ps : List Parity) (rest : List ℕ) → File.several (length ps) File.parity (map parity_word ps ++ rest) ≡ read ps rest
unfolding File.several
parities_back [] rest = refl
parities_back (p ∷ ps) rest =
    let more = map parity_word ps ++ rest in
    on_read (File.parity (parity_word p ∷ more)) p more _ (parity_read p more)
    (on_read (File.several (length ps) File.parity more) ps rest _ (parities_back ps rest) refl)

abbrev pub Number : ℕ → ℕ → Type 0
Number count v = good_number count v ≡ true

-- an element with its corners, all of them vertices
pub record Cornered (count corners : ℕ) (e : Element) : Type 0 where
  pub long : length e.corners ≡ corners
  pub numbers : All (Number count) e.corners

-- a curve with vertices, of whose steps each has a parity
pub record Strung (count : ℕ) (c : Curve) : Type 0 where
  pub tag : c.tag < 2 ^ 32
  pub some : not (eqb (length c.vertices) 0) ≡ true
  pub numbers : All (Number count) c.vertices
  pub stepped : Stepped c

module _ (count : ℕ) (few : count ≤ LIMIT) where
  pub number_back : (v : ℕ) (rest : List ℕ) → Number count v → File.number count (word_bytes v ++ rest) ≡ read v rest
  unfolding File.number good_number
  number_back v rest g =
      let l = below_number v count g in
      on_read (File.word (word_bytes v ++ rest)) v rest _ (word_back v rest (omega arith)) (on_good 7 (good_number count v) v rest g)

  numbers_back : (n : ℕ) (vs : List ℕ) (rest : List ℕ) → length vs ≡ n → All (Number count) vs → File.several n (File.number count) (flat_map word_bytes vs ++ rest) ≡ read vs rest
  numbers_back n vs rest l a =
      ap (λ (k : ℕ). File.several k (File.number count) (flat_map word_bytes vs ++ rest)) (sym l)
      ∙ several_back word_bytes (File.number count) number_back vs rest a

  pub element_back : (corners : ℕ) (e : Element) (rest : List ℕ) → Cornered count corners e → File.element count corners (element_bytes e ++ rest) ≡ read e rest
  unfolding File.element element_bytes
  element_back corners e rest c =
      let more = parity_word e.parity ∷ rest in
      let bytes = flat_map word_bytes e.corners in
      ap (File.element count corners) (append_assoc bytes (parity_word e.parity ∷ []) rest)
      ∙ on_read (File.several corners (File.number count) (bytes ++ more)) e.corners more _ (numbers_back corners e.corners more c.long c.numbers)
      (on_read (File.parity more) e.parity rest _ (parity_read e.parity rest) refl)

  module _ (lent : ℕ) where
    curve_count_back : (before n : ℕ) (rest : List ℕ) → not (eqb n 0) ≡ true → before + n ≤ lent → before + n ≤ LIMIT → File.curve_count lent before (word_bytes n ++ rest) ≡ read n rest
    unfolding File.curve_count
    curve_count_back before n rest s l m =
        on_read (File.word (word_bytes n ++ rest)) n rest _ (word_back n rest (omega arith))
        (on_read (File.judged 8 (not (eqb n 0)) n rest) n rest _ (on_good 8 (not (eqb n 0)) n rest s)
        (on_good 10 (leb (before + n) lent && leb (before + n) LIMIT) n rest (both_most (before + n) lent LIMIT l m)))

    curve_split : (c : Curve) (rest : List ℕ)
        → curve_bytes c ++ rest ≡ word_bytes c.tag ++ (word_bytes (length c.vertices) ++ (flat_map word_bytes c.vertices ++ (map parity_word c.parities ++ rest)))
    unfolding curve_bytes
    curve_split c rest = simp append_assoc

    pub curve_back : (before : ℕ) (c : Curve) (rest : List ℕ) → Strung count c → before + length c.vertices ≤ lent → before + length c.vertices ≤ LIMIT
        → File.curve count lent before (curve_bytes c ++ rest) ≡ read c rest
    unfolding File.curve
    curve_back before c rest s l m =
        let n = length c.vertices in
        let ps = map parity_word c.parities ++ rest in
        let vs = flat_map word_bytes c.vertices ++ ps in
        let ns = word_bytes n ++ vs in
        ap (File.curve count lent before) (curve_split c rest)
        ∙ on_read (File.word (word_bytes c.tag ++ ns)) c.tag ns _ (word_back c.tag ns s.tag)
        (on_read (File.curve_count lent before ns) n vs _ (curve_count_back before n vs s.some l m)
        (on_read (File.several n (File.number count) vs) c.vertices ps _ (numbers_back n c.vertices ps refl s.numbers)
        (on_read (File.several (n - 1) File.parity ps) c.parities rest _
        (ap (λ (k : ℕ). File.several k File.parity ps) (sym s.stepped) ∙ parities_back c.parities rest)
        refl)))

    pub curves_back : (cs : List Curve) (before : ℕ) (rest : List ℕ) → All (Strung count) cs → before + curve_vertices_of cs ≤ lent → before + curve_vertices_of cs ≤ LIMIT
        → File.curves count lent (length cs) before (flat_map curve_bytes cs ++ rest) ≡ read cs rest
    unfolding File.curves flat_map curve_vertices_of
    curves_back [] before rest a l m = refl
    curves_back (c ∷ cs) before rest a l m =
        let more = flat_map curve_bytes cs ++ rest in
        let b = before + length c.vertices in
        ap (File.curves count lent (suc (length cs)) before) (append_assoc (curve_bytes c) (flat_map curve_bytes cs) rest)
        ∙ on_read (File.curve count lent before (curve_bytes c ++ more)) c more _ (curve_back before c more a.0 (omega arith) (omega arith))
        (on_read (File.curves count lent (length cs) b more) cs rest _ (curves_back cs b rest a.1 (omega arith) (omega arith)) refl)

-- ---- the whole file

-- a mesh that a file of its kind can hold: what is accepted in memory, of words of 32 bits
pub record Storable (kind : Kind) (m : Mesh) : Type 0 where
  pub vertices : All Placed m.vertices
  pub points : All (Number (length m.vertices)) m.points
  pub lines : All (Cornered (length m.vertices) 2) m.lists.lines
  pub areas : All (Cornered (length m.vertices) (area_corners kind)) m.lists.areas
  pub volumes : All (Cornered (length m.vertices) (volume_corners kind)) m.lists.volumes
  pub curves : All (Strung (length m.vertices)) m.lists.curves
  pub limits : Within (sizes_of m) LIMITS

-- the bytes behind the kind's
abbrev pub body : Mesh → List ℕ
body m =
    list_bytes vertex_bytes m.vertices
    ++ list_bytes word_bytes m.points
    ++ list_bytes element_bytes m.lists.lines
    ++ list_bytes element_bytes m.lists.areas
    ++ list_bytes element_bytes m.lists.volumes
    ++ list_bytes curve_bytes m.lists.curves

body_split : (a b c d e f g h i j k l : List ℕ)
    → (a ++ b) ++ (c ++ d) ++ (e ++ f) ++ (g ++ h) ++ (i ++ j) ++ (k ++ l)
    ≡ a ++ (b ++ (c ++ (d ++ (e ++ (f ++ (g ++ (h ++ (i ++ (j ++ (k ++ (l ++ [])))))))))))
body_split a b c d e f g h i j k l = simp (append_assoc, append-nil)

pub lists_back : (kind : Kind) (lent : Sizes) (m : Mesh) → Storable kind m → Within (sizes_of m) lent → File.lists kind lent (body m) ≡ read m []
unfolding File.lists File.line list_bytes sizes_of
lists_back kind lent m s r =
    let n = length m.vertices in
    let few : n ≤ LIMIT = s.limits.vertices in
    let vs = flat_map vertex_bytes m.vertices in
    let ps = flat_map word_bytes m.points in
    let ls = flat_map element_bytes m.lists.lines in
    let bs = flat_map element_bytes m.lists.areas in
    let ss = flat_map element_bytes m.lists.volumes in
    let cs = flat_map curve_bytes m.lists.curves in
    let p = length m.points in
    let l = length m.lists.lines in
    let a = length m.lists.areas in
    let v = length m.lists.volumes in
    let c = length m.lists.curves in
    let r₁₂ = cs ++ [] in
    let r₁₁ = word_bytes c ++ r₁₂ in
    let r₁₀ = ss ++ r₁₁ in
    let r₉ = word_bytes v ++ r₁₀ in
    let r₈ = bs ++ r₉ in
    let r₇ = word_bytes a ++ r₈ in
    let r₆ = ls ++ r₇ in
    let r₅ = word_bytes l ++ r₆ in
    let r₄ = ps ++ r₅ in
    let r₃ = word_bytes p ++ r₄ in
    let r₂ = vs ++ r₃ in
    ap (File.lists kind lent) (body_split (word_bytes n) vs (word_bytes p) ps (word_bytes l) ls (word_bytes a) bs (word_bytes v) ss (word_bytes c) cs)
    ∙ on_read (File.counted lent.vertices (word_bytes n ++ r₂)) n r₂ _ (counted_back lent.vertices n r₂ r.vertices few)
    (on_read (File.several n File.vertex r₂) m.vertices r₃ _ (several_back vertex_bytes File.vertex vertex_back m.vertices r₃ s.vertices)
    (on_read (File.counted lent.points r₃) p r₄ _ (counted_back lent.points p r₄ r.points s.limits.points)
    (on_read (File.several p (File.number n) r₄) m.points r₅ _ (several_back word_bytes (File.number n) (number_back n few) m.points r₅ s.points)
    (on_read (File.counted lent.lines r₅) l r₆ _ (counted_back lent.lines l r₆ r.lines s.limits.lines)
    (on_read (File.several l (File.element n 2) r₆) m.lists.lines r₇ _ (several_back element_bytes (File.element n 2) (element_back n few 2) m.lists.lines r₇ s.lines)
    (on_read (File.counted lent.areas r₇) a r₈ _ (counted_back lent.areas a r₈ r.areas s.limits.areas)
    (on_read (File.several a (File.element n (area_corners kind)) r₈) m.lists.areas r₉ _ (several_back element_bytes (File.element n (area_corners kind)) (element_back n few (area_corners kind)) m.lists.areas r₉ s.areas)
    (on_read (File.counted lent.volumes r₉) v r₁₀ _ (counted_back lent.volumes v r₁₀ r.volumes s.limits.volumes)
    (on_read (File.several v (File.element n (volume_corners kind)) r₁₀) m.lists.volumes r₁₁ _ (several_back element_bytes (File.element n (volume_corners kind)) (element_back n few (volume_corners kind)) m.lists.volumes r₁₁ s.volumes)
    (on_read (File.counted lent.curves r₁₁) c r₁₂ _ (counted_back lent.curves c r₁₂ r.curves s.limits.curves)
    (on_read (File.curves n lent.curve_vertices c 0 r₁₂) m.lists.curves [] _
    (curves_back n few lent.curve_vertices m.lists.curves 0 [] s.curves (omega (arith, r.curve_vertices)) (omega (arith, s.limits.curve_vertices)))
    refl)))))))))))

kind_back : (kind : Kind) (rest : List ℕ) → File.kind_field (kind_byte kind ∷ rest) ≡ read kind rest
unfolding File.kind_field File.byte File.judged
kind_back cubes rest = refl
kind_back simplices rest = refl

-- What is written for a mesh that a file can hold reads back, into enough cells, as that mesh, and nothing is left over.
pub reads_back : (lent : Kind → Sizes) (kind : Kind) (m : Mesh) → Storable kind m → Within (sizes_of m) (lent kind)
    → File.figure lent (file_of kind m) ≡ read (record { kind = kind; mesh = m }) []
unfolding File.figure file_of File.byte File.judged File.end
reads_back lent kind m s r =
    on_read (File.kind_field (kind_byte kind ∷ body m)) kind (body m) _ (kind_back kind (body m))
    (on_read (File.lists kind (lent kind) (body m)) m [] _ (lists_back kind (lent kind) m s r) refl)
