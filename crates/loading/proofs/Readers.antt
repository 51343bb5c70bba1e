-- What a reader that came to its end has read, by what each of its fields gives. Assumes nothing.
use mathlib.Core.Path.{◌≡◌, refl, ap, subst}
use mathlib.Core.Bool.{Bool, true, false, cond}
use mathlib.Core.List.{List, [], ◌∷◌}
use Prim.Native.Nat.{ℕ, zero, suc}
use lib.ListN.{length}
use Rattle.geom.specs.File.{Read, read, stop, Reader, and_then, ◌>>=◌, done, judged, several}
use Rattle.geom.specs.Between.{All}

-- whatever a reader reads has the property
pub record Gives {A : Type 0} (P : A → Type 0) (field : Reader A) : Type 0 where
  pub gives : (bytes : List ℕ) (x : A) (rest : List ℕ) → field bytes ≡ read x rest → P x

pub never : {A : Type 0} (n : ℕ) (x : A) (bytes : List ℕ) → stop n ≡ read x bytes → ⊥
never n x bytes e = cc

pub gives_then :
    {A B : Type 0} {P : A → Type 0} {Q : B → Type 0} (field : Reader A) (next : A → Reader B) → Gives P field
    → ((x : A) → P x → Gives Q (next x)) → Gives Q (◌>>=◌ field next)
gives_then {A} {B} {P} {Q} field next g h = record { gives = λ bytes y rest e. go bytes y rest (field bytes) refl e }
  where
    go : (bytes : List ℕ) (y : B) (rest : List ℕ) (r : Read A) → field bytes ≡ r → and_then r next ≡ read y rest → Q y
    go bytes y rest (read x more) f k = (h x (g.gives bytes x more f)).gives more y rest k
    go bytes y rest (stop n) f k = absurd (never n y rest k)

pub gives_done : {A : Type 0} {P : A → Type 0} (x : A) → P x → Gives P (done x)
gives_done {A} {P} x p = record { gives = λ bytes y rest e. let f : x ≡ y = cc in subst P f p }

pub gives_judged : {A : Type 0} {P : A → Type 0} (n : ℕ) (good : Bool) (x : A) → (good ≡ true → P x) → Gives P (judged n good x)
unfolding judged
gives_judged {A} {P} n good x p = record { gives = λ bytes y rest e. go bytes y rest good refl e }
  where
    go : (bytes : List ℕ) (y : A) (rest : List ℕ) (b : Bool) → good ≡ b → cond b (read x bytes) (stop n) ≡ read y rest → P y
    go bytes y rest true f k = let g : x ≡ y = cc in subst P g (p f)
    go bytes y rest false f k = absurd (never n y rest k)

-- so many entries, each with the property
pub gives_several : {A : Type 0} {P : A → Type 0} (field : Reader A) → Gives P field → (n : ℕ) → Gives (λ (xs : List A). (length xs ≡ n) × All P xs) (several n field)
unfolding several
gives_several field g zero = gives_done [] (refl, tt)
gives_several {A} {P} field g (suc n) =
    gives_then field _ g
    (λ x p.
    gives_then (several n field) _ (gives_several field g n)
    (λ xs a. gives_done (x ∷ xs) (ap suc a.0, (p, a.1))))

-- anything
pub gives_any : {A : Type 0} (field : Reader A) → Gives (λ (x : A). Unit {0}) field
gives_any field = record { gives = λ bytes x rest e. tt }

-- ---- what is read on from there

-- a field that was judged good is handed on, and the bytes behind it
pub judged_on : {A : Type 0} (n : ℕ) (good : Bool) (x y : A) (bytes rest : List ℕ) → judged n good x bytes ≡ read y rest → (x ≡ y) × (bytes ≡ rest)
unfolding judged
judged_on {A} n good x y bytes rest e = go good e
  where
    go : (b : Bool) → cond b (read x bytes) (stop n) ≡ read y rest → (x ≡ y) × (bytes ≡ rest)
    go true k = (cc, cc)
    go false k = absurd (never n y rest k)

-- what comes next is asked only where a field was read
pub then_same :
    {A B : Type 0} (r : Read A) (next other : A → Reader B) → ((x : A) (rest : List ℕ) → r ≡ read x rest → next x rest ≡ other x rest)
    → and_then r next ≡ and_then r other
then_same (read x rest) next other e = e x rest refl
then_same (stop n) next other e = refl

-- where two fields were read, the first was
pub record Both {A B : Type 0} (r : Read A) (next : A → Reader B) (y : B) (rest : List ℕ) : Type 0 where
  pub first : A
  pub more : List ℕ
  pub is : r ≡ read first more
  pub on : next first more ≡ read y rest

pub both_read : {A B : Type 0} (r : Read A) (next : A → Reader B) (y : B) (rest : List ℕ) → and_then r next ≡ read y rest → Both r next y rest
both_read (read x more) next y rest e = record { first = x; more = more; is = refl; on = e }
both_read (stop n) next y rest e = absurd (never n y rest e)
