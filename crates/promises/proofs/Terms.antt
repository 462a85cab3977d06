-- The words in which the pages of the crates speak of a public function. `Pre` and `Post` are what the toolchain makes of its clauses: `Pre κs a` is
-- what it asks of the arguments a, and `Post κs a r e` says that its promise allows the result r, and e at exit. That there is a result is the
-- function's own proof, for all arguments.
-- Assumes nothing.
use mathlib.Core.Path.{◌≡◌, refl, sym, ap, ◌∙◌}
use mathlib.Core.Bool.{Bool, true, false}
use mathlib.Core.List.{List}
use mathlib.Core.Logic.{◌↔◌}
use Prim.Native.Nat.{ℕ}
use Rattle.std.specs.Prelude.{Result, Err}
use Rattle.wire.specs.Table.{Outcome, refused, accepted, pick, At}
use Rattle.wire.specs.Shown.{shown, shown_in, shown_by, shown_read}
use Rattle.wire.specs.declared.refusal.Refused.{Refused}
use Rattle.wire.specs.declared.units.ByteOffset.{ByteOffset}
use Rattle.wire.specs.declared.units.Cursor.{Cursor}
use Rattle.wire.proofs.Answers.{place, cursor, one_answer}

-- nothing is asked of the caller
abbrev pub AsksNothing : {K : Type 0} {A : K → Type 0} → ((κs : K) → A κs → Type 0) → Type 0
AsksNothing {K} {A} Pre = (κs : K) (a : A κs) → Pre κs a

-- the results that a promise allows are one
abbrev pub One : {K : Type 0} {A R E : K → Type 0} → ((κs : K) → A κs → R κs → E κs → Type 0) → Type 0
One {K} {A} {R} {E} Post = (κs : K) (a : A κs) (r r' : R κs) (e e' : E κs) → Post κs a r e → Post κs a r' e' → r ≡ r'

-- whatever it is given it answers, with one answer
pub record Answers {K : Type 0} {A R E : K → Type 0} (Pre : (κs : K) → A κs → Type 0) (Post : (κs : K) → A κs → R κs → E κs → Type 0) : Type 0 where
  pub asks : AsksNothing Pre
  pub one : One Post

abbrev pub answers : {K : Type 0} {A R E : K → Type 0} {Pre : (κs : K) → A κs → Type 0} {Post : (κs : K) → A κs → R κs → E κs → Type 0} → AsksNothing Pre → One Post → Answers Pre Post
answers asks one = record { asks = asks; one = one }

-- what lent memory holds at exit is one
abbrev pub Leaves : {K : Type 0} {A R E : K → Type 0} {B : Type 0} → ((κs : K) → A κs → R κs → E κs → Type 0) → ((κs : K) → E κs → B) → Type 0
Leaves {K} {A} {R} {E} {B} Post held = (κs : K) (a : A κs) (r r' : R κs) (e e' : E κs) → Post κs a r e → Post κs a r' e' → held κs e ≡ held κs e'

-- after a refusal lent memory holds what is said, mostly what it held before
abbrev pub Refuses : {K : Type 0} {A E : K → Type 0} {V P B : Type 0} → ((κs : K) → A κs → Result V (Refused P) → E κs → Type 0) → ((κs : K) → E κs → B) → ((κs : K) → A κs → B) → Type 0
Refuses {K} {A} {E} {V} {P} {B} Post held left = (κs : K) (a : A κs) (r : Result V (Refused P)) (e : E κs) → Post κs a r e → (q : Refused P) → r ≡ Err q → held κs e ≡ left κs a

-- ---- what is the same in many proofs

-- where the promise names the result
pub one_value : {K : Type 0} {A R E : K → Type 0} {Post : (κs : K) → A κs → R κs → E κs → Type 0} {value : (κs : K) → A κs → R κs}
    → ((κs : K) (a : A κs) (r : R κs) (e : E κs) → Post κs a r e → r ≡ value κs a) → One Post
one_value says κs a r r' e e' p p' = says κs a r e p ∙ sym (says κs a r' e' p')

-- or what is held
pub one_held : {K : Type 0} {A R E : K → Type 0} {B : Type 0} {Post : (κs : K) → A κs → R κs → E κs → Type 0} {held : (κs : K) → E κs → B} {value : (κs : K) → A κs → B}
    → ((κs : K) (a : A κs) (r : R κs) (e : E κs) → Post κs a r e → held κs e ≡ value κs a) → Leaves Post held
one_held says κs a r r' e e' p p' = says κs a r e p ∙ sym (says κs a r' e' p')

-- or what is shown of the result, of which it can be had back
pub one_shown : {K : Type 0} {A E : K → Type 0} {R O : Type 0} {Post : (κs : K) → A κs → R → E κs → Type 0} {shows : R → O} {outcome : (κs : K) → A κs → O}
    → ((o : O) (r r' : R) → shows r ≡ o → shows r' ≡ o → r ≡ r') → ((κs : K) (a : A κs) (r : R) (e : E κs) → Post κs a r e → shows r ≡ outcome κs a) → One Post
one_shown one says κs a r r' e e' p p' = one _ r r' (says κs a r e p) (says κs a r' e' p')

-- as it can where the value is shown as it is
pub one_by : {A : Type 0} (o : Outcome A) (r r' : Result A (Refused ℕ)) → shown_by (λ v. v) r ≡ o → shown_by (λ v. v) r' ≡ o → r ≡ r'
one_by = one_answer _ _ (λ v. v) (λ p. p) (λ v. refl) (λ p. refl)

pub one_in : {A : Type 0} (o : Outcome A) (r r' : Result A (Refused ByteOffset)) → shown_in (λ v. v) r ≡ o → shown_in (λ v. v) r' ≡ o → r ≡ r'
one_in = one_answer _ _ (λ v. v) place (λ v. refl) (λ p. refl)

pub one_read : {A : Type 0} (o : Outcome (At A)) (r r' : Result (A × Cursor) (Refused ByteOffset)) → shown_read r ≡ o → shown_read r' ≡ o → r ≡ r'
one_read = one_answer _ _ (λ x. (x.value, cursor x.next)) place (λ v. refl) (λ p. refl)

-- so the answer is v exactly where the definition is what is shown of v
pub exactly : {R O P : Type 0} {o : O} (shows : R → O) → ((o : O) (r r' : R) → shows r ≡ o → shows r' ≡ o → r ≡ r') → (r v : R) → shows r ≡ o → (o ≡ shows v) ↔ P → (r ≡ v) ↔ P
exactly shows one r v said law = (λ e. law.0 (sym said ∙ ap shows e), λ h. one _ r v said (sym (law.1 h)))

-- what is left where the definition refuses is left where the function does
pub kept : {K : Type 0} {A E : K → Type 0} {V W P B : Type 0} {Post : (κs : K) → A κs → Result V (Refused P) → E κs → Type 0} {held : (κs : K) → E κs → B} {left : (κs : K) → A κs → B}
    {outcome : (κs : K) → A κs → Outcome W} (says : V → W) (number : P → ℕ)
    → ((κs : K) (a : A κs) (r : Result V (Refused P)) (e : E κs) → Post κs a r e → shown says number r ≡ outcome κs a)
    → ((κs : K) (a : A κs) (r : Result V (Refused P)) (e : E κs) → Post κs a r e → (n m : ℕ) → outcome κs a ≡ refused n m → held κs e ≡ left κs a)
    → Refuses Post held left
kept says number said so κs a r e p q h = so κs a r e p _ _ (sym (said κs a r e p) ∙ ap (shown says number) h)

-- one test decides both: refused, what was there stays
pub stays : {A : Type 0} (b : Bool) (n p q m : ℕ) (z : A) (x y : List ℕ) → pick b (refused q m) (accepted z) ≡ refused n p → pick b x y ≡ x
stays true n p q m z x y e = refl
stays false n p q m z x y e = cc
