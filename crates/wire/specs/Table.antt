-- Rule tables: a list of rules in the format's order, and what it says. Nothing here knows the format.
use Rattle.std.specs.Prelude.{ℕ, ◌≡◌, List, [], ◌∷◌, ◌++◌, Bool, true, false}

-- A rule: whether its case is met, and the number and place of its refusal.
pub record Rule : Type 0 where
  pub met : Bool
  pub number : ℕ
  pub place : ℕ

abbrev pub rule : ℕ → ℕ → Bool → Rule
rule n p b = record { met = b; number = n; place = p }

-- A refusal by number and place, or acceptance with values.
pub data Outcome (A : Type 0) : Type 0 where
  refused : ℕ → ℕ → Outcome A
  accepted : A → Outcome A

abbrev pub pick : {A : Type 0} → Bool → A → A → A
pick true a b = a
pick false a b = b

-- the refusal of the first rule that is met, else acceptance
unfoldable pub first_met : {A : Type 0} → List Rule → A → Outcome A
first_met [] v = accepted v
first_met (r ∷ rs) v = pick r.met (refused r.number r.place) (first_met rs v)

-- what a table says where an acceptance has no values
abbrev pub checked : List Rule → Outcome (Unit {0})
checked rs = first_met rs tt

infixl 20 ◌>>=◌
-- stages in a row: a refusal stands; after an acceptance its values are handed on
unfoldable pub ◌>>=◌ : {A B : Type 0} → Outcome A → (A → Outcome B) → Outcome B
refused n p >>= k = refused n p
accepted v >>= k = k v

-- no rule of the table is met
abbrev pub NoneMet : List Rule → Type 0
NoneMet [] = Unit {0}
NoneMet (r ∷ rs) = (r.met ≡ false) × NoneMet rs

-- the refusal n at p is that of a rule that is met, with every earlier rule unmet
pub record FirstMet (rs : List Rule) (n p : ℕ) : Type 0 where
  pub before : List Rule
  pub here : Rule
  pub after : List Rule
  pub split : rs ≡ before ++ (here ∷ after)
  pub unmet : NoneMet before
  pub met : here.met ≡ true
  pub number : here.number ≡ n
  pub place : here.place ≡ p

-- what is read at a place, and the place after it
pub record At (A : Type 0) : Type 0 where
  pub value : A
  pub next : ℕ
