-- What private contracts say. (`long` follows from the rest; as a part `search` finds it by itself.)
use Rattle.std.specs.Prelude.{◌≡◌, ℕ, ◌<◌, ◌≤◌, List, [], ◌∷◌, ◌++◌, Result, Ok, length, take}
use Rattle.std.specs.List.{AllZip}
use Rattle.text.specs.Marks.{before, past}
use Rattle.recorded.specs.Text.{numbers_in}
use Rattle.recorded.specs.Calls.{call_row}
use Rattle.recorded.specs.declared.told.Case.{Case}

-- `&xs[..n]` is in bounds and has n numbers; the second part follows from the first
abbrev pub IsPrefixLen : {A : Type 0} → ℕ → List A → Type 0
IsPrefixLen n xs = (n ≤ length xs) × (n ≡ length (take n xs))

-- numbers and what a conversion, which may fail, gives of each
abbrev pub Converts : {A E : Type 0} → (ℕ → Result A E → Type 0) → List ℕ → List A → Type 0
Converts gives l xs = AllZip (λ n x. gives n (Ok x)) l xs

-- a list is cut at its first mark, or has none
pub record SplitsAt (l : List ℕ) (mark : ℕ) (front back : List ℕ) : Type 0 where
  pub whole : l ≡ front ++ mark ∷ back
  pub front_is : front ≡ before mark l
  pub back_is : back ≡ past mark l

pub record NoMark (l : List ℕ) (mark : ℕ) : Type 0 where
  pub front_is : l ≡ before mark l
  pub back_is : [] ≡ past mark l

-- a text begins with a number, and the others are those of the rest
pub record BeginsWith (l : List ℕ) (value : ℕ) (rest : List ℕ) : Type 0 where
  pub shorter : length rest < length l
  pub reads : numbers_in l ≡ value ∷ numbers_in rest

-- the row of a case is what is recorded of a call over its file and what it is given, and the memory that is lent
abbrev pub Records : Case → ℕ → List ℕ → Type 0
Records case call lent = case.row.now ≡ call_row call case.file.now case.given.now lent
