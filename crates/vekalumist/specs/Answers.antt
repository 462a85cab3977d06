-- How an answer crosses: the number that is returned, what the lent answer holds afterwards, and what the lent place holds.
use Rattle.std.specs.Prelude.{ℕ, ◌-◌, ◌*◌, List, [], ◌∷◌, length, get_or}
use Rattle.wire.specs.Table.{Outcome, refused, accepted, pick, At}
use Rattle.wire.specs.declared.count.Count.{Count}
use Rattle.advice.specs.Walk.{Walked}
use Rattle.advice.specs.Table.{MapEntry}
use Rattle.advice.specs.Lookup.{Looked, found, absent}

-- ---- any answer

-- the number that is returned: 0, or the refusal's
unfoldable pub number_in : {A : Type 0} → Outcome A → ℕ
number_in (refused n p) = n
number_in (accepted v) = 0

-- the lent answer: as it was where it is refused
unfoldable pub answered : {A : Type 0} → A → Outcome A → A
answered before (refused n p) = before
answered before (accepted v) = v

-- the lent place: as it was where it is accepted
unfoldable pub placed : {A : Type 0} → ℕ → Outcome A → ℕ
placed before (refused n p) = p
placed before (accepted v) = before

-- the values of an acceptance, as an array
abbrev pub laid : {A : Type 0} → (A → List ℕ) → Outcome A → Outcome (List ℕ)
laid row (refused n p) = refused n p
laid row (accepted v) = accepted (row v)

-- ---- the arrays; those of layouts, scans, bounds and entries are crossing's

-- its value, its length in bytes, the place after it, and 1 if its length is the shortest, else 0
abbrev pub count_row : At Count → List ℕ
count_row c = c.value.value ∷ c.value.len ∷ c.next ∷ pick c.value.shortest 1 0 ∷ []

-- the number of entries, the place after the map, how many bytes of the file follow it, how many of its counts are long
abbrev pub walked_row : List ℕ → Walked → List ℕ
walked_row s w = w.entries ∷ w.end ∷ (length s - w.end) ∷ w.long ∷ []

-- the four numbers of the key, the number of values, the place of the first
abbrev pub map_entry_row : MapEntry → List ℕ
map_entry_row e = get_or e.key 0 0 ∷ get_or e.key 1 0 ∷ get_or e.key 2 0 ∷ get_or e.key 3 0 ∷ e.len ∷ e.values ∷ []

-- 1, the place of the values and their number, or three times 0; and how many keys were compared
abbrev pub looked_row : Looked → List ℕ
looked_row (found at len compared) = 1 ∷ at ∷ len ∷ compared ∷ []
looked_row (absent compared) = 0 ∷ 0 ∷ 0 ∷ compared ∷ []

-- 1, the place of the values' part of the file and its number of bytes; or three times 0
abbrev pub part_row : Looked → List ℕ
part_row (found at len compared) = 1 ∷ at ∷ 8 * len ∷ []
part_row (absent compared) = 0 ∷ 0 ∷ 0 ∷ []
