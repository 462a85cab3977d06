-- What each answer says, by number and values: one word for every answer of the crates, and the words for those of this one.
use Rattle.std.specs.Prelude.{ℕ, ◌+◌, List, Option, Some, None, Result, Ok, Err}
use Rattle.wire.specs.Table.{Outcome, refused, accepted, At}
use Rattle.wire.specs.Refusals.{SHORT, number_of}
use Rattle.wire.specs.declared.refusal.Refused.{Refused}
use Rattle.wire.specs.declared.units.ByteOffset.{ByteOffset}
use Rattle.wire.specs.declared.units.Cursor.{Cursor}
use Rattle.wire.specs.declared.count.Count.{Count}

-- an answer, by what its value says and by its place as a number
abbrev pub shown : {A B P : Type 0} → (A → B) → (P → ℕ) → Result A (Refused P) → Outcome B
shown says number (Ok v) = accepted (says v)
shown says number (Err r) = refused (number_of r.why) (number r.at)

-- whose place is a byte of the file
abbrev pub shown_in : {A B : Type 0} → (A → B) → Result A (Refused ByteOffset) → Outcome B
shown_in says = shown says (λ p. p.0)

-- whose place is a plain number
abbrev pub shown_by : {A B : Type 0} → (A → B) → Result A (Refused ℕ) → Outcome B
shown_by says = shown says (λ p. p)

-- what is read at a place, and the place after it
abbrev pub shown_read : {A : Type 0} → Result (A × Cursor) (Refused ByteOffset) → Outcome (At A)
shown_read = shown_in (λ r. record { value = r.0; next = r.1.at.0 })

-- of a stage of the reader: what is found at a place
abbrev pub shown_found : ℕ → Option Count → Outcome (At Count)
shown_found at (Some c) = accepted (record { value = c; next = at + c.len })
shown_found at None = refused SHORT at

-- where writing goes on
abbrev pub shown_written : Result Cursor (Refused ByteOffset) → Outcome ℕ
shown_written = shown_in (λ c. c.at.0)

-- a check hands on the word that it was given
abbrev pub shown_check : Result Cursor (Refused ByteOffset) → List ℕ → Outcome (At (List ℕ))
shown_check r w = shown_in (λ c. record { value = w; next = c.at.0 }) r
