-- What each answer says, by number and values.
use Rattle.std.specs.Prelude.{ℕ, List, Option, Some, None, Result}
use Rattle.wire.specs.Table.{Outcome}
use Rattle.wire.specs.Shown.{shown_in, shown_by}
use Rattle.wire.specs.declared.refusal.Refused.{Refused}
use Rattle.wire.specs.declared.units.ByteOffset.{ByteOffset}
use Rattle.advice.specs.Walk.{Walked}
use Rattle.advice.specs.Lookup.{Looked, found, absent}
use Rattle.advice.specs.Table.{MapEntry}
use Rattle.advice.specs.declared.walk.Walked.{Walked as MapWalk}
use Rattle.advice.specs.declared.walk.Values.{Values}
use Rattle.advice.specs.declared.lookup.MapLookup.{MapLookup}
use Rattle.advice.specs.declared.table.MapEntry.{MapEntry as EntryRead}

abbrev pub shown_walk : Result MapWalk (Refused ByteOffset) → Outcome Walked
shown_walk = shown_in (λ w. record { entries = w.entries; end = w.end.at.0; long = w.long_counts })

-- the values of a key, if it has any
abbrev pub looked : Option Values → ℕ → Looked
looked (Some v) compared = found v.at.0 v.len compared
looked None compared = absent compared

abbrev pub shown_lookup : Result MapLookup (Refused ℕ) → Outcome Looked
shown_lookup = shown_by (λ l. looked l.values l.compared)

abbrev pub shown_key : Result (List ℕ) (Refused ℕ) → Outcome (List ℕ)
shown_key = shown_by (λ word. word)

abbrev pub shown_map_entry : Result EntryRead (Refused ℕ) → Outcome MapEntry
shown_map_entry = shown_by (λ e. record { key = e.key; values = e.values.at.0; len = e.values.len })
