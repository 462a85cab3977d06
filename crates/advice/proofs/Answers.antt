-- A promise on what is shown of an answer allows one answer.
-- Assumes nothing.
use mathlib.Core.Path.{◌≡◌, refl}
use Prim.Native.Nat.{ℕ}
use Rattle.std.specs.Prelude.{Option, Some, None, Result}
use Rattle.wire.specs.Table.{Outcome}
use Rattle.wire.specs.declared.refusal.Refused.{Refused}
use Rattle.wire.specs.declared.units.ByteOffset.{ByteOffset}
use Rattle.wire.proofs.Answers.{place, cursor, one_answer}
use Rattle.advice.specs.Walk.{Walked}
use Rattle.advice.specs.Lookup.{Looked, found, absent}
use Rattle.advice.specs.Table.{MapEntry}
use Rattle.advice.specs.Shown.{shown_walk, looked, shown_lookup, shown_map_entry}
use Rattle.advice.specs.declared.walk.Walked.{Walked as MapWalk}
use Rattle.advice.specs.declared.walk.Values.{Values}
use Rattle.advice.specs.declared.lookup.MapLookup.{MapLookup}
use Rattle.advice.specs.declared.table.MapEntry.{MapEntry as EntryRead}

abbrev pub walk_back : Walked → MapWalk
walk_back w = record { entries = w.entries; end = cursor w.end; long_counts = w.long }

pub walk_one : (o : Outcome Walked) (r r' : Result MapWalk (Refused ByteOffset)) → shown_walk r ≡ o → shown_walk r' ≡ o → r ≡ r'
walk_one = one_answer _ _ walk_back place (λ w. refl) (λ p. refl)

abbrev pub values_back : ℕ → ℕ → Values
values_back at len = record { at = place at; len = len }

abbrev pub lookup_back : Looked → MapLookup
lookup_back (found at len compared) = record { values = Some (values_back at len); compared = compared }
lookup_back (absent compared) = record { values = None; compared = compared }

lookup_again : (values : Option Values) (compared : ℕ) → lookup_back (looked values compared) ≡ record { values = values; compared = compared }
lookup_again (Some v) compared = refl
lookup_again None compared = refl

pub lookup_one : (o : Outcome Looked) (r r' : Result MapLookup (Refused ℕ)) → shown_lookup r ≡ o → shown_lookup r' ≡ o → r ≡ r'
lookup_one = one_answer _ _ lookup_back (λ p. p) (λ l. lookup_again l.values l.compared) (λ p. refl)

abbrev pub entry_back : MapEntry → EntryRead
entry_back e = record { key = e.key; values = values_back e.values e.len }

pub entry_one : (o : Outcome MapEntry) (r r' : Result EntryRead (Refused ℕ)) → shown_map_entry r ≡ o → shown_map_entry r' ≡ o → r ≡ r'
entry_one = one_answer _ _ entry_back (λ p. p) (λ e. refl) (λ p. refl)
