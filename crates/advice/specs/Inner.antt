-- What the private stages of walk and lookup answer: segments of the tables. No public promise cites this file.
use Rattle.std.specs.Prelude.{ℕ, ◌+◌, ◌-◌, ◌*◌, ◌/◌, ◌≤◌, Bool, ◌≡◌, List, [], ◌∷◌, ◌++◌, length, drop, Option, Some, None, Result, IfOk}
use Rattle.wire.specs.Table.{Rule, rule, Outcome, refused, pick, first_met, checked, At}
use Rattle.wire.specs.Refusals.{OVERFLOW, DUPLICATE}
use Rattle.wire.specs.Le.{short_rule, over}
use Rattle.wire.specs.Counts.{long_ones, counted, count_rule}
use Rattle.wire.specs.Words.{word_rules}
use Rattle.wire.specs.Shown.{shown_in}
use Rattle.wire.specs.declared.count.Count.{Count}
use Rattle.wire.specs.declared.refusal.Refused.{Refused}
use Rattle.wire.specs.declared.units.ByteOffset.{ByteOffset}
use Rattle.advice.specs.Walk.{size, values_at, next_entry, walk_rules, walk_end, key_offsets, shown_sizes, Walked}
use Rattle.advice.specs.Lookup.{Halved, met, missing, halving, element_rules, found_rules}
use Rattle.advice.specs.Shown.{shown_walk}
use Rattle.keys.specs.Sort.{first_duplicate}
use Rattle.advice.specs.declared.walk.Filled.{Filled}
use Rattle.advice.specs.declared.walk.Values.{Values}
use Rattle.advice.specs.declared.lookup.Range.{Range}

-- what is asked of a length that was read at a place, and of the values after it: how many, and where they start
abbrev pub length_rules : List ℕ → ℕ → At Count → List Rule
length_rules s at c = rule OVERFLOW at (over (8 * c.value.value)) ∷ short_rule s c.next (8 * c.value.value) ∷ []

unfoldable pub length_outcome : List ℕ → ℕ → At Count → Outcome (At ℕ)
length_outcome s at c = first_met (length_rules s at c) (record { value = c.value.value; next = c.next })

-- the length at a place and the values after it
unfoldable pub values_rules : List ℕ → ℕ → List Rule
values_rules s at = count_rule s at ∷ length_rules s at (record { value = counted s at; next = at + (counted s at).len })

unfoldable pub values_outcome : List ℕ → ℕ → Outcome (At ℕ)
values_outcome s at = first_met (values_rules s at) (record { value = (counted s at).value; next = at + (counted s at).len })

-- an entry, without ROOM and DUPLICATE: whether its length is the shortest, and where the next one starts
unfoldable pub entry_rules : List ℕ → ℕ → List Rule
entry_rules s at = word_rules s at ++ values_rules s (at + 32)

unfoldable pub entry_end_outcome : List ℕ → ℕ → Outcome (At Bool)
entry_end_outcome s at = first_met (entry_rules s at) (record { value = (size s at).shortest; next = next_entry s at })

-- how many counts of a map are long, of its own and its first n entries'
abbrev pub long_after : List ℕ → ℕ → Count → ℕ → ℕ
long_after s at c n = long_ones (c ∷ shown_sizes s at n)

-- the entries from a place on, of a map with the count c
unfoldable pub entries_outcome : ℕ → List ℕ → ℕ → Count → Outcome Walked
entries_outcome places s at c =
    first_met (walk_rules places s at c.value []) (record { entries = c.value; end = walk_end s at c.value; long = long_after s at c c.value })

-- a duplicate among the entries that were read comes first
abbrev pub unless_repeat : {A : Type 0} → Option ℕ → Outcome A → Outcome A
unless_repeat (Some x) o = refused DUPLICATE x
unless_repeat None o = o

-- what `fill` leaves: the first keys' offsets in the table, and what is still to be said once they are settled
pub record FilledTo (s : List ℕ) (at : ℕ) (c : Count) (t₀ t : List ℕ) (r : Filled) : Type 0 where
  pub within : r.n ≤ length t₀
  pub table : t ≡ key_offsets s at r.n ++ drop r.n t₀
  pub all : IfOk r.walked (λ w. w.entries ≡ r.n)
  pub said : entries_outcome (length t₀) s at c ≡ unless_repeat (first_duplicate s (key_offsets s at r.n)) (shown_walk r.walked)

-- ---- the halving, from what is left on

abbrev pub left_outcome : List ℕ → List ℕ → List ℕ → Range → Outcome Halved
left_outcome s t key r = halving s t key r.size r.low r.size r.compared

-- a range within n places, and no more keys compared than places dropped
abbrev pub Within : ℕ → Range → Type 0
Within n r = (r.low + r.size ≤ n) × (r.compared + r.size ≤ n)

-- one turn: the range below its middle, or above it
abbrev pub turned : Bool → Range → Range
turned below r =
    record {
      low = pick below r.low (r.low + r.size / 2 + 1);
      size = pick below (r.size / 2) (r.size - r.size / 2 - 1);
      compared = r.compared + 1;
    }

abbrev pub elements_outcome : List ℕ → ℕ → ℕ → Outcome (Unit {0})
elements_outcome s at n = checked (element_rules s at n)

-- the values of the key at a place, each of them judged
unfoldable pub found_values_outcome : List ℕ → ℕ → Outcome (At ℕ)
found_values_outcome s at = first_met (found_rules s at) (record { value = (size s at).value; next = values_at s at })

-- ---- what the stages' answers say

abbrev pub shown_values : Result Values (Refused ByteOffset) → Outcome (At ℕ)
shown_values = shown_in (λ v. record { value = v.len; next = v.at.0 })

abbrev pub ended : Option ByteOffset → ℕ → Halved
ended (Some at) compared = met at.0 compared
ended None compared = missing compared

abbrev pub shown_halved : Result (Option ByteOffset × ℕ) (Refused ByteOffset) → Outcome Halved
shown_halved = shown_in (λ h. ended h.0 h.1)

abbrev pub shown_elements : Result (Unit {0}) (Refused ByteOffset) → Outcome (Unit {0})
shown_elements = shown_in (λ u. u)
