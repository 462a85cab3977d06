-- The key table by place: the key at a place and the entry of the map there, over any bytes and any table; and how many places are enough to
-- lend for a map.
use Rattle.std.specs.Prelude.{ℕ, ◌+◌, ◌-◌, ◌*◌, ◌/◌, min, List, [], ◌∷◌, ◌++◌, leb, length, get_or}
use Rattle.wire.specs.Table.{Rule, rule, Outcome, pick, first_met}
use Rattle.wire.specs.Refusals.{OVERFLOW, INDEX}
use Rattle.wire.specs.Le.{is_short, short_rule, over}
use Rattle.wire.specs.Counts.{count_rule}
use Rattle.wire.specs.Words.{four_at, word_rules}
use Rattle.advice.specs.Walk.{size, values_at, entry_count, first_entry}

-- an entry of the map: its key, where its values start, and how many they are
pub record MapEntry : Type 0 where
  pub key : List ℕ
  pub values : ℕ
  pub len : ℕ

module _ (s t : List ℕ) (index : ℕ) where
  -- where the key is, as the table has it
  abbrev pub offset_at : ℕ
  offset_at = get_or t index 0

  -- the key: INDEX [index] where the table has no such place; SHORT for all 32 bytes, then both [the key]
  unfoldable pub key_rules : List Rule
  key_rules = rule INDEX index (leb (length t) index) ∷ word_rules s offset_at

  unfoldable pub key_outcome : Outcome (List ℕ)
  key_outcome = first_met key_rules (four_at s offset_at)

  -- the entry: its key as above; then as in the walk the length SHORT, OVERFLOW if 8 x length exceeds 2^64 - 1, both [length]; the values SHORT
  -- [values]. Values are not judged.
  unfoldable pub map_entry_rules : List Rule
  map_entry_rules =
      key_rules
      ++ (count_rule s (offset_at + 32)
      ∷ rule OVERFLOW (offset_at + 32) (over (8 * (size s offset_at).value))
      ∷ short_rule s (values_at s offset_at) (8 * (size s offset_at).value)
      ∷ [])

  unfoldable pub map_entry_outcome : Outcome MapEntry
  map_entry_outcome = first_met map_entry_rules (record { key = four_at s offset_at; values = values_at s offset_at; len = (size s offset_at).value })

-- How many places are enough for the map at a place: none where its count is not whole; else as many as it says it has entries, or one more
-- than the entries of 33 bytes, the least that an entry takes, that have room after the count. One more, since ROOM comes before the SHORT of the
-- entry that is cut off.
unfoldable pub places_needed : List ℕ → ℕ → ℕ
places_needed s at =
    pick (is_short s at (entry_count s at).len) 0
    (min (entry_count s at).value ((length s - first_entry s at) / 33 + 1))
