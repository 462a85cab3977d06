-- The map walk: its rules, in the paper's order, and what an accepted map gives and shows. Every read is total: past the end a byte reads as
-- 0, and a rule before it has refused.
use Rattle.std.specs.Prelude.{◌≡◌, ℕ, zero, suc, ◌+◌, ◌*◌, ◌≤◌, ◌<◌, false, List, [], ◌∷◌, ◌++◌, map, leb, length, get_or, drop, replicate}
use Rattle.std.proofs.Math.Seq.{slice}
use Rattle.wire.specs.Table.{Rule, rule, Outcome, refused, accepted, first_met}
use Rattle.wire.specs.Refusals.{OVERFLOW, ELEMENT, DUPLICATE, ROOM}
use Rattle.wire.specs.Le.{is_short, short_rule, over}
use Rattle.wire.specs.Rows.{numbers_of}
use Rattle.wire.specs.Counts.{long_ones, counted, count_rule}
use Rattle.wire.specs.Words.{not_elements, four_at, word_at, word_order}
use Rattle.std.specs.declared.cmp.Ordering.TheVariants.{Less}
use Rattle.wire.specs.declared.count.Count.{Count}
use Rattle.keys.specs.Sorted.{sorted}
use Rattle.keys.specs.Keys.{seen_key, key_less}

-- ---- one entry: a key of 32 bytes, a length, as many values of 8 bytes

module _ (s : List ℕ) (at : ℕ) where
  abbrev pub size : Count
  size = counted s (at + 32)

  abbrev pub values_at : ℕ
  values_at = at + 32 + size.len

  abbrev pub values : List ℕ
  values = numbers_of 8 size.value (slice values_at (values_at + 8 * size.value) s)

  abbrev pub next_entry : ℕ
  next_entry = values_at + 8 * size.value

  -- its rules, after the keys `seen`: ROOM if the lent table is used up, and the key SHORT for all 32 bytes, then ELEMENT [key]; the length
  -- SHORT, OVERFLOW if 8 x length exceeds 2^64 - 1 [length]; the values SHORT [values]; DUPLICATE [this key]
  abbrev pub advice_rules : ℕ → List (List ℕ) → List Rule
  advice_rules places seen =
      rule ROOM at (leb places (length seen))
      ∷ short_rule s at 32
      ∷ rule ELEMENT at (not_elements (four_at s at))
      ∷ count_rule s (at + 32)
      ∷ rule OVERFLOW (at + 32) (over (8 * size.value))
      ∷ short_rule s values_at (8 * size.value)
      ∷ rule DUPLICATE at (seen_key seen (four_at s at))
      ∷ []

-- ---- n entries from a place on: their rules, where they end, the offsets of their keys, and what they show

unfoldable pub walk_rules : ℕ → List ℕ → ℕ → ℕ → List (List ℕ) → List Rule
walk_rules places s at zero seen = []
walk_rules places s at (suc n) seen = advice_rules s at places seen ++ walk_rules places s (next_entry s at) n (four_at s at ∷ seen)

unfoldable pub walk_end : List ℕ → ℕ → ℕ → ℕ
walk_end s at zero = at
walk_end s at (suc n) = walk_end s (next_entry s at) n

unfoldable pub key_offsets : List ℕ → ℕ → ℕ → List ℕ
key_offsets s at zero = []
key_offsets s at (suc n) = at ∷ key_offsets s (next_entry s at) n

pub record Advice : Type 0 where
  pub key : List ℕ
  pub size : Count
  pub values : List ℕ

unfoldable pub walk_shown : List ℕ → ℕ → ℕ → List Advice
walk_shown s at zero = []
walk_shown s at (suc n) = record { key = four_at s at; size = size s at; values = values s at } ∷ walk_shown s (next_entry s at) n

-- the keys among them
abbrev pub shown_keys : List ℕ → ℕ → ℕ → List (List ℕ)
shown_keys s at n = map (λ (a : Advice). a.key) (walk_shown s at n)

-- and their lengths
abbrev pub shown_sizes : List ℕ → ℕ → ℕ → List Count
shown_sizes s at n = map (λ (a : Advice). a.size) (walk_shown s at n)

-- ---- the map: a count, and as many entries

-- what an accepted walk gives: the number of entries, the place after the last, and how many of the map's counts are long
pub record Walked : Type 0 where
  pub entries : ℕ
  pub end : ℕ
  pub long : ℕ

module _ (s : List ℕ) (at : ℕ) where
  abbrev pub entry_count : Count
  entry_count = counted s at

  abbrev pub first_entry : ℕ
  first_entry = at + entry_count.len

  -- its counts, in the file's order: that of the entries, and their lengths
  abbrev pub map_counts : List Count
  map_counts = entry_count ∷ shown_sizes s first_entry entry_count.value

  abbrev pub walked : Walked
  walked = record { entries = entry_count.value; end = walk_end s first_entry entry_count.value; long = long_ones map_counts }

  -- the walk's rules: SHORT [offset] beyond the file or with no whole count; then each entry's, from first to last
  unfoldable pub map_rules : ℕ → List Rule
  map_rules places = count_rule s at ∷ walk_rules places s first_entry entry_count.value []

-- over a lent table of so many places
unfoldable pub walk_outcome : ℕ → List ℕ → ℕ → Outcome Walked
walk_outcome places s at = first_met (map_rules s at places) (walked s at)

-- The key table after the walk. Accepted: the n key offsets, keys rising, and the rest as it was. Refused: all zero.
abbrev pub table_of : List ℕ → ℕ → List ℕ → Outcome Walked → List ℕ
table_of s first table (refused n p) = replicate (length table) 0
table_of s first table (accepted w) = sorted (key_less s) (key_offsets s first w.entries) ++ drop w.entries table

unfoldable pub key_table : List ℕ → ℕ → List ℕ → List ℕ
key_table s at table = table_of s (first_entry s at) table (walk_outcome (length table) s at)

-- the keys of a table's first n offsets are whole, and each is below the next
pub record Risen (s t : List ℕ) (n : ℕ) : Type 0 where
  pub room : n ≤ length t
  pub whole : (i : ℕ) → i < n → is_short s (get_or t i 0) 32 ≡ false
  pub rise : (i j : ℕ) → i < j → j < n → word_order (word_at s (get_or t i 0)) (word_at s (get_or t j 0)) ≡ Less

-- an entry of the map at a place: its number, below n, its key, and the place and the number of its values
pub record EntryOf (s : List ℕ) (at n : ℕ) (key : List ℕ) (from len : ℕ) : Type 0 where
  pub number : ℕ
  pub below : number < n
  pub has : four_at s (walk_end s (first_entry s at) number) ≡ key
  pub values : from ≡ values_at s (walk_end s (first_entry s at) number)
  pub many : len ≡ (size s (walk_end s (first_entry s at) number)).value
