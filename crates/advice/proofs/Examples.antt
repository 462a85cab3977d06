-- Small maps, by one statement over one list: what the definitions answer is what the paper says of them. antt computes both sides.
-- Assumes nothing.
use mathlib.Core.Path.{◌≡◌, refl}
use mathlib.Core.List.{List, [], ◌∷◌, ◌++◌, map}
use Prim.Native.Nat.{ℕ, ◌+◌, ◌-◌, ◌*◌, ◌^◌}
use lib.Count.{count_trailing_zeros}
use lib.ListN.{length}
use Rattle.wire.specs.Table.{Outcome, refused, accepted, first_met, ◌>>=◌}
use Rattle.wire.specs.Refusals.{SHORT, OVERFLOW, INDEX, ELEMENT, DUPLICATE, ROOM}
use Rattle.wire.specs.Le.{le, le_bytes, number_at}
use Rattle.wire.specs.Rows.{rows, numbers_of}
use Rattle.wire.specs.Counts.{least_from, shortest_len, long_ones, count_length, count_value, counted}
use Rattle.wire.specs.Words.{modulus, is_element, not_elements, four_at, word_at, word_order, word_rules}
use Rattle.keys.specs.Sorted.{insert, sorted}
use Rattle.keys.specs.Keys.{same_key, seen_key, key_order, key_less}
use Rattle.advice.specs.Walk.{walk_rules, walk_end, key_offsets, walk_shown, Walked, map_rules, walk_outcome, key_table}
use Rattle.advice.specs.Lookup.{halving, Looked, found, absent, element_rules, found_rules, found_outcome, lookup_outcome, values_part}
use Rattle.advice.specs.Table.{MapEntry, key_rules, key_outcome, map_entry_rules, map_entry_outcome, places_needed}

-- ---- maps, by hand

-- the count v below 128, in one byte; a key whose first element is k, and whose others are 0
abbrev small : ℕ → ℕ
small v = 2 * v + 1

abbrev word : ℕ → List ℕ
word k = k ∷ 0 ∷ 0 ∷ 0 ∷ []

-- an entry: its key, its length in one byte, its values
abbrev entry : ℕ → ℕ → List ℕ → List ℕ
entry k len values = rows 8 (word k) ++ (small len ∷ rows 8 values)

-- two entries, at 1 and 42, the higher key first; the map ends at 75
abbrev two : List ℕ
two = small 2 ∷ entry 5 1 (7 ∷ []) ++ entry 3 0 []

-- the same key twice; then with the second one's value missing; then with a third entry that is cut off
abbrev twice : List ℕ
twice = small 2 ∷ entry 5 1 (7 ∷ []) ++ entry 5 0 []

abbrev twice_short : List ℕ
twice_short = small 2 ∷ entry 5 1 (7 ∷ []) ++ entry 5 1 []

abbrev twice_more : List ℕ
twice_more = small 3 ∷ entry 5 1 (7 ∷ []) ++ entry 5 0 []

-- one entry whose second value is no element
abbrev no_element : List ℕ
no_element = small 1 ∷ entry 5 2 (1 ∷ modulus ∷ [])

-- ---- what is asked, and what is answered

pub data Question : Type 0 where
  walk : List ℕ → ℕ → List ℕ → Question
  look : List ℕ → List ℕ → ℕ → List ℕ → Question
  key_at : List ℕ → List ℕ → ℕ → Question
  entry_at : List ℕ → List ℕ → ℕ → Question
  places : List ℕ → ℕ → Question

pub data Answer : Type 0 where
  walked : Outcome Walked → List ℕ → Answer
  looked : Outcome Looked → List ℕ → Answer
  keyed : Outcome (List ℕ) → Answer
  entered : Outcome MapEntry → Answer
  needed : ℕ → Answer

pub record Example : Type 0 where
  pub question : Question
  pub answer : Answer

infix 5 ◌⇒◌
abbrev pub ◌⇒◌ : Question → Answer → Example
q ⇒ a = record { question = q; answer = a }

abbrev pub ask : Question → Answer
ask (walk s at t) = walked (walk_outcome (length t) s at) (key_table s at t)
ask (look s t n key) = looked (lookup_outcome s t n key) (values_part s (lookup_outcome s t n key))
ask (key_at s t i) = keyed (key_outcome s t i)
ask (entry_at s t i) = entered (map_entry_outcome s t i)
ask (places s at) = needed (places_needed s at)

-- with so many long counts
abbrev pub walks_long : ℕ → ℕ → ℕ → List ℕ → Answer
walks_long long n end t = walked (accepted (record { entries = n; end = end; long = long })) t

abbrev pub walks : ℕ → ℕ → List ℕ → Answer
walks = walks_long 0

abbrev pub enters : List ℕ → ℕ → ℕ → Answer
enters key from len = entered (accepted (record { key = key; values = from; len = len }))

abbrev pub examples : List Example
examples =
    -- the walk: an empty map; nothing there; far beyond
    (walk (small 0 ∷ []) 0 (9 ∷ []) ⇒ walks 0 1 (9 ∷ []))
    ∷ (walk (small 0 ∷ []) 1 (9 ∷ []) ⇒ walked (refused SHORT 1) (0 ∷ []))
    ∷ (walk (small 0 ∷ []) (2 ^ 64 - 1) (9 ∷ []) ⇒ walked (refused SHORT (2 ^ 64 - 1)) (0 ∷ []))
    -- keys rise in the table, and the rest stays
    ∷ (walk two 0 (9 ∷ 9 ∷ 9 ∷ []) ⇒ walks 2 75 (42 ∷ 1 ∷ 9 ∷ []))
    -- ROOM at the key, even where no byte is left
    ∷ (walk two 0 (9 ∷ []) ⇒ walked (refused ROOM 42) (0 ∷ []))
    ∷ (walk (small 1 ∷ []) 0 [] ⇒ walked (refused ROOM 1) [])
    -- the key: SHORT for all 32 bytes, then ELEMENT
    ∷ (walk (small 1 ∷ rows 8 (modulus ∷ 0 ∷ 0 ∷ [])) 0 (9 ∷ []) ⇒ walked (refused SHORT 1) (0 ∷ []))
    ∷ (walk (small 1 ∷ rows 8 (word modulus)) 0 (9 ∷ []) ⇒ walked (refused ELEMENT 1) (0 ∷ []))
    -- the length: SHORT, OVERFLOW at 2^61; the values: SHORT
    ∷ (walk (small 1 ∷ rows 8 (word 5)) 0 (9 ∷ []) ⇒ walked (refused SHORT 33) (0 ∷ []))
    ∷ (walk (small 1 ∷ rows 8 (word 5) ++ (0 ∷ le_bytes 8 (2 ^ 61))) 0 (9 ∷ []) ⇒ walked (refused OVERFLOW 33) (0 ∷ []))
    ∷ (walk (small 1 ∷ rows 8 (word 5) ++ (0 ∷ le_bytes 8 (2 ^ 61 - 1))) 0 (9 ∷ []) ⇒ walked (refused SHORT 42) (0 ∷ []))
    -- DUPLICATE after the entry's values, and before the next entry
    ∷ (walk twice 0 (9 ∷ 9 ∷ []) ⇒ walked (refused DUPLICATE 42) (0 ∷ 0 ∷ []))
    ∷ (walk twice_short 0 (9 ∷ 9 ∷ []) ⇒ walked (refused SHORT 75) (0 ∷ 0 ∷ []))
    ∷ (walk twice_more 0 (9 ∷ 9 ∷ []) ⇒ walked (refused DUPLICATE 42) (0 ∷ 0 ∷ []))
    -- long counts: of the map, of a length, of both in nine bytes
    ∷ (walk (2 ∷ 0 ∷ []) 0 (9 ∷ []) ⇒ walks_long 1 0 2 (9 ∷ []))
    ∷ (walk (small 1 ∷ rows 8 (word 5) ++ (2 ∷ 0 ∷ [])) 0 (9 ∷ []) ⇒ walks_long 1 1 35 (1 ∷ []))
    ∷ (walk ((0 ∷ le_bytes 8 1) ++ (rows 8 (word 5) ++ (0 ∷ le_bytes 8 0))) 0 (9 ∷ []) ⇒ walks_long 2 1 50 (9 ∷ []))
    -- values are not judged by the walk
    ∷ (walk no_element 0 (9 ∷ []) ⇒ walks 1 50 (1 ∷ []))
    -- the lookup: the higher key at once, the lower one after it, and none between, above or among none
    ∷ (look two (42 ∷ 1 ∷ []) 2 (word 5) ⇒ looked (accepted (found 34 1 1)) (le_bytes 8 7))
    ∷ (look two (42 ∷ 1 ∷ []) 2 (word 3) ⇒ looked (accepted (found 75 0 2)) [])
    ∷ (look two (42 ∷ 1 ∷ []) 2 (word 4) ⇒ looked (accepted (absent 2)) [])
    ∷ (look two (42 ∷ 1 ∷ []) 2 (word 6) ⇒ looked (accepted (absent 1)) [])
    ∷ (look two (42 ∷ 1 ∷ []) 0 (word 5) ⇒ looked (accepted (absent 0)) [])
    -- ROOM [n]; a compared key that is not all in the file; a value that is no element
    ∷ (look two (42 ∷ 1 ∷ []) 3 (word 5) ⇒ looked (refused ROOM 3) [])
    ∷ (look two (44 ∷ []) 1 (word 5) ⇒ looked (refused SHORT 44) [])
    ∷ (look no_element (1 ∷ []) 1 (word 5) ⇒ looked (refused ELEMENT 42) [])
    -- by place of the table: no such place; a key that is not all in the file, or is no word; an entry whose length, or whose values, are not all
    -- there, or are too many; a value that is no element is not looked at
    ∷ (key_at two (42 ∷ 1 ∷ []) 0 ⇒ keyed (accepted (word 3)))
    ∷ (key_at two (42 ∷ 1 ∷ []) 2 ⇒ keyed (refused INDEX 2))
    ∷ (key_at two (44 ∷ []) 0 ⇒ keyed (refused SHORT 44))
    ∷ (key_at (rows 8 (word modulus)) (0 ∷ []) 0 ⇒ keyed (refused ELEMENT 0))
    ∷ (entry_at two (42 ∷ 1 ∷ []) 1 ⇒ enters (word 5) 34 1)
    ∷ (entry_at two (42 ∷ 1 ∷ []) 2 ⇒ entered (refused INDEX 2))
    ∷ (entry_at (rows 8 (word 5)) (0 ∷ []) 0 ⇒ entered (refused SHORT 32))
    ∷ (entry_at (rows 8 (word 5) ++ (0 ∷ le_bytes 8 (2 ^ 61))) (0 ∷ []) 0 ⇒ entered (refused OVERFLOW 32))
    ∷ (entry_at (rows 8 (word 5) ++ (small 1 ∷ [])) (0 ∷ []) 0 ⇒ entered (refused SHORT 33))
    ∷ (entry_at no_element (1 ∷ []) 0 ⇒ enters (word 5) 34 2)
    -- places enough: no count; no entry; the count where it is less; one more than have room (with one place less, ROOM: above)
    ∷ (places [] 0 ⇒ needed 0)
    ∷ (places (small 0 ∷ []) 0 ⇒ needed 0)
    ∷ (places two 0 ⇒ needed 2)
    ∷ (places (small 1 ∷ []) 0 ⇒ needed 1)
    ∷ (places (small 9 ∷ entry 5 0 [] ++ entry 6 0 []) 0 ⇒ needed 3)
    ∷ (walk (small 9 ∷ entry 5 0 [] ++ entry 6 0 []) 0 (9 ∷ 9 ∷ []) ⇒ walked (refused ROOM 67) (0 ∷ 0 ∷ []))
    ∷ (walk (small 9 ∷ entry 5 0 [] ++ entry 6 0 []) 0 (9 ∷ 9 ∷ 9 ∷ []) ⇒ walked (refused SHORT 67) (0 ∷ 0 ∷ 0 ∷ []))
    ∷ []

pub answered : map (λ (x : Example). ask x.question) examples ≡ map (λ (x : Example). x.answer) examples
unfolding first_met ◌>>=◌ le le_bytes rows numbers_of number_at least_from shortest_len long_ones count_length count_trailing_zeros count_value counted is_element not_elements four_at word_at word_order insert sorted same_key seen_key key_order key_less walk_rules walk_end key_offsets walk_shown map_rules walk_outcome key_table halving element_rules found_rules found_outcome lookup_outcome word_rules key_rules key_outcome map_entry_rules map_entry_outcome places_needed
answered = refl
