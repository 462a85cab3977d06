-- Counts (vint64): read, written, and their forms. The laws are in proofs/Counts.antt and proofs/Forms.antt.
use Rattle.std.specs.Prelude.{◌≡◌, ℕ, zero, suc, ◌+◌, ◌-◌, ◌*◌, ◌/◌, ◌^◌, ◌≤◌, ◌<◌, Bool, List, [], ◌∷◌, length, get_or, leb, ltb, eqb}
use Rattle.std.proofs.lemmas.List.Edits.{sets}
use Rattle.std.specs.Int.Count.{count_trailing_zeros}
use Rattle.wire.specs.Table.{Rule, rule, Outcome, accepted, pick, first_met, At}
use Rattle.wire.specs.Refusals.{ROOM}
use Rattle.wire.specs.Le.{le_at, le_bytes, short_rule}
use Rattle.wire.specs.declared.count.Count.{Count}

-- ---- the shortest length

-- the least length from `len` on with v < 2 ^ (7 * length), of k tries; else the length after those
unfoldable pub least_from : ℕ → ℕ → ℕ → ℕ
least_from zero len v = len
least_from (suc k) len v = pick (ltb v (2 ^ (7 * len))) len (least_from k (len + 1) v)

-- the least length from 1 to 8 with v < 2 ^ (7 * length), else 9
unfoldable pub shortest_len : ℕ → ℕ
shortest_len v = least_from 8 1 v

-- v in `len` bytes: a count is the shortest if that is v's shortest length, else it is long
abbrev pub count_of : ℕ → ℕ → Count
count_of len v = record { value = v; len = len; shortest = eqb len (shortest_len v) }

-- how many counts of a list are long
unfoldable pub long_ones : List Count → ℕ
long_ones [] = 0
long_ones (c ∷ cs) = pick c.shortest 0 1 + long_ones cs

-- ---- reading

-- the length that the first byte gives: its trailing zero bits, plus one; 9 for the byte 0
unfoldable pub count_length : ℕ → ℕ
count_length b = count_trailing_zeros 8 b + 1

-- The value of the count of `len` bytes at `at`. Up to 8: the bytes as a number, without its `len` low bits. 9: the 8 bytes after the first.
unfoldable pub count_value : List ℕ → ℕ → ℕ → ℕ
count_value s at len = pick (leb len 8) (le_at s at len / 2 ^ len) (le_at s (at + 1) 8)

-- what the count at `at` says, where it is whole: its value, its length in bytes, and whether that is the shortest
unfoldable pub counted : List ℕ → ℕ → Count
counted s at = let n = count_length (get_or s at 0) in count_of n (count_value s at n)

-- a count that is not whole: SHORT [its start]
abbrev pub count_rule : List ℕ → ℕ → Rule
count_rule s at = short_rule s at (counted s at).len

unfoldable pub count_outcome : List ℕ → ℕ → Outcome (At Count)
count_outcome s at = first_met (count_rule s at ∷ []) (record { value = counted s at; next = at + (counted s at).len })

-- a count of v in len bytes was read at `at`
abbrev pub Reads : List ℕ → ℕ → ℕ → ℕ → Type 0
Reads s at len v = count_outcome s at ≡ accepted (record { value = count_of len v; next = at + len })

-- ---- writing

-- The form of v in `len` bytes. Up to 8: v, above a one, above `len - 1` zeros. 9: the byte 0, and v in 8 bytes.
unfoldable pub count_form : ℕ → ℕ → List ℕ
count_form len v = pick (leb len 8) (le_bytes len ((2 * v + 1) * 2 ^ (len - 1))) (0 ∷ le_bytes 8 v)

-- v has a form in `len` bytes
pub record Form (len v : ℕ) : Type 0 where
  pub least : 1 ≤ len
  pub most : len ≤ 9
  pub below : len ≤ 8 → v < 2 ^ (7 * len)
  pub word : v < 2 ^ 64

-- the shortest form
abbrev pub count_bytes : ℕ → List ℕ
count_bytes v = count_form (shortest_len v) v

-- the shortest form of v has no room at `at` of n bytes
abbrev pub no_room : ℕ → ℕ → ℕ → Bool
no_room n at v = ltb n (at + shortest_len v)

-- What a write answers, the place after the count or ROOM [the place asked for], and what it leaves: the shortest form of v stored from `at`
-- on, or all as it was.
unfoldable pub write_outcome : List ℕ → ℕ → ℕ → Outcome ℕ
write_outcome out at v = first_met (rule ROOM at (no_room (length out) at v) ∷ []) (at + shortest_len v)

unfoldable pub with_count : List ℕ → ℕ → ℕ → List ℕ
with_count out at v = pick (no_room (length out) at v) out (sets out at (count_bytes v))
