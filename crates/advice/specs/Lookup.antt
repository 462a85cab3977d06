-- Lookup of a key among the first n offsets of a table: by halving, over any bytes and any table; and the values of a key.
use Rattle.std.specs.Prelude.{ℕ, zero, suc, ◌+◌, ◌-◌, ◌*◌, ◌/◌, not, List, [], ◌∷◌, ltb, eqb, length, get_or}
use Rattle.std.proofs.Math.Seq.{slice}
use Rattle.std.specs.Int.Count.{count_leading_zeros}
use Rattle.wire.specs.Table.{Rule, rule, Outcome, refused, accepted, pick, first_met, checked, ◌>>=◌}
use Rattle.wire.specs.Refusals.{SHORT, OVERFLOW, ELEMENT, ROOM}
use Rattle.wire.specs.Le.{is_short, short_rule, number_at, over}
use Rattle.wire.specs.Counts.{count_rule}
use Rattle.wire.specs.Words.{is_element, word_at, word_order}
use Rattle.std.specs.declared.cmp.Ordering.{Ordering}
use Rattle.std.specs.declared.cmp.Ordering.TheVariants.{Less, Equal, Greater}
use Rattle.advice.specs.Walk.{size, values_at}

-- ---- the halving

-- where it ends: at an equal key, by its offset, or without one; and the number of keys compared
pub data Halved : Type 0 where
  met : ℕ → ℕ → Halved
  missing : ℕ → Halved

abbrev pub by_order : {A : Type 0} → Ordering → A → A → A → A
by_order Less a b c = a
by_order Equal a b c = b
by_order Greater a b c = c

-- The range of `size` offsets from `low` on. The middle is low + floor(size / 2). A compared key that is not all in the file: SHORT [its
-- offset]. Keys are compared as numbers and not judged, and an equal one ends the search. Below the middle the size becomes
-- floor(size / 2); above it low becomes the middle + 1, and the size size - floor(size / 2) - 1.
-- `tries` only bounds the recursion: as many as there are offsets are enough.
unfoldable pub halving : List ℕ → List ℕ → List ℕ → ℕ → ℕ → ℕ → ℕ → Outcome Halved
halving s t key zero low size compared = accepted (missing compared)
halving s t key (suc tries) low size compared =
    let middle = low + size / 2 in
    let at = get_or t middle 0 in
    pick (eqb size 0) (accepted (missing compared))
    (pick (is_short s at 32) (refused SHORT at)
    (by_order (word_order key (word_at s at))
    (halving s t key tries low (size / 2) (compared + 1))
    (accepted (met at (compared + 1)))
    (halving s t key tries (middle + 1) (size - size / 2 - 1) (compared + 1))))

-- ---- the answer

-- found: the values' offset, their number and the number of keys compared; absent: the number of keys compared
pub data Looked : Type 0 where
  found : ℕ → ℕ → ℕ → Looked
  absent : ℕ → Looked

-- ELEMENT [element] at the first of n values that is no element
unfoldable pub element_rules : List ℕ → ℕ → ℕ → List Rule
element_rules s at zero = []
element_rules s at (suc n) = rule ELEMENT at (not (is_element (number_at 8 s at))) ∷ element_rules s (at + 8) n

-- the length and the values of the entry whose key is at a place, as in the walk; then each value
unfoldable pub found_rules : List ℕ → ℕ → List Rule
found_rules s at =
    count_rule s (at + 32)
    ∷ rule OVERFLOW (at + 32) (over (8 * (size s at).value))
    ∷ short_rule s (values_at s at) (8 * (size s at).value)
    ∷ element_rules s (values_at s at) (size s at).value

unfoldable pub found_outcome : List ℕ → Halved → Outcome Looked
found_outcome s (met at compared) = first_met (found_rules s at) (found (values_at s at) (size s at).value compared)
found_outcome s (missing compared) = accepted (absent compared)

-- n above the table's length: ROOM [n]; then the halving; then what it found
unfoldable pub lookup_outcome : List ℕ → List ℕ → ℕ → List ℕ → Outcome Looked
lookup_outcome s t n key = checked (rule ROOM n (ltb (length t) n) ∷ []) >>= (λ _. halving s t key n 0 n 0 >>= found_outcome s)

-- the values as a part of the file: empty where the lookup refuses or says absent
abbrev pub values_part : List ℕ → Outcome Looked → List ℕ
values_part s (refused n p) = []
values_part s (accepted (found at len compared)) = slice at (at + 8 * len) s
values_part s (accepted (absent compared)) = []

-- the bit length of a number of 64 bits
unfoldable pub bit_length : ℕ → ℕ
bit_length n = 64 - count_leading_zeros 64 n
