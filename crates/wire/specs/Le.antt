-- Little-endian numbers of any width: the value of a list of bytes, the bytes of a number, and a number read at a place.
use Rattle.std.specs.Prelude.{ℕ, zero, suc, ◌+◌, ◌-◌, ◌*◌, ◌/◌, ◌%◌, ◌^◌, ◌<◌, Bool, List, [], ◌∷◌, ltb, length, get_or}
use Rattle.std.proofs.Math.Seq.{slice}
use Rattle.wire.specs.Table.{Rule, rule, Outcome, pick, first_met, At}
use Rattle.wire.specs.Refusals.{SHORT}

-- every element is below 256 (past the end `get_or` gives 0)
abbrev pub Bytes : List ℕ → Type 0
Bytes bs = (i : ℕ) → get_or bs i 0 < 256

-- the value of a list of bytes, lowest first
unfoldable pub le : List ℕ → ℕ
le [] = 0
le (b ∷ bs) = b + 256 * le bs

-- the number of n bytes at `at` of s
abbrev pub le_at : List ℕ → ℕ → ℕ → ℕ
le_at s at n = le (slice at (at + n) s)

-- the n lowest bytes of x, lowest first
unfoldable pub le_bytes : ℕ → ℕ → List ℕ
le_bytes zero x = []
le_bytes (suc n) x = (x % 256) ∷ le_bytes n (x / 256)

-- above the numbers of 64 bits
abbrev pub over : ℕ → Bool
over n = ltb (2 ^ 64 - 1) n

-- n bytes at a place are not all there
abbrev pub is_short : List ℕ → ℕ → ℕ → Bool
is_short s at n = ltb (length s) (at + n)

-- the number of the n bytes at a place; 0 where they are not all there
unfoldable pub number_at : ℕ → List ℕ → ℕ → ℕ
number_at n s at = pick (is_short s at n) 0 (le_at s at n)

-- n bytes at a place that are not all there: SHORT [the place]
abbrev pub short_rule : List ℕ → ℕ → ℕ → Rule
short_rule s at n = rule SHORT at (is_short s at n)

-- a number of n bytes is read at a place
unfoldable pub number_outcome : ℕ → List ℕ → ℕ → Outcome (At ℕ)
number_outcome n s at = first_met (short_rule s at n ∷ []) (record { value = le_at s at n; next = at + n })
