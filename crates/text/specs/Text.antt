-- Texts as lists of bytes: a quoted text, a number in decimal, a text whose holes numbers fill, and what a write into a lent buffer answers and
-- leaves.
use Rattle.std.specs.Prelude.{ℕ, zero, suc, ◌+◌, ◌/◌, ◌%◌, ◌^◌, List, [], ◌∷◌, ◌++◌, ltb, eqb, length, get_or, drop}
use Prim.Native.Char.{code}
use Prim.Native.String.{String, [] as []ₛ, ◌∷◌ as ◌∷ₛ◌}
use Rattle.wire.specs.Table.{rule, Outcome, pick, first_met}
use Rattle.wire.specs.Refusals.{ROOM, OVERFLOW}

-- a quoted text, of characters below 128, as its bytes
unfoldable pub bytes : String → List ℕ
bytes []ₛ = []
bytes (c ∷ₛ s) = code c ∷ bytes s

-- ---- a number in decimal

-- the byte of a digit: 48 is `0`
abbrev pub digit : ℕ → ℕ
digit d = 48 + d

-- in at most k digits, the most significant first, with no leading zero; a number below 10 is one digit, so 0 is `0`
unfoldable pub decimal_in : ℕ → ℕ → List ℕ
decimal_in zero n = []
decimal_in (suc k) n = pick (ltb n 10) (digit n ∷ []) (decimal_in k (n / 10) ++ (digit (n % 10) ∷ []))

-- a number of 64 bits has at most 20 digits
unfoldable pub decimal : ℕ → List ℕ
decimal n = decimal_in 20 n

-- ---- a text with holes

-- the byte `#` is a hole
abbrev pub hole : ℕ
hole = 35

-- what a byte of the text becomes: a hole its number in decimal, any other itself
unfoldable pub piece : ℕ → ℕ → List ℕ
piece b n = pick (eqb b hole) (decimal n) (b ∷ [])

-- how many holes are past once a byte is
unfoldable pub holes_past : ℕ → ℕ → ℕ
holes_past b k = pick (eqb b hole) (k + 1) k

-- the text with its holes filled, each by the next number, from number k on; 0 where there is none
unfoldable pub filled_from : ℕ → List ℕ → List ℕ → List ℕ
filled_from k [] numbers = []
filled_from k (b ∷ text) numbers = piece b (get_or numbers k 0) ++ filled_from (holes_past b k) text numbers

abbrev pub filled : List ℕ → List ℕ → List ℕ
filled text numbers = filled_from 0 text numbers

-- ---- a text is written into a lent buffer, from its start on

-- it answers how many bytes were written, or ROOM [the bytes needed]
unfoldable pub text_outcome : List ℕ → List ℕ → Outcome ℕ
text_outcome out text = first_met (rule ROOM (length text) (ltb (length out) (length text)) ∷ []) (length text)

-- the buffer afterwards: the text, and the rest as it was; or all as it was, where the text has no room
unfoldable pub with_text : List ℕ → List ℕ → List ℕ
with_text out text = pick (ltb (length out) (length text)) out (text ++ drop (length text) out)

-- ---- the same of a text with holes, which may not be too long to be counted

-- 20 digits for each of so many bytes are still counted below 2^64
abbrev pub longest : ℕ
longest = 2 ^ 59

-- OVERFLOW [the bytes of the text] above that, before ROOM
unfoldable pub filled_outcome : List ℕ → List ℕ → List ℕ → Outcome ℕ
filled_outcome out text numbers =
    first_met
    (rule OVERFLOW (length text) (ltb longest (length text))
    ∷ rule ROOM (length (filled text numbers)) (ltb (length out) (length (filled text numbers)))
    ∷ [])
    (length (filled text numbers))

unfoldable pub with_filled : List ℕ → List ℕ → List ℕ → List ℕ
with_filled out text numbers = pick (ltb longest (length text)) out (with_text out (filled text numbers))
