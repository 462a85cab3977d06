-- Rows of a section by their number, and the pass over the nodes.
use Rattle.std.specs.Prelude.{ℕ, zero, suc, ◌+◌, ◌*◌, ◌/◌, ◌%◌, ◌^◌, ◌<◌, ◌≤◌, ◌≡◌, Bool, List, ◌∷◌, get_or, Option, Some, None}
use Rattle.wire.specs.Table.{Rule, rule, Outcome, accepted, pick, first_met, ◌>>=◌}
use Rattle.wire.specs.Refusals.{SHORT, OVERFLOW}
use Rattle.wire.specs.Le.{le_at, is_short, over}
use Rattle.wire.specs.declared.units.ByteOffset.{ByteOffset}
use Rattle.info.specs.Node.{is_external}
use Rattle.info.specs.Entry.{entry_of, decode_rules, decode_outcome}
use Rattle.info.specs.declared.MastNodeEntry.{MastNodeEntry}

-- where row i of rows of some size starts, and whether its end is above 2 ^ 64 - 1: then it has no place
abbrev pub row_at : ℕ → ℕ → ℕ → ℕ
row_at section size i = section + size * i

abbrev pub row_over : ℕ → ℕ → ℕ → Bool
row_over section size i = over (row_at section size i + size)

abbrev pub row_place : ℕ → ℕ → ℕ → Option ByteOffset
row_place section size i = pick (row_over section size i) None (Some (record { 0 = row_at section size i }))

-- ---- the entry in row i of the rows of 8 bytes from `first` on

abbrev pub row_word : List ℕ → ℕ → ℕ → ℕ
row_word s first i = le_at s (row_at first 8 i) 8

-- OVERFLOW, SHORT, TAG, PAYLOAD [the row's number]
unfoldable pub row_rules : List ℕ → ℕ → ℕ → List Rule
row_rules s first i =
    rule OVERFLOW i (row_over first 8 i)
    ∷ rule SHORT i (is_short s (row_at first 8 i) 8)
    ∷ decode_rules i (row_word s first i)

unfoldable pub row_outcome : List ℕ → ℕ → ℕ → Outcome MastNodeEntry
row_outcome s first i = first_met (row_rules s first i) (entry_of (row_word s first i))

-- the same of words that no file holds yet
abbrev pub word_read : List ℕ → ℕ → Outcome MastNodeEntry
word_read words i = decode_outcome i (get_or words i 0)

-- ---- the nodes from first to last, where `read i` is what row i says

-- One node: an entry refusal stands; else the entry is judged. `judge` is given the node, what the nodes before it handed on, and the entry.
abbrev pub node_step : {A : Type 0} → (ℕ → Outcome MastNodeEntry) → (ℕ → A → MastNodeEntry → Outcome A) → ℕ → A → Outcome A
node_step read judge i = λ before. read i >>= judge i before

-- The nodes from 0 on, each judged before the next one is read; the first refusal stands.
unfoldable pub node_pass : {A : Type 0} → (ℕ → Outcome MastNodeEntry) → (ℕ → A → MastNodeEntry → Outcome A) → A → ℕ → Outcome A
node_pass read judge start zero = accepted start
node_pass read judge start (suc n) = node_pass read judge start n >>= node_step read judge n

-- The pass that judges nothing: the first refusal, or how many are External.
abbrev pub external_one : MastNodeEntry → ℕ
external_one e = pick (is_external e) 1 0

abbrev pub count_external : ℕ → ℕ → MastNodeEntry → Outcome ℕ
count_external i externals = λ e. accepted (externals + external_one e)

abbrev pub entry_pass : (ℕ → Outcome MastNodeEntry) → ℕ → Outcome ℕ
entry_pass read n = node_pass read count_external 0 n

-- ---- inner contracts only: what the loops hand to each other

-- the first i nodes have entries, and some of them are External
abbrev pub Begun : (ℕ → Outcome MastNodeEntry) → ℕ → ℕ → Type 0
Begun read i externals = (externals ≤ i) × (entry_pass read i ≡ accepted externals)

-- the nodes from one to another have entries, and so many of them are External
abbrev pub Onward : (ℕ → Outcome MastNodeEntry) → ℕ → ℕ → ℕ → Type 0
Onward read from to more = (before : ℕ) → Begun read from before → Begun read to (before + more)

-- a strip of nodes, from one on, of n: where it ends, and how many of it are External
abbrev pub Strip : (ℕ → Outcome MastNodeEntry) → ℕ → ℕ → ℕ × ℕ → Type 0
Strip read from n strip = (from < strip.0) × ((strip.0 ≤ n) × Onward read from strip.0 strip.1)

-- where the upper half of a word has a tag of 2 to 5, no bit of the payload lies there
abbrev pub Narrow : ℕ → Type 0
Narrow half = 2 * 2 ^ 28 ≤ half → half < 6 * 2 ^ 28 → half % 2 ^ 28 ≡ 0

-- two numbers of 32 bits side by side, and that a bit is set in neither
abbrev pub beside : ℕ → ℕ → ℕ
beside low high = high * 2 ^ 32 + low

abbrev pub Clear : ℕ → ℕ → Type 0
Clear k pair = (pair / 2 ^ k % 2 ≡ 0) × (pair / 2 ^ (k + 32) % 2 ≡ 0)
