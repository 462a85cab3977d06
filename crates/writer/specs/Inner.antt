-- Inner contracts only: the writer's table in segments, one for each stage of the code; sizes; and how a key stands among the earlier ones.
-- A reader who believes the table of Writer need not read them: proofs/Split.antt shows that they say what the table says.
use Rattle.std.specs.Prelude.{ℕ, ◌+◌, ◌-◌, ◌*◌, ◌^◌, ◌<◌, ◌≡◌, Bool, true, false, not, List, [], ◌∷◌, map, ◌⊎◌, length, ltb, eqb}
use Rattle.wire.specs.Table.{Rule, rule, Outcome, accepted, first_met, checked, NoneMet, ◌>>=◌}
use Rattle.wire.specs.Refusals.{FLAGS, OVERFLOW, TOO-MANY, ROOM, FORMAT, PARTS}
use Rattle.wire.specs.Le.{over}
use Rattle.wire.specs.Rows.{Below as AllBelow}
use Rattle.wire.specs.Counts.{shortest_len}
use Rattle.wire.specs.Words.{word_order}
use Rattle.std.specs.declared.cmp.Ordering.TheVariants.{Less, Greater}
use Rattle.layout.specs.Facts.{share, bad_format, hash_bytes}
use Rattle.layout.specs.Scan.{words_rules, externals}
use Rattle.layout.specs.declared.facts.FormatFacts.{FormatFacts}
use Rattle.keys.specs.Keys.{seen_key}
use Rattle.keys.specs.Claim.{key_at, keys_before}
use Rattle.writer.specs.Parts.{Parts}
use Rattle.writer.specs.Writer.{sum, key_rules}
use Rattle.writer.specs.declared.key.Standing.{Standing}
use Rattle.writer.specs.declared.key.Standing.TheVariants.{Highest, Between, Repeated}

-- ---- the segments

unfoldable pub head_rules : FormatFacts → ℕ → ℕ → List Rule
head_rules f flags n =
    rule FORMAT 0 (bad_format f)
    ∷ rule FLAGS 4 (share flags f.reserved)
    ∷ rule TOO-MANY 0 (ltb f.max_nodes n)
    ∷ []

-- by the lengths of the parts
unfoldable pub part_rules : Bool → ℕ → ℕ → ℕ → ℕ → ℕ → ℕ → List ℕ → List Rule
part_rules hashless internal external external_bytes hash_length keys values lengths =
    rule PARTS 1 (not (eqb external_bytes (32 * external)))
    ∷ rule PARTS 2 (not (eqb hash_length (hash_bytes hashless internal)))
    ∷ rule PARTS 3 (not (eqb keys (4 * length lengths)))
    ∷ rule PARTS 4 (not (eqb values (sum lengths)))
    ∷ []

unfoldable pub room_rules : ℕ → ℕ → List Rule
room_rules n room = rule OVERFLOW 0 (over n) ∷ rule ROOM n (ltb room n) ∷ []

-- the entry words: the first refusal, or how many are External
unfoldable pub words_outcome : List ℕ → Outcome ℕ
words_outcome words = first_met (words_rules 1 0 words) (externals words)

-- all that is judged before the size: the externals are handed on
unfoldable pub fit_outcome : FormatFacts → Parts → Outcome ℕ
fit_outcome f p =
    checked (head_rules f p.flags (length p.words))
    >>= (λ _. words_outcome p.words
    >>= (λ x. checked (part_rules (share p.flags f.hashless) (length p.words - x) x (length p.external) (length p.hashes) (length p.keys) (length p.values) p.lengths)
    >>= (λ _. checked (key_rules 0 [] p.keys p.lengths)
    >>= (λ _. accepted x))))

-- ---- keys

-- no key before number i is above the one at `top`
abbrev pub Top : List ℕ → ℕ → ℕ → Type 0
Top keys i top = (i ≡ 0) ⊎ ((top < i) × ((j : ℕ) → j < i → word_order (key_at keys top) (key_at keys j) ≡ Less → ⊥))

-- what is known of a key among those before number i, of which `top` is the highest
abbrev pub Told : Standing → List ℕ → ℕ → ℕ → List ℕ → Type 0
Told Highest keys i top key = (seen_key (keys_before keys i) key ≡ false) × ((i ≡ 0) ⊎ (word_order (key_at keys top) key ≡ Less))
Told Between keys i top key = (seen_key (keys_before keys i) key ≡ false) × (word_order (key_at keys top) key ≡ Greater)
Told Repeated keys i top key = seen_key (keys_before keys i) key ≡ true

-- the first of n keys that an earlier one is has the number `twice`; where there is none, n stands for it
abbrev pub FirstTwice : List ℕ → ℕ → ℕ → Type 0
FirstTwice keys n twice =
    ((i : ℕ) → i < n → i < twice → seen_key (keys_before keys i) (key_at keys i) ≡ false)
    × (twice < n → seen_key (keys_before keys twice) (key_at keys twice) ≡ true)

-- ---- sizes

-- the bytes of the header, and of the counts that are not lengths of values
abbrev pub counts_size : ℕ → ℕ → ℕ → ℕ → ℕ → ℕ → ℕ
counts_size header internal external roots blocks entries =
    header + shortest_len internal + shortest_len external + shortest_len roots + shortest_len blocks + shortest_len entries

-- by the header's size, the lengths of the parts, and the number of externals
abbrev pub file_size : ℕ → Parts → ℕ → ℕ
file_size header p x =
    counts_size header (length p.words - x) x (length p.roots) (length p.blocks) (length p.lengths)
    + 4 * length p.roots
    + length p.blocks
    + 8 * length p.words
    + length p.external
    + length p.hashes
    + 8 * length p.keys
    + sum (map shortest_len p.lengths)
    + 8 * length p.values

-- what is known of parts that fit, with so many externals
pub record Fitting (p : Parts) (x : ℕ) : Type 0 where
  pub words : NoneMet (words_rules 1 0 p.words)
  pub external : x ≡ externals p.words
  pub keys : length p.keys ≡ 4 * length p.lengths
  pub values : length p.values ≡ sum p.lengths

-- the lengths of lent parts are numbers of 64 bits, as are the lengths of values that they hold
pub record Numbered (p : Parts) : Type 0 where
  pub roots : length p.roots < 2 ^ 64
  pub blocks : length p.blocks < 2 ^ 64
  pub words : length p.words < 2 ^ 64
  pub lengths : length p.lengths < 2 ^ 64
  pub sizes : AllBelow (2 ^ 64) p.lengths
