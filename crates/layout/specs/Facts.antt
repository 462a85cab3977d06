-- Format facts and the allocation bound.
use Rattle.std.specs.Prelude.{ℕ, ◌*◌, ◌/◌, ◌^◌, Bool, false, not, ◌||◌, Option, Some, None, ltb, eqb}
use Rattle.std.specs.Int.Count.{ones}
use Rattle.std.specs.Int.Bits.{bit_and}
use Rattle.wire.specs.Table.{pick}
use Rattle.layout.specs.declared.facts.FormatFacts.{FormatFacts}

-- flags and mask share a bit
abbrev pub share : ℕ → ℕ → Bool
share flags mask = not (eqb (bit_and flags mask) 0)

-- the hashless mask does not have exactly one bit, or shares a bit with the reserved mask, or the node maximum exceeds 2 ^ 30
unfoldable pub bad_format : FormatFacts → Bool
bad_format f = (not (eqb (ones f.hashless) 1) || share f.hashless f.reserved) || ltb (2 ^ 30) f.max_nodes

-- with a bound of n bytes (there may be none): the count exceeds floor(n / size)
unfoldable pub over_budget : Option ℕ → ℕ → ℕ → Bool
over_budget None size count = false
over_budget (Some n) size count = ltb (n / size) count

-- the bytes of the hashes: 32 an internal node, none where the file is hashless
abbrev pub hash_bytes : Bool → ℕ → ℕ
hash_bytes hashless internal = pick hashless 0 (32 * internal)
