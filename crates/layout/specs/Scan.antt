-- The scan, in its order: the rules one line each, and what an accepted file's layout and its number of long counts are.
-- Every read is total: past the end a byte reads as 0, and a rule before it has refused.
use Rattle.std.specs.Prelude.{ℕ, ◌+◌, ◌*◌, Bool, not, ◌&&◌, List, [], ◌∷◌, ◌++◌, Option, Some, None, ltb, eqb, get_or}
use Rattle.std.proofs.Math.Seq.{slice}
use Rattle.wire.specs.Table.{Rule, rule, Outcome, pick, first_met}
use Rattle.wire.specs.Refusals.{MAGIC, VERSION, FLAGS, HASHLESS, OVERFLOW, TOO-MANY, BUDGET, EXTERNALS, FORMAT}
use Rattle.wire.specs.Le.{short_rule, over}
use Rattle.wire.specs.Counts.{long_ones, counted, count_rule}
use Rattle.wire.specs.Rows.{numbers_of, differs}
use Rattle.wire.specs.declared.count.Count.{Count}
use Rattle.wire.specs.declared.units.ByteOffset.{ByteOffset}
use Rattle.info.specs.Node.{is_external}
use Rattle.info.specs.Entry.{entry_of, decode_rules}
use Rattle.layout.specs.Facts.{share, bad_format, over_budget, hash_bytes}
use Rattle.layout.specs.declared.facts.FormatFacts.{FormatFacts}
use Rattle.layout.specs.declared.forest.ForestLayout.{ForestLayout}

-- what an accepted file gives: its layout, and how many of its four counts are long
pub record Scanned : Type 0 where
  pub layout : ForestLayout
  pub long : ℕ

-- ---- entries from first to last

-- TAG, PAYLOAD of each word, whose places rise by `step` from the first one's
unfoldable pub words_rules : ℕ → ℕ → List ℕ → List Rule
words_rules step at [] = []
words_rules step at (w ∷ ws) = decode_rules at w ++ words_rules step (at + step) ws

-- how many of the words are External
unfoldable pub externals : List ℕ → ℕ
externals [] = 0
externals (w ∷ ws) = pick (is_external (entry_of w)) 1 0 + externals ws

-- the hash section at a place, or none where the file is hashless
abbrev pub section_at : Bool → ℕ → Option ByteOffset
section_at hashless at = pick hashless None (Some (record { 0 = at }))

-- ---- the counts and the sections of a file, by their places

module _ (f : FormatFacts) (s : List ℕ) where
  abbrev pub flags_of : ℕ
  flags_of = get_or s 4 0

  abbrev pub is_hashless : Bool
  is_hashless = share flags_of f.hashless

  abbrev pub internal : Count
  internal = counted s 8

  abbrev pub external_at : ℕ
  external_at = 8 + internal.len

  abbrev pub external : Count
  external = counted s external_at

  abbrev pub nodes : ℕ
  nodes = internal.value + external.value

  abbrev pub roots_at : ℕ
  roots_at = external_at + external.len

  abbrev pub roots : Count
  roots = counted s roots_at

  abbrev pub root_rows : ℕ
  root_rows = roots_at + roots.len

  abbrev pub blocks_at : ℕ
  blocks_at = root_rows + 4 * roots.value

  abbrev pub blocks : Count
  blocks = counted s blocks_at

  abbrev pub block_data : ℕ
  block_data = blocks_at + blocks.len

  abbrev pub entries_at : ℕ
  entries_at = block_data + blocks.value

  abbrev pub digests_at : ℕ
  digests_at = entries_at + 8 * nodes

  abbrev pub hashes_at : ℕ
  hashes_at = digests_at + 32 * external.value

  abbrev pub map_at : ℕ
  map_at = hashes_at + hash_bytes is_hashless internal.value

  -- entries and digests, and with the block data before them: all the sections that one SHORT covers
  abbrev pub fixed_bytes : ℕ
  fixed_bytes = 8 * nodes + (32 * external.value + hash_bytes is_hashless internal.value)

  abbrev pub section_bytes : ℕ
  section_bytes = blocks.value + fixed_bytes

  abbrev pub words : List ℕ
  words = numbers_of 8 nodes (slice entries_at digests_at s)

  -- the four counts, in the file's order
  abbrev pub head_counts : List Count
  head_counts = internal ∷ external ∷ roots ∷ blocks ∷ []

  -- ---- the table

  module _ (allow : Bool) (bound : Option ℕ) where
    unfoldable pub scan_rules : List Rule
    scan_rules =
        rule FORMAT 0 (bad_format f)
        ∷ short_rule s 0 4
        ∷ rule MAGIC 0 (differs s 0 f.magic 4)
        ∷ short_rule s 4 1
        ∷ short_rule s 5 3
        ∷ rule VERSION 5 (differs s 5 f.version 3)
        ∷ rule FLAGS 4 (share flags_of f.reserved)
        ∷ rule HASHLESS 4 (is_hashless && not allow)
        ∷ count_rule s 8
        ∷ count_rule s external_at
        ∷ rule OVERFLOW 8 (over nodes)
        ∷ rule TOO-MANY 8 (ltb f.max_nodes nodes)
        ∷ rule BUDGET 8 (over_budget bound 8 nodes)
        ∷ rule BUDGET 8 (over_budget bound 32 external.value)
        ∷ rule BUDGET 8 (not is_hashless && over_budget bound 32 internal.value)
        ∷ count_rule s roots_at
        ∷ rule BUDGET roots_at (over_budget bound 4 roots.value)
        ∷ rule OVERFLOW roots_at (over (4 * roots.value))
        ∷ short_rule s root_rows (4 * roots.value)
        ∷ count_rule s blocks_at
        ∷ rule OVERFLOW blocks_at (over section_bytes)
        ∷ rule BUDGET blocks_at (over_budget bound 1 section_bytes)
        ∷ short_rule s block_data section_bytes
        ∷ words_rules 8 entries_at words
        ++ (rule EXTERNALS external_at (not (eqb (externals words) external.value)) ∷ [])

    -- ---- what an accepted file's layout is

    abbrev pub layout_shown : ForestLayout
    layout_shown =
        record {
          node_count = nodes;
          internal_node_count = record { 0 = internal.value };
          external_node_count = record { 0 = external.value };
          roots_count = roots.value;
          roots_offset = record { 0 = root_rows };
          basic_block_offset = record { 0 = block_data };
          basic_block_len = blocks.value;
          node_entry_offset = record { 0 = entries_at };
          external_digest_offset = record { 0 = digests_at };
          node_hash_offset = section_at is_hashless hashes_at;
          advice_map_offset = record { 0 = map_at };
        }

    abbrev pub scan_shown : Scanned
    scan_shown = record { layout = layout_shown; long = long_ones head_counts }

    unfoldable pub scan_outcome : Outcome Scanned
    scan_outcome = first_met scan_rules scan_shown
