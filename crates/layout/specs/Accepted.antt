-- What is so of a file that the scan accepts, by the layout that it answers.
use Rattle.std.specs.Prelude.{◌≡◌, List, ℕ, ◌+◌, ◌*◌, ◌^◌, ◌≤◌, length}
use Rattle.wire.specs.Table.{accepted}
use Rattle.wire.specs.Counts.{Reads}
use Rattle.layout.specs.Facts.{hash_bytes}
use Rattle.rows.specs.Rows.{row_outcome, entry_pass}
use Rattle.layout.specs.Scan.{section_at, is_hashless}
use Rattle.layout.specs.declared.facts.FormatFacts.{FormatFacts}
use Rattle.layout.specs.declared.forest.ForestLayout.{ForestLayout}

-- the sections lie end to end: the header of 8 bytes, two counts, the roots' count, the roots, the block length, the block data, the entries,
-- the external digests, the hashes unless there are none, and then the map, which begins inside the file or at its end
pub record EndToEnd (f : FormatFacts) (s : List ℕ) (l : ForestLayout) : Type 0 where
  -- the lengths of the four counts
  pub first : ℕ
  pub second : ℕ
  pub third : ℕ
  pub fourth : ℕ
  pub internals : Reads s 8 first l.internal_node_count.0
  pub externals : Reads s (8 + first) second l.external_node_count.0
  pub root_count : Reads s (8 + first + second) third l.roots_count
  pub roots : l.roots_offset.0 ≡ 8 + first + second + third
  pub block_length : Reads s (l.roots_offset.0 + 4 * l.roots_count) fourth l.basic_block_len
  pub blocks : l.basic_block_offset.0 ≡ l.roots_offset.0 + 4 * l.roots_count + fourth
  pub entries : l.node_entry_offset.0 ≡ l.basic_block_offset.0 + l.basic_block_len
  pub digests : l.external_digest_offset.0 ≡ l.node_entry_offset.0 + 8 * l.node_count
  pub hashes : l.node_hash_offset ≡ section_at (is_hashless f s) (l.external_digest_offset.0 + 32 * l.external_node_count.0)
  pub map : l.advice_map_offset.0 ≡ l.external_digest_offset.0 + 32 * l.external_node_count.0 + hash_bytes (is_hashless f s) l.internal_node_count.0
  pub inside : l.advice_map_offset.0 ≤ length s

-- its nodes are few, every entry reads, and as many are External as the layout says
pub record Counted (f : FormatFacts) (s : List ℕ) (l : ForestLayout) : Type 0 where
  pub sum : l.node_count ≡ l.internal_node_count.0 + l.external_node_count.0
  pub most : l.node_count ≤ f.max_nodes
  pub limit : l.node_count ≤ 2 ^ 30
  -- every entry reads, and so many are External
  pub pass : entry_pass (row_outcome s l.node_entry_offset.0) l.node_count ≡ accepted l.external_node_count.0
