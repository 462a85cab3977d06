-- The page of a file, line by line, and the line of a refusal. `#` is a hole for a number.
use Rattle.std.specs.Prelude.{ℕ, List, [], ◌∷◌, ◌++◌, Option, Some, None}
use Rattle.wire.specs.declared.units.ByteOffset.{ByteOffset}
use Rattle.layout.specs.declared.forest.ForestLayout.{ForestLayout}
use Rattle.text.specs.Text.{bytes, filled}

-- ---- the texts

abbrev pub nodes_line : List ℕ
nodes_line = bytes "nodes # internal # external #\n"

abbrev pub roots_line : List ℕ
roots_line = bytes "roots # at #\n"

abbrev pub blocks_line : List ℕ
blocks_line = bytes "blocks # at #\n"

abbrev pub entries_line : List ℕ
entries_line = bytes "entries at #\n"

abbrev pub digests_line : List ℕ
digests_line = bytes "external digests at #\n"

abbrev pub hashes_line : List ℕ
hashes_line = bytes "node hashes at #\n"

abbrev pub no_hashes_line : List ℕ
no_hashes_line = bytes "node hashes none\n"

abbrev pub advice_line : List ℕ
advice_line = bytes "advice at # end #\n"

abbrev pub refusal_line : List ℕ
refusal_line = bytes "refused # at #\n"

-- ---- the page

-- the sixth line: where the node hashes lie, or `none` exactly if the layout says that there are none
unfoldable pub hashes_text : Option ByteOffset → List ℕ
hashes_text (Some at) = filled hashes_line (at.0 ∷ [])
hashes_text None = filled no_hashes_line []

-- The seven lines for a layout and the end of its map. Blocks are counted in bytes of block data.
unfoldable pub page_text : ForestLayout → ℕ → List ℕ
page_text l end =
    filled nodes_line (l.node_count ∷ l.internal_node_count.0 ∷ l.external_node_count.0 ∷ [])
    ++ (filled roots_line (l.roots_count ∷ l.roots_offset.0 ∷ [])
    ++ (filled blocks_line (l.basic_block_len ∷ l.basic_block_offset.0 ∷ [])
    ++ (filled entries_line (l.node_entry_offset.0 ∷ [])
    ++ (filled digests_line (l.external_digest_offset.0 ∷ [])
    ++ (hashes_text l.node_hash_offset
    ++ filled advice_line (l.advice_map_offset.0 ∷ end ∷ []))))))

-- a refusal's number and place
unfoldable pub refusal_text : ℕ → ℕ → List ℕ
refusal_text number place = filled refusal_line (number ∷ place ∷ [])
