-- The nodes of a file by a layout record, which anyone may have made: one node's entry, and whether it is External.
use Rattle.std.specs.Prelude.{ℕ, Bool, false, List}
use Rattle.wire.specs.Table.{Outcome, refused, accepted}
use Rattle.info.specs.Node.{is_external}
use Rattle.info.specs.declared.MastNodeEntry.{MastNodeEntry}
use Rattle.rows.specs.Rows.{row_outcome}
use Rattle.layout.specs.declared.forest.ForestLayout.{ForestLayout}

-- the entry of node i: OVERFLOW, SHORT, TAG, PAYLOAD [the node]
abbrev pub node_entry : List ℕ → ForestLayout → ℕ → Outcome MastNodeEntry
node_entry s l = row_outcome s l.node_entry_offset.0

-- whether what was read is External. A refused entry counts as not; nothing is answered for it.
abbrev pub external_in : Outcome MastNodeEntry → Bool
external_in (refused n p) = false
external_in (accepted e) = is_external e

-- of row i of the rows from `first` on, and of node i
abbrev pub external_row : List ℕ → ℕ → ℕ → Bool
external_row s first i = external_in (row_outcome s first i)

abbrev pub external_node : List ℕ → ForestLayout → ℕ → Bool
external_node s l = external_row s l.node_entry_offset.0
