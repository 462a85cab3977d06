-- Roots and entries by index, over any layout record. The place of each refusal is the index asked for.
use Rattle.std.specs.Prelude.{ℕ, List, [], ◌∷◌, leb}
use Rattle.wire.specs.Table.{Rule, rule, Outcome, first_met}
use Rattle.wire.specs.Refusals.{SHORT, OVERFLOW, INDEX, ROOT-ID}
use Rattle.wire.specs.Le.{le_at, is_short}
use Rattle.info.specs.Entry.{entry_of}
use Rattle.info.specs.declared.MastNodeEntry.{MastNodeEntry}
use Rattle.rows.specs.Rows.{row_at, row_over, row_word, row_rules}
use Rattle.layout.specs.declared.forest.ForestLayout.{ForestLayout}

module _ (s : List ℕ) (l : ForestLayout) (i : ℕ) where
  abbrev pub root_at : ℕ
  root_at = row_at l.roots_offset.0 4 i

  -- not below the number of roots; the row's end; the row; the node that it names
  unfoldable pub root_rules : List Rule
  root_rules =
      rule INDEX i (leb l.roots_count i)
      ∷ rule OVERFLOW i (row_over l.roots_offset.0 4 i)
      ∷ rule SHORT i (is_short s root_at 4)
      ∷ rule ROOT-ID i (leb l.node_count (le_at s root_at 4))
      ∷ []

  unfoldable pub root_outcome : Outcome ℕ
  root_outcome = first_met root_rules (le_at s root_at 4)

  -- not below the number of nodes; then OVERFLOW, SHORT, TAG, PAYLOAD of the row
  unfoldable pub node_rules : List Rule
  node_rules = rule INDEX i (leb l.node_count i) ∷ row_rules s l.node_entry_offset.0 i

  unfoldable pub node_outcome : Outcome MastNodeEntry
  node_outcome = first_met node_rules (entry_of (row_word s l.node_entry_offset.0 i))
