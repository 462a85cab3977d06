-- The cases of a root and of an entry by index.
-- Assumes nothing.
use mathlib.Core.Path.{◌≡◌}
use mathlib.Core.Bool.{false}
use mathlib.Core.List.{List}
use Prim.Native.Nat.{ℕ, ◌≤◌, ◌<◌}
use borrow.Author.Tests.{le-leb, lt-leb}
use Rattle.wire.specs.Table.{refused, accepted, first_met}
use Rattle.wire.specs.Refusals.{INDEX, ROOT-ID}
use Rattle.wire.specs.Le.{le_at, is_short}
use Rattle.rows.specs.Rows.{row_over, row_outcome}
use Rattle.layout.specs.Index.{root_at, root_rules, root_outcome, node_rules, node_outcome}
use Rattle.layout.specs.declared.forest.ForestLayout.{ForestLayout}

module _ (s : List ℕ) (l : ForestLayout) (i : ℕ) where
  pub no_node : l.node_count ≤ i → node_outcome s l i ≡ refused INDEX i
  unfolding node_outcome node_rules first_met
  no_node h = rw (le-leb l.node_count i h)

  pub node_row : i < l.node_count → node_outcome s l i ≡ row_outcome s l.node_entry_offset.0 i
  unfolding node_outcome node_rules row_outcome first_met
  node_row h = rw (lt-leb l.node_count i h)

  module _ (h : i < l.roots_count) (o : row_over l.roots_offset.0 4 i ≡ false) (q : is_short s (root_at s l i) 4 ≡ false) where
    pub root_high : l.node_count ≤ le_at s (root_at s l i) 4 → root_outcome s l i ≡ refused ROOT-ID i
    unfolding root_outcome root_rules first_met
    root_high n = rw (lt-leb l.roots_count i h, o, q, le-leb l.node_count (le_at s (root_at s l i) 4) n)

    pub root_found : le_at s (root_at s l i) 4 < l.node_count → root_outcome s l i ≡ accepted (le_at s (root_at s l i) 4)
    unfolding root_outcome root_rules first_met
    root_found n = rw (lt-leb l.roots_count i h, o, q, lt-leb l.node_count (le_at s (root_at s l i) 4) n)
