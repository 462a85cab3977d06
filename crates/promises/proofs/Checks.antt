-- The checks of all nodes, both ways: each holds exactly if what it is for is so. If children holds no node reaches itself; if order holds the
-- externals are a prefix and the blocks follow.
-- Assumes nothing.
use mathlib.Core.Path.{◌≡◌, sym}
use mathlib.Core.List.{List}
use mathlib.Core.Logic.{◌↔◌}
use Prim.Native.Nat.{ℕ, ◌<◌}
use Rattle.std.specs.Prelude.{Result, Ok}
use Rattle.wire.specs.declared.refusal.Refused.{Refused}
use Rattle.layout.specs.declared.forest.ForestLayout.{ForestLayout}
use Rattle.checks.specs.Checks.{Reaches, ChildrenBelow, Ordered, NeverFall, AsWritten}
use Rattle.checks.specs.Shown.{shown_check}
use Rattle.checks.proofs.Ordered.{no_node_reaches_itself, order_holds}
use Rattle.checks.proofs.BothWays as both
use Rattle.promises.proofs.Terms.{exactly, one_by}
use Rattle.promises.proofs.Calls.{ChecksChildren, ChecksOrder, ChecksStrict}

module _ (s : List ℕ) (l : ForestLayout) (r : Result (Unit {0}) (Refused ℕ)) where
  -- every child is below its parent
  pub children_exactly : ChecksChildren s l r → (r ≡ Ok tt) ↔ ChildrenBelow s l l.node_count
  children_exactly said = exactly shown_check one_by r _ said (both.children_exactly s l)

  -- classes never fall
  pub order_exactly : ChecksOrder s l r → (r ≡ Ok tt) ↔ NeverFall s l l.node_count
  order_exactly said = exactly shown_check one_by r _ said (both.order_exactly s l)

  -- every entry stands in its written form
  pub strict_exactly : ChecksStrict s l r → (r ≡ Ok tt) ↔ AsWritten s l l.node_count
  strict_exactly said = exactly shown_check one_by r _ said (both.strict_exactly s l)

pub no_cycle : (s : List ℕ) (l : ForestLayout) → ChecksChildren s l (Ok tt) → (i : ℕ) → i < l.node_count → Reaches s l i i → ⊥
no_cycle s l p = no_node_reaches_itself s l (sym p)

pub in_classes : (s : List ℕ) (l : ForestLayout) → ChecksOrder s l (Ok tt) → Ordered s l l.node_count
in_classes s l p = order_holds s l (sym p)
