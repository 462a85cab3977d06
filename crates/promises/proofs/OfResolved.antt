-- The public functions of resolved. Each asks nothing of its caller, and its promise allows one result (`Answers`); where it is lent memory that it
-- may write to, one content (`Leaves`), and what a refusal leaves there is said.
-- Assumes nothing.
use mathlib.Core.Path.{◌≡◌, ap, ◌∙◌}
use mathlib.Core.List.{List}
use Prim.Native.Nat.{ℕ}
use lib.ListN.{length}
use Rattle.std.specs.Prelude.{Option}
use Rattle.wire.specs.Table.{Outcome, refused}
use Rattle.layout.specs.declared.forest.ForestLayout.{ForestLayout}
use Rattle.resolved.specs.Nodes.{external_node}
use Rattle.resolved.specs.Slots.{slots_of, filled, slots_outcome, table_after}
use Rattle.resolved.proofs.slots.build_slots.Reads as build_slots
use Rattle.resolved.proofs.digests.digest_place.Reads as digest_place
use Rattle.resolved.proofs.digests.digest_by_counting.Reads as digest_by_counting
use Rattle.resolved.proofs.digests.digest_with_table.Reads as digest_with_table
use Rattle.promises.proofs.Terms.{Answers, answers, Leaves, Refuses, one_value, one_held, one_shown, one_by, kept}

pub slots_left : (s : List ℕ) (l : ForestLayout) (bound : Option ℕ) (table : List ℕ) (n q : ℕ) → slots_outcome s l bound (length table) ≡ refused n q → table_after s l bound table ≡ table
unfolding table_after
slots_left s l bound table n q h = ap (λ (o : Outcome (Option ℕ)). filled o (slots_of (external_node s l) l.node_count) table) h

pub record Resolved : Type 0 where
  pub build_slots_answers : Answers build_slots.Pre build_slots.Post
  pub build_slots_leaves : Leaves build_slots.Post (λ κs e. e.1.1.1.0.now)
  -- refused: the table as it was
  pub build_slots_refused : Refuses build_slots.Post (λ κs e. e.1.1.1.0.now) (λ κs a. a.1.1.1.0.now)
  pub digest_place_answers : Answers digest_place.Pre digest_place.Post
  pub digest_by_counting_answers : Answers digest_by_counting.Pre digest_by_counting.Post
  pub digest_with_table_answers : Answers digest_with_table.Pre digest_with_table.Post

pub resolved : Resolved
resolved =
    record {
      build_slots_answers = answers (λ κs a. tt) (one_shown one_by (λ κs a r e p. p.0));
      build_slots_leaves = one_held (λ κs a r e p. p.1);
      build_slots_refused = kept _ _ (λ κs a r e p. p.0) (λ κs a r e p n q h. p.1 ∙ slots_left _ _ _ _ n q h);
      digest_place_answers = answers (λ κs a. tt) (one_value (λ κs a r e p. p));
      digest_by_counting_answers = answers (λ κs a. tt) (one_shown one_by (λ κs a r e p. p));
      digest_with_table_answers = answers (λ κs a. tt) (one_shown one_by (λ κs a r e p. p));
    }
