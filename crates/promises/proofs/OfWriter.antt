-- The public functions of writer. Each asks nothing of its caller, and its promise allows one result (`Answers`); where it is lent memory that it
-- may write to, one content (`Leaves`), and what a refusal leaves there is said.
-- Assumes nothing.
use mathlib.Core.Path.{◌≡◌, ap, ◌∙◌}
use mathlib.Core.List.{List}
use Prim.Native.Nat.{ℕ}
use lib.ListN.{length}
use Rattle.wire.specs.Table.{refused}
use Rattle.layout.specs.declared.facts.FormatFacts.{FormatFacts}
use Rattle.writer.specs.Parts.{Parts}
use Rattle.writer.specs.Writer.{written_file, write_outcome, output_of, output_after}
use Rattle.writer.proofs.file.write_forest.Reads as write_forest
use Rattle.writer.proofs.file.write_forest_hinted.Reads as write_forest_hinted
use Rattle.promises.proofs.Terms.{Answers, answers, Leaves, Refuses, one_held, one_shown, one_by, kept}

pub write_left : (f : FormatFacts) (parts : Parts) (out : List ℕ) (n q : ℕ) → write_outcome f parts (length out) ≡ refused n q → output_after f parts out ≡ out
unfolding output_after
write_left f parts out n q h = ap (output_of (written_file f parts) out) h

pub record Writer : Type 0 where
  pub write_forest_answers : Answers write_forest.Pre write_forest.Post
  pub write_forest_leaves : Leaves write_forest.Post (λ κs e. e.1.1.0.now)
  -- refused: the output as it was
  pub write_forest_refused : Refuses write_forest.Post (λ κs e. e.1.1.0.now) (λ κs a. a.1.1.0.now)
  pub write_forest_hinted_answers : Answers write_forest_hinted.Pre write_forest_hinted.Post
  pub write_forest_hinted_leaves : Leaves write_forest_hinted.Post (λ κs e. e.1.1.1.0.now)
  -- refused: the output as it was
  pub write_forest_hinted_refused : Refuses write_forest_hinted.Post (λ κs e. e.1.1.1.0.now) (λ κs a. a.1.1.1.0.now)

pub writer : Writer
writer =
    record {
      write_forest_answers = answers (λ κs a. tt) (one_shown one_by (λ κs a r e p. p.0));
      write_forest_leaves = one_held (λ κs a r e p. p.1);
      write_forest_refused = kept _ _ (λ κs a r e p. p.0) (λ κs a r e p n q h. p.1 ∙ write_left _ _ _ n q h);
      write_forest_hinted_answers = answers (λ κs a. tt) (one_shown one_by (λ κs a r e p. p.0));
      write_forest_hinted_leaves = one_held (λ κs a r e p. p.1);
      write_forest_hinted_refused = kept _ _ (λ κs a r e p. p.0) (λ κs a r e p n q h. p.1 ∙ write_left _ _ _ n q h);
    }
