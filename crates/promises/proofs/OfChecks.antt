-- The public functions of checks. Each asks nothing of its caller, and its promise allows one result (`Answers`); where it is lent memory that it
-- may write to, one content (`Leaves`), and what a refusal leaves there is said.
-- Assumes nothing.
use Rattle.checks.proofs.check_children.Reads as check_children
use Rattle.checks.proofs.check_order.Reads as check_order
use Rattle.checks.proofs.check_strict.Reads as check_strict
use Rattle.promises.proofs.Terms.{Answers, answers, one_shown, one_by}

pub record Checks : Type 0 where
  pub check_children_answers : Answers check_children.Pre check_children.Post
  pub check_order_answers : Answers check_order.Pre check_order.Post
  pub check_strict_answers : Answers check_strict.Pre check_strict.Post

pub checks : Checks
checks =
    record {
      check_children_answers = answers (λ κs a. tt) (one_shown one_by (λ κs a r e p. p));
      check_order_answers = answers (λ κs a. tt) (one_shown one_by (λ κs a r e p. p));
      check_strict_answers = answers (λ κs a. tt) (one_shown one_by (λ κs a r e p. p));
    }
