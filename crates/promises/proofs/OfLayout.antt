-- The public functions of layout. Each asks nothing of its caller, and its promise allows one result (`Answers`); where it is lent memory that it
-- may write to, one content (`Leaves`), and what a refusal leaves there is said.
-- Assumes nothing.
use native.Mathlib.Omega.{arith}
use Rattle.layout.proofs.Answers.{scan_one}
use Rattle.layout.proofs.facts.bad_format.Reads as bad_format
use Rattle.layout.proofs.facts.hash_count.Reads as hash_count
use Rattle.layout.proofs.scan.scan_layout.Reads as scan_layout
use Rattle.layout.proofs.index.read_procedure_root_at.Reads as read_procedure_root_at
use Rattle.layout.proofs.index.read_node_entry_at.Reads as read_node_entry_at
use Rattle.promises.proofs.Terms.{Answers, answers, one_value, one_shown, one_by}

pub record Layout : Type 0 where
  pub bad_format_answers : Answers bad_format.Pre bad_format.Post
  pub hash_count_answers : Answers hash_count.Pre hash_count.Post
  pub scan_layout_answers : Answers scan_layout.Pre scan_layout.Post
  pub read_procedure_root_at_answers : Answers read_procedure_root_at.Pre read_procedure_root_at.Post
  pub read_node_entry_at_answers : Answers read_node_entry_at.Pre read_node_entry_at.Post

pub layout : Layout
layout =
    record {
      bad_format_answers = answers (λ κs a. tt) (one_value (λ κs a r e p. p));
      hash_count_answers = answers (λ κs a. tt) (λ κs a r r' e e' p p'. omega (arith, p.0, p'.0));
      scan_layout_answers = answers (λ κs a. tt) (one_shown scan_one (λ κs a r e p. p.0));
      read_procedure_root_at_answers = answers (λ κs a. tt) (one_shown one_by (λ κs a r e p. p));
      read_node_entry_at_answers = answers (λ κs a. tt) (one_shown one_by (λ κs a r e p. p));
    }
