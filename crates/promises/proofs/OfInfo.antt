-- The public functions of info. Each asks nothing of its caller, and its promise allows one result (`Answers`); where it is lent memory that it
-- may write to, one content (`Leaves`), and what a refusal leaves there is said.
-- Assumes nothing.
use Rattle.wire.proofs.Tables.{same_answer}
use Rattle.info.specs.Shown.{shown_children, shown_class}
use Rattle.info.proofs.Answers.{children_back, children_again, class_back, class_again}
use Rattle.info.proofs.decode_entry.Reads as decode_entry
use Rattle.info.proofs.encode_entry.Reads as encode_entry
use Rattle.info.proofs.read_entry.Reads as read_entry
use Rattle.info.proofs.canonical_word.Reads as canonical_word
use Rattle.info.proofs.node.kind_of.Reads as kind_of
use Rattle.info.proofs.node.is_external.Reads as is_external
use Rattle.info.proofs.node.class_of.Reads as class_of
use Rattle.info.proofs.node.children_of.Reads as children_of
use Rattle.info.proofs.node.make_entry.Reads as make_entry
use Rattle.promises.proofs.Terms.{Answers, answers, one_value, one_shown, one_by, one_in, one_read}

pub record Info : Type 0 where
  pub decode_entry_answers : Answers decode_entry.Pre decode_entry.Post
  pub encode_entry_answers : Answers encode_entry.Pre encode_entry.Post
  pub read_entry_answers : Answers read_entry.Pre read_entry.Post
  pub canonical_word_answers : Answers canonical_word.Pre canonical_word.Post
  pub kind_of_answers : Answers kind_of.Pre kind_of.Post
  pub is_external_answers : Answers is_external.Pre is_external.Post
  pub class_of_answers : Answers class_of.Pre class_of.Post
  pub children_of_answers : Answers children_of.Pre children_of.Post
  pub make_entry_answers : Answers make_entry.Pre make_entry.Post

pub info : Info
info =
    record {
      decode_entry_answers = answers (λ κs a. tt) (one_shown one_in (λ κs a r e p. p));
      encode_entry_answers = answers (λ κs a. tt) (one_shown one_in (λ κs a r e p. p));
      read_entry_answers = answers (λ κs a. tt) (one_shown one_read (λ κs a r e p. p));
      canonical_word_answers = answers (λ κs a. tt) (one_value (λ κs a r e p. p));
      kind_of_answers = answers (λ κs a. tt) (one_value (λ κs a r e p. p));
      is_external_answers = answers (λ κs a. tt) (one_value (λ κs a r e p. p));
      class_of_answers = answers (λ κs a. tt) (one_shown (same_answer shown_class class_back class_again) (λ κs a r e p. p));
      children_of_answers = answers (λ κs a. tt) (one_shown (same_answer shown_children children_back children_again) (λ κs a r e p. p));
      make_entry_answers = answers (λ κs a. tt) (one_shown one_by (λ κs a r e p. p));
    }
