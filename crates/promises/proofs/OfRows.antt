-- The public functions of rows. Each asks nothing of its caller, and its promise allows one result (`Answers`); where it is lent memory that it
-- may write to, one content (`Leaves`), and what a refusal leaves there is said.
-- Assumes nothing.
use Rattle.rows.proofs.row_place.Reads as row_place
use Rattle.rows.proofs.row_entry.Reads as row_entry
use Rattle.rows.proofs.external_one.Reads as external_one
use Rattle.rows.proofs.read_each.Reads as read_each
use Rattle.rows.proofs.read_entries.Reads as read_entries
use Rattle.rows.proofs.read_words.Reads as read_words
use Rattle.promises.proofs.Terms.{Answers, answers, one_value, one_shown, one_by}

pub record Rows : Type 0 where
  pub row_place_answers : Answers row_place.Pre row_place.Post
  pub row_entry_answers : Answers row_entry.Pre row_entry.Post
  pub external_one_answers : Answers external_one.Pre external_one.Post
  pub read_each_answers : Answers read_each.Pre read_each.Post
  pub read_entries_answers : Answers read_entries.Pre read_entries.Post
  pub read_words_answers : Answers read_words.Pre read_words.Post

pub rows : Rows
rows =
    record {
      row_place_answers = answers (λ κs a. tt) (one_value (λ κs a r e p. p));
      row_entry_answers = answers (λ κs a. tt) (one_shown one_by (λ κs a r e p. p));
      external_one_answers = answers (λ κs a. tt) (one_value (λ κs a r e p. p));
      read_each_answers = answers (λ κs a. tt) (one_shown one_by (λ κs a r e p. p));
      read_entries_answers = answers (λ κs a. tt) (one_shown one_by (λ κs a r e p. p));
      read_words_answers = answers (λ κs a. tt) (one_shown one_by (λ κs a r e p. p));
    }
