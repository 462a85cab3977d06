-- The public functions of page. Each asks nothing of its caller, and its promise allows one result (`Answers`); where it is lent memory that it
-- may write to, one content (`Leaves`), and what a refusal leaves there is said.
-- Assumes nothing.
use mathlib.Core.Path.{◌∙◌}
use Rattle.page.proofs.sheet.write_page.Reads as write_page
use Rattle.page.proofs.sheet.write_refusal.Reads as write_refusal
use Rattle.page.proofs.answer.layout_page.Reads as layout_page
use Rattle.page.proofs.words.stand_in_facts.Reads as stand_in_facts
use Rattle.page.proofs.words.read_facts.Reads as read_facts
use Rattle.page.proofs.program.words_wrong.Reads as words_wrong
use Rattle.page.proofs.program.program.Reads as program
use Rattle.promises.proofs.Terms.{Answers, answers, Leaves, Refuses, one_value, one_held, one_shown, one_by, kept}
use Rattle.promises.proofs.OfText.{text_left}

pub record Page : Type 0 where
  pub write_page_answers : Answers write_page.Pre write_page.Post
  pub write_page_leaves : Leaves write_page.Post (λ κs e. e.1.1.0.now)
  -- refused: the buffer as it was
  pub write_page_refused : Refuses write_page.Post (λ κs e. e.1.1.0.now) (λ κs a. a.1.1.0.now)
  pub write_refusal_answers : Answers write_refusal.Pre write_refusal.Post
  pub write_refusal_leaves : Leaves write_refusal.Post (λ κs e. e.1.1.0.now)
  pub write_refusal_refused : Refuses write_refusal.Post (λ κs e. e.1.1.0.now) (λ κs a. a.1.1.0.now)
  -- the buffer, and the key table, which is as the walk leaves it, or as it was where there is none
  pub layout_page_answers : Answers layout_page.Pre layout_page.Post
  pub layout_page_leaves : Leaves layout_page.Post (λ κs e. e.1.1.1.0.now)
  pub layout_page_leaves_keys : Leaves layout_page.Post (λ κs e. e.1.1.0.now)
  pub layout_page_refused : Refuses layout_page.Post (λ κs e. e.1.1.1.0.now) (λ κs a. a.1.1.1.0.now)
  pub stand_in_facts_answers : Answers stand_in_facts.Pre stand_in_facts.Post
  pub read_facts_answers : Answers read_facts.Pre read_facts.Post
  pub words_wrong_answers : Answers words_wrong.Pre words_wrong.Post
  -- what is said, and the buffer
  pub program_answers : Answers program.Pre program.Post
  pub program_leaves : Leaves program.Post (λ κs e. e.1.1.0.now)

pub page : Page
page =
    record {
      write_page_answers = answers (λ κs a. tt) (one_shown one_by (λ κs a r e p. p.0));
      write_page_leaves = one_held (λ κs a r e p. p.1);
      write_page_refused = kept _ _ (λ κs a r e p. p.0) (λ κs a r e p n q h. p.1 ∙ text_left _ _ n q h);
      write_refusal_answers = answers (λ κs a. tt) (one_shown one_by (λ κs a r e p. p.0));
      write_refusal_leaves = one_held (λ κs a r e p. p.1);
      write_refusal_refused = kept _ _ (λ κs a r e p. p.0) (λ κs a r e p n q h. p.1 ∙ text_left _ _ n q h);
      layout_page_answers = answers (λ κs a. tt) (one_shown one_by (λ κs a r e p. p.0));
      layout_page_leaves = one_held (λ κs a r e p. p.1.0);
      layout_page_leaves_keys = one_held (λ κs a r e p. p.1.1);
      layout_page_refused = kept _ _ (λ κs a r e p. p.0) (λ κs a r e p n q h. p.1.0 ∙ text_left _ _ n q h);
      stand_in_facts_answers = answers (λ κs a. tt) (one_value (λ κs a r e p. p));
      read_facts_answers = answers (λ κs a. tt) (one_value (λ κs a r e p. p));
      words_wrong_answers = answers (λ κs a. tt) (one_value (λ κs a r e p. p));
      program_answers = answers (λ κs a. tt) (one_value (λ κs a r e p. p.0));
      program_leaves = one_held (λ κs a r e p. p.1);
    }
