-- The public functions of keys. Each asks nothing of its caller, and its promise allows one result (`Answers`); where it is lent memory that it
-- may write to, one content (`Leaves`), and what a refusal leaves there is said. None refuses.
-- Assumes nothing.
use Rattle.keys.proofs.sort.settle.Reads as settle
use Rattle.keys.proofs.claim.key_at.Reads as key_at
use Rattle.keys.proofs.claim.check_claim.Reads as check_claim
use Rattle.promises.proofs.Terms.{Answers, answers, Leaves, one_value, one_held}

pub record Keys : Type 0 where
  pub settle_answers : Answers settle.Pre settle.Post
  pub settle_leaves : Leaves settle.Post (λ κs e. e.1.0.now)
  pub key_at_answers : Answers key_at.Pre key_at.Post
  pub check_claim_answers : Answers check_claim.Pre check_claim.Post

pub keys : Keys
keys =
    record {
      settle_answers = answers (λ κs a. tt) (one_value (λ κs a r e p. p.0));
      settle_leaves = one_held (λ κs a r e p. p.1);
      key_at_answers = answers (λ κs a. tt) (one_value (λ κs a r e p. p));
      check_claim_answers = answers (λ κs a. tt) (one_value (λ κs a r e p. p));
    }
