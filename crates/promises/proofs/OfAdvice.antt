-- The public functions of advice. Each asks nothing of its caller, and its promise allows one result (`Answers`); where it is lent memory that it
-- may write to, one content (`Leaves`), and what a refusal leaves there is said.
-- Assumes nothing.
use mathlib.Core.Path.{◌≡◌, sym, ap, ◌∙◌}
use mathlib.Core.List.{List}
use Prim.Native.Nat.{ℕ}
use lib.ListN.{length, replicate}
use Rattle.wire.specs.Table.{refused}
use Rattle.advice.specs.Walk.{first_entry, table_of, walk_outcome, key_table}
use Rattle.advice.proofs.Answers.{walk_one, lookup_one, entry_one}
use Rattle.advice.proofs.walk.walk_map.Reads as walk_map
use Rattle.advice.proofs.lookup.lookup.Reads as lookup
use Rattle.advice.proofs.lookup.values.Reads as values
use Rattle.advice.proofs.table.key_at.Reads as key_at
use Rattle.advice.proofs.table.entry_at.Reads as entry_at
use Rattle.advice.proofs.table.most_places.Reads as most_places
use Rattle.promises.proofs.Terms.{AsksNothing, Answers, answers, Leaves, Refuses, one_value, one_held, one_shown, one_by, kept}

-- a refused walk leaves zeros
pub walk_left : (s : List ℕ) (at : ℕ) (keys : List ℕ) (n q : ℕ) → walk_outcome (length keys) s at ≡ refused n q → key_table s at keys ≡ replicate (length keys) 0
unfolding key_table
walk_left s at keys n q h = ap (table_of s (first_entry s at) keys) h

pub record Advice : Type 0 where
  pub walk_map_answers : Answers walk_map.Pre walk_map.Post
  pub walk_map_leaves : Leaves walk_map.Post (λ κs e. e.1.1.0.now)
  -- refused: the key table all zero
  pub walk_map_refused : Refuses walk_map.Post (λ κs e. e.1.1.0.now) (λ κs a. replicate (length a.1.1.0.now) 0)
  pub lookup_answers : Answers lookup.Pre lookup.Post
  -- the part's contents; where in memory an empty part starts is not promised
  pub values_asks : AsksNothing values.Pre
  pub values_one : (κs : _) (a : _) (r r' : _) (e e' : _) → values.Post κs a r e → values.Post κs a r' e' → r.now ≡ r'.now
  pub key_at_answers : Answers key_at.Pre key_at.Post
  pub entry_at_answers : Answers entry_at.Pre entry_at.Post
  pub most_places_answers : Answers most_places.Pre most_places.Post

pub advice : Advice
advice =
    record {
      walk_map_answers = answers (λ κs a. tt) (one_shown walk_one (λ κs a r e p. p.0));
      walk_map_leaves = one_held (λ κs a r e p. p.1);
      walk_map_refused = kept _ _ (λ κs a r e p. p.0) (λ κs a r e p n q h. p.1 ∙ walk_left _ _ _ n q h);
      lookup_answers = answers (λ κs a. tt) (one_shown lookup_one (λ κs a r e p. p));
      values_asks = λ κs a. tt;
      values_one = λ κs a r r' e e' p p'. p ∙ sym p';
      key_at_answers = answers (λ κs a. tt) (one_shown one_by (λ κs a r e p. p));
      entry_at_answers = answers (λ κs a. tt) (one_shown entry_one (λ κs a r e p. p));
      most_places_answers = answers (λ κs a. tt) (one_value (λ κs a r e p. p));
    }
