-- The public functions of whole. Each asks nothing of its caller, and its promise allows one result (`Answers`); where it is lent memory that it
-- may write to, one content (`Leaves`), and what a refusal leaves there is said.
-- Assumes nothing.
use mathlib.Core.Path.{◌≡◌, refl, sym, ap, ◌∙◌}
use mathlib.Core.List.{List}
use mathlib.Core.Logic.{◌⊎◌, inl, inr}
use Prim.Native.Nat.{ℕ}
use lib.ListN.{length, replicate}
use Rattle.std.specs.Prelude.{Err}
use Rattle.wire.specs.Table.{Outcome, refused, accepted, ◌>>=◌}
use Rattle.wire.specs.declared.refusal.Refused.{Refused}
use Rattle.wire.specs.declared.units.ByteOffset.{ByteOffset}
use Rattle.layout.specs.Scan.{Scanned, scan_outcome}
use Rattle.advice.specs.Walk.{Walked, walk_outcome, first_entry, table_of, key_table}
use Rattle.whole.specs.Whole.{Sheet, sheet_of, map_outcome, whole_outcome, unless_refused, whole_keys}
use Rattle.whole.specs.Shown.{shown_whole}
use Rattle.whole.proofs.Answers.{whole_one}
use Rattle.whole.proofs.read_whole.Reads as read_whole
use Rattle.promises.proofs.Terms.{Answers, answers, Leaves, one_held, one_shown}

left : (s keys : List ℕ) (o : Outcome Scanned) (n q : ℕ) → (o >>= map_outcome (length keys) s) ≡ refused n q
    → (unless_refused keys (λ x. key_table s x.layout.advice_map_offset.0 keys) o ≡ keys) ⊎ (unless_refused keys (λ x. key_table s x.layout.advice_map_offset.0 keys) o ≡ replicate (length keys) 0)
unfolding ◌>>=◌ map_outcome key_table
left s keys (refused m p) n q h = inl refl
left s keys (accepted x) n q h = inr (go (walk_outcome (length keys) s x.layout.advice_map_offset.0) h)
  where
    go : (o : Outcome Walked) → ◌≡◌ {A = Outcome Sheet} (o >>= (λ w. accepted (sheet_of x w))) (refused n q) → table_of s (first_entry s x.layout.advice_map_offset.0) keys o ≡ replicate (length keys) 0
    go (refused m p) e = refl
    go (accepted w) e = cc

pub record Whole : Type 0 where
  pub read_whole_answers : Answers read_whole.Pre read_whole.Post
  pub read_whole_leaves : Leaves read_whole.Post (λ κs e. e.1.1.1.1.0.now)
  -- refused: the key table as it was, where the scan refuses, or all zero, where the walk does
  pub read_whole_refused : (κs : _) (a : _) (r : _) (e : _) → read_whole.Post κs a r e → (q : Refused ByteOffset) → r ≡ Err q → (e.1.1.1.1.0.now ≡ a.1.1.1.1.0.now) ⊎ (e.1.1.1.1.0.now ≡ replicate (length a.1.1.1.1.0.now) 0)

pub whole : Whole
unfolding whole_keys whole_outcome
whole =
    record {
      read_whole_answers = answers (λ κs a. tt) (one_shown whole_one (λ κs a r e p. p.0));
      read_whole_leaves = one_held (λ κs a r e p. p.1);
      read_whole_refused = λ κs a r e p q h. rw p.1 (left a.0.now a.1.1.1.1.0.now (scan_outcome a.1.0 a.0.now a.1.1.0 a.1.1.1.0) _ _ (sym p.0 ∙ ap shown_whole h));
    }
