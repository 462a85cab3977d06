-- The public functions of crossing. Each asks nothing of its caller, and its promise allows one result (`Answers`). A layout and a bound are again
-- what they were once they have crossed and come back, and of a scan's answer the first twelve numbers are its layout: `layout_back`, `bound_back`,
-- `scanned_back`.
-- Assumes nothing.
use mathlib.Core.Path.{◌≡◌}
use Prim.Native.Nat.{ℕ}
use lib.ListN.{take}
use Rattle.std.specs.Prelude.{Option}
use Rattle.layout.specs.Scan.{Scanned}
use Rattle.layout.specs.declared.forest.ForestLayout.{ForestLayout}
use Rattle.crossing.specs.Arrays.{layout_of, bound_of, layout_row, scanned_row, bound_row}
use Rattle.crossing.proofs.Arrays as laws
use Rattle.crossing.proofs.facts_of.Reads as facts_of
use Rattle.crossing.proofs.layout_of.Reads as layout_of
use Rattle.crossing.proofs.layout_row.Reads as layout_row_call
use Rattle.crossing.proofs.scanned_row.Reads as scanned_row_call
use Rattle.crossing.proofs.bound_of.Reads as bound_of
use Rattle.crossing.proofs.bound_row.Reads as bound_row_call
use Rattle.crossing.proofs.entry_row.Reads as entry_row
use Rattle.promises.proofs.Terms.{Answers, answers, one_value}

pub record Crossing : Type 0 where
  pub facts_of_answers : Answers facts_of.Pre facts_of.Post
  pub layout_of_answers : Answers layout_of.Pre layout_of.Post
  pub layout_row_answers : Answers layout_row_call.Pre layout_row_call.Post
  pub scanned_row_answers : Answers scanned_row_call.Pre scanned_row_call.Post
  pub bound_of_answers : Answers bound_of.Pre bound_of.Post
  pub bound_row_answers : Answers bound_row_call.Pre bound_row_call.Post
  pub entry_row_answers : Answers entry_row.Pre entry_row.Post
  pub layout_back : (l : ForestLayout) → layout_of (layout_row l) ≡ l
  pub scanned_back : (x : Scanned) → layout_of (take 12 (scanned_row x)) ≡ x.layout
  pub bound_back : (b : Option ℕ) → bound_of (bound_row b) ≡ b

pub crossing : Crossing
crossing =
    record {
      facts_of_answers = answers (λ κs a. tt) (one_value (λ κs a r e p. p));
      layout_of_answers = answers (λ κs a. tt) (one_value (λ κs a r e p. p));
      layout_row_answers = answers (λ κs a. tt) (one_value (λ κs a r e p. p));
      scanned_row_answers = answers (λ κs a. tt) (one_value (λ κs a r e p. p));
      bound_of_answers = answers (λ κs a. tt) (one_value (λ κs a r e p. p));
      bound_row_answers = answers (λ κs a. tt) (one_value (λ κs a r e p. p));
      entry_row_answers = answers (λ κs a. tt) (one_value (λ κs a r e p. p));
      layout_back = laws.layout_back;
      scanned_back = laws.scanned_back;
      bound_back = laws.bound_back;
    }
