-- The public functions of text. Each asks nothing of its caller, and its promise allows one result (`Answers`); where it is lent memory that it
-- may write to, one content (`Leaves`), and what a refusal leaves there is said.
-- Assumes nothing.
use mathlib.Core.Path.{◌≡◌, refl, ◌∙◌}
use mathlib.Core.Bool.{Bool, true, false}
use mathlib.Core.List.{List}
use Prim.Native.Nat.{ℕ}
use lib.Dec.{ltb}
use lib.ListN.{length}
use Rattle.wire.specs.Table.{refused, accepted, pick, first_met}
use Rattle.text.specs.Text.{filled, longest, text_outcome, with_text, filled_outcome, with_filled}
use Rattle.text.proofs.fill.write_filled.Reads as write_filled
use Rattle.text.proofs.fill.text_len.Reads as text_len
use Rattle.text.proofs.digits.hex_byte.Reads as hex_byte
use Rattle.text.proofs.digits.hex_wrong.Reads as hex_wrong
use Rattle.text.proofs.digits.number_of.Reads as number_of_lem
use Rattle.text.proofs.mark.mark_from.Reads as mark_from
use Rattle.promises.proofs.Terms.{Answers, answers, Leaves, Refuses, one_value, one_held, one_shown, one_by, kept, stays}

pub text_left : (out text : List ℕ) (n p : ℕ) → text_outcome out text ≡ refused n p → with_text out text ≡ out
unfolding first_met text_outcome with_text
text_left out text n p h = stays (ltb (length out) (length text)) n p _ _ _ _ _ h

-- the first of two tests, or the second, decides both
first_stays : {A : Type 0} (b d : Bool) (n p q m q' m' : ℕ) (z : A) (x y : List ℕ) → pick b (refused q m) (pick d (refused q' m') (accepted z)) ≡ refused n p → pick b x (pick d x y) ≡ x
first_stays true d n p q m q' m' z x y e = refl
first_stays false d n p q m q' m' z x y e = stays d n p q' m' z x y e

filled_left : (out text numbers : List ℕ) (n p : ℕ) → filled_outcome out text numbers ≡ refused n p → with_filled out text numbers ≡ out
unfolding first_met filled_outcome with_filled with_text
filled_left out text numbers n p h = first_stays (ltb longest (length text)) (ltb (length out) (length (filled text numbers))) n p _ _ _ _ _ _ _ h

pub record Text : Type 0 where
  pub write_filled_answers : Answers write_filled.Pre write_filled.Post
  pub write_filled_leaves : Leaves write_filled.Post (λ κs e. e.1.1.0.now)
  -- refused: the buffer as it was
  pub write_filled_refused : Refuses write_filled.Post (λ κs e. e.1.1.0.now) (λ κs a. a.1.1.0.now)
  pub text_len_answers : Answers text_len.Pre text_len.Post
  pub hex_byte_answers : Answers hex_byte.Pre hex_byte.Post
  pub hex_wrong_answers : Answers hex_wrong.Pre hex_wrong.Post
  pub number_of_answers : Answers number_of_lem.Pre number_of_lem.Post
  pub mark_from_answers : Answers mark_from.Pre mark_from.Post

pub text : Text
text =
    record {
      write_filled_answers = answers (λ κs a. tt) (one_shown one_by (λ κs a r e p. p.0));
      write_filled_leaves = one_held (λ κs a r e p. p.1);
      write_filled_refused = kept _ _ (λ κs a r e p. p.0) (λ κs a r e p n q h. p.1 ∙ filled_left _ _ _ n q h);
      text_len_answers = answers (λ κs a. tt) (one_value (λ κs a r e p. p));
      hex_byte_answers = answers (λ κs a. tt) (one_value (λ κs a r e p. p));
      hex_wrong_answers = answers (λ κs a. tt) (one_value (λ κs a r e p. p));
      number_of_answers = answers (λ κs a. tt) (one_value (λ κs a r e p. p));
      mark_from_answers = answers (λ κs a. tt) (one_value (λ κs a r e p. p));
    }
