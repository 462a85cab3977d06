-- The public functions of wire. Each asks nothing of its caller, and its promise allows one result (`Answers`); where it is lent memory that it
-- may write to, one content (`Leaves`), and what a refusal leaves there is said.
-- Assumes nothing.
use mathlib.Core.Path.{◌≡◌, refl, sym, ◌∙◌}
use mathlib.Core.List.{List}
use Prim.Native.Nat.{ℕ}
use contract.BorrowLft.{◌⊑◌}
use contract.Lifetimes.{Lfts}
use denote.RattleType.{RattleType}
use denote.Param.Laws.{Laws}
use mir.Syntax.{Dict}
use lib.ListN.{length}
use Rattle.wire.specs.Table.{refused, first_met}
use Rattle.wire.specs.Counts.{no_room, write_outcome, with_count}
use Rattle.wire.proofs.Refusals.{number_injective}
use Rattle.wire.proofs.Answers.{place, cursor, one_answer}
use Rattle.wire.proofs.refusal.refusal_number.Reads as refusal_number
use Rattle.wire.proofs.refusal.Refused.told_at.Reads as told_at
use Rattle.wire.proofs.number.is_short.Reads as is_short
use Rattle.wire.proofs.number.u32_at.Reads as u32_at
use Rattle.wire.proofs.number.u64_at.Reads as u64_at
use Rattle.wire.proofs.number.read_u32.Reads as read_u32
use Rattle.wire.proofs.number.read_u64.Reads as read_u64
use Rattle.wire.proofs.number.put_le.Reads as put_le
use Rattle.wire.proofs.count.read_count.Reads as read_count
use Rattle.wire.proofs.count.long_one.Reads as long_one
use Rattle.wire.proofs.count.shortest_len.Reads as shortest_len
use Rattle.wire.proofs.count.write_count.Reads as write_count
use Rattle.wire.proofs.word.is_element.Reads as is_element
use Rattle.wire.proofs.word.word_at.Reads as word_at
use Rattle.wire.proofs.word.check_word.Reads as check_word
use Rattle.wire.proofs.word.read_word.Reads as read_word
use Rattle.wire.proofs.word.word_order.Reads as word_order
use Rattle.promises.proofs.Terms.{AsksNothing, One, Answers, answers, Leaves, Refuses, one_value, one_held, one_shown, one_read, kept, stays}

pub count_left : (out : List ℕ) (at v n q : ℕ) → write_outcome out at v ≡ refused n q → with_count out at v ≡ out
unfolding first_met with_count write_outcome
count_left out at v n q h = stays (no_room (length out) at v) n q _ _ _ _ _ h

pub record Wire : Type 2 where
  pub refusal_number_answers : Answers refusal_number.Pre refusal_number.Post
  -- the numbers tell refusals apart
  pub refusal_number_tells : (κs : _) (a b : _) (r : _) (e e' : _) → refusal_number.Post κs a r e → refusal_number.Post κs b r e' → a.0 ≡ b.0
  -- for any two types of places; of these only that they outlive the call, as their own lifetimes say
  pub told_at_asks : (P Q : RattleType) (p : Laws P) (q : Laws Q) (d : Dict) (κs : Lfts 2) (a : _) → κs.0 ⊑ P.lives → κs.1.0 ⊑ Q.lives → told_at.Pre P Q p q d κs a
  pub told_at_one : (P Q : RattleType) (p : Laws P) (q : Laws Q) (d : Dict) → One (told_at.Post P Q p q d)
  pub is_short_answers : Answers is_short.Pre is_short.Post
  pub u32_at_answers : Answers u32_at.Pre u32_at.Post
  pub u64_at_answers : Answers u64_at.Pre u64_at.Post
  pub read_u32_answers : Answers read_u32.Pre read_u32.Post
  pub read_u64_answers : Answers read_u64.Pre read_u64.Post
  -- it does not refuse: it fills the whole part
  pub put_le_asks : AsksNothing put_le.Pre
  pub put_le_leaves : Leaves put_le.Post (λ κs e. e.1.0.now)
  pub read_count_answers : Answers read_count.Pre read_count.Post
  pub long_one_answers : Answers long_one.Pre long_one.Post
  pub shortest_len_answers : Answers shortest_len.Pre shortest_len.Post
  pub write_count_answers : Answers write_count.Pre write_count.Post
  pub write_count_leaves : Leaves write_count.Post (λ κs e. e.0.now)
  -- refused: the bytes as they were
  pub write_count_refused : Refuses write_count.Post (λ κs e. e.0.now) (λ κs a. a.0.now)
  pub is_element_answers : Answers is_element.Pre is_element.Post
  pub word_at_answers : Answers word_at.Pre word_at.Post
  pub check_word_answers : Answers check_word.Pre check_word.Post
  pub read_word_answers : Answers read_word.Pre read_word.Post
  pub word_order_answers : Answers word_order.Pre word_order.Post

pub wire : Wire
wire =
    record {
      refusal_number_answers = answers (λ κs a. tt) (one_value (λ κs a r e p. p));
      refusal_number_tells = λ κs a b r e e' p p'. number_injective a.0 b.0 (sym p ∙ p');
      told_at_asks = λ P Q p q d κs a h k. (h, k);
      told_at_one = λ P Q p q d. one_value (λ κs a r e s. s);
      is_short_answers = answers (λ κs a. tt) (one_value (λ κs a r e p. p));
      u32_at_answers = answers (λ κs a. tt) (one_value (λ κs a r e p. p));
      u64_at_answers = answers (λ κs a. tt) (one_value (λ κs a r e p. p));
      read_u32_answers = answers (λ κs a. tt) (one_shown one_read (λ κs a r e p. p));
      read_u64_answers = answers (λ κs a. tt) (one_shown one_read (λ κs a r e p. p));
      put_le_asks = λ κs a. tt;
      put_le_leaves = one_held (λ κs a r e p. p);
      read_count_answers = answers (λ κs a. tt) (one_shown one_read (λ κs a r e p. p));
      long_one_answers = answers (λ κs a. tt) (one_value (λ κs a r e p. p.0));
      shortest_len_answers = answers (λ κs a. tt) (one_value (λ κs a r e p. p));
      write_count_answers = answers (λ κs a. tt) (one_shown (one_answer _ _ cursor place (λ c. refl) (λ p. refl)) (λ κs a r e p. p.0));
      write_count_leaves = one_held (λ κs a r e p. p.1);
      write_count_refused = kept _ _ (λ κs a r e p. p.0) (λ κs a r e p n q h. p.1 ∙ count_left _ _ _ n q h);
      is_element_answers = answers (λ κs a. tt) (one_value (λ κs a r e p. p));
      word_at_answers = answers (λ κs a. tt) (one_value (λ κs a r e p. p));
      check_word_answers = answers (λ κs a. tt) (λ κs a r r' e e' p p'. one_answer (λ c. record { value = _; next = c.at.0 }) _ (λ x. cursor x.next) place (λ c. refl) (λ p. refl) _ r r' p p');
      read_word_answers = answers (λ κs a. tt) (one_shown one_read (λ κs a r e p. p));
      word_order_answers = answers (λ κs a. tt) (one_value (λ κs a r e p. p));
    }
