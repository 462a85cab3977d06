-- The laws of a list cut at a mark, from a place on.
-- Assumes nothing.
use mathlib.Core.Path.{◌≡◌, refl, ap}
use mathlib.Core.Bool.{Bool, true, false}
use mathlib.Core.List.{List, [], ◌∷◌}
use Rattle.std.proofs.Common.{cond, Option, position, unwrap_or}
use Rattle.std.specs.List.{position_or_len}
use Rattle.std.proofs.lemmas.Bool.Decides.{nat_tests}
use Rattle.std.proofs.lemmas.List.Recursion.{is_position_or_len}
use Prim.Native.Nat.{ℕ, suc, ◌+◌, ◌≤◌}
use native.Mathlib.Omega.{arith}
use lib.Dec.{eqb}
use lib.ListN.{length, take, drop, drop_of_length-le}
use Rattle.wire.specs.Table.{pick}
use Rattle.text.specs.Marks.{before, past}

module _ (mark : ℕ) where
  pub before_place : (s : List ℕ) → length (before mark s) ≡ position_or_len (λ b. eqb b mark) s
  unfolding before
  before_place s = is_position_or_len (λ s. length (before mark s)) (λ b. eqb b mark) refl (λ b s. by_byte s (eqb b mark) b) s
    where
      by_byte : (s : List ℕ) (m : Bool) (b : ℕ) → length (pick m [] (b ∷ before mark s)) ≡ cond m 0 (1 + length (before mark s))
      by_byte s true b = refl
      by_byte s false b = omega arith

  pub before_past : (s : List ℕ) (i : ℕ) → length s ≤ i → length (before mark (drop i s)) ≡ 0
  unfolding before
  before_past s i end = rw (drop_of_length-le s end)

  -- what is before the mark is the start of the list
  pub before_take : (s : List ℕ) → take (length (before mark s)) s ≡ before mark s
  unfolding before
  before_take [] = refl
  before_take (b ∷ s) = by_byte (eqb b mark) (before_take s)
    where
      by_byte : (m : Bool) → take (length (before mark s)) s ≡ before mark s → take (length (pick m [] (b ∷ before mark s))) (b ∷ s) ≡ pick m [] (b ∷ before mark s)
      by_byte true h = refl
      by_byte false h = ap (λ l. b ∷ l) h

  pub before_short : (s : List ℕ) → length (before mark s) ≤ length s
  unfolding before
  before_short [] = omega arith
  before_short (b ∷ s) = by_byte (eqb b mark) (before_short s)
    where
      by_byte : (m : Bool) → length (before mark s) ≤ length s → length (pick m [] (b ∷ before mark s)) ≤ length (b ∷ s)
      by_byte true h = omega arith
      by_byte false h = omega arith

  -- what `position` finds, or else the length
  pub found_place : (s : List ℕ) (r : Option ℕ) → r ≡ position (λ b. eqb b mark) s → unwrap_or r (length s) ≡ length (before mark s)
  found_place s r e = grind (arith, nat_tests, before_place s, before_short s)

  -- and what is past it follows
  pub past_drop : (s : List ℕ) → past mark s ≡ drop (suc (length (before mark s))) s
  unfolding before past
  past_drop [] = refl
  past_drop (b ∷ s) = by_byte (eqb b mark) (past_drop s)
    where
      by_byte : (m : Bool) → past mark s ≡ drop (suc (length (before mark s))) s → pick m s (past mark s) ≡ drop (suc (length (pick m [] (b ∷ before mark s)))) (b ∷ s)
      by_byte true h = refl
      by_byte false h = h
