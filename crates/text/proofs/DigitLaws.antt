-- The laws of words of digits: std's value of a digit, and words read on from a place.
-- Assumes nothing.
use mathlib.Core.Path.{◌≡◌, refl}
use mathlib.Core.Bool.{Bool, true, false, not, ◌||◌}
use mathlib.Core.List.{List, [], ◌∷◌}
use Rattle.std.proofs.Common.{Some, None, min, cond}
use Rattle.std.specs.Char.{digit_value, is_digit}
use Rattle.std.specs.List.{list_any}
use Prim.Native.Nat.{ℕ, ◌+◌, ◌*◌, ◌%◌, ◌^◌, ◌≤◌, ◌<◌}
use native.Mathlib.Omega.{arith}
use native.Mathlib.Numerals.{add-one}
use borrow.Author.Tests.{le-leb, lt-leb}
use lib.Dec.{eqb}
use lib.ListN.{length, get_or, drop, drop_of_length-le, get_or-eq_default}
use lib.Seq.{drop-cons}
use Rattle.std.proofs.lemmas.Bool.Decides.{nat_tests}
use Rattle.std.proofs.lemmas.List.Recursion.{same_from_clauses}
use Rattle.wire.specs.Table.{pick}
use Rattle.text.specs.Digits.{hex_digit, hex_byte, not_hex, hex_wrong, number_from, number_of_word}

-- ---- a digit

pick_cond : {A : Type 0} (b : Bool) (x y : A) → pick b x y ≡ cond b x y
pick_cond true x y = refl
pick_cond false x y = refl

-- as std counts it; what is none counts as 16 here
pub digit_is : (b : ℕ) → hex_digit b ≡ min (digit_value b) 16
unfolding hex_digit
digit_is b = simp pick_cond (grind (arith, nat_tests))

-- ---- hexadecimal

-- past the end there is no digit
pub half_past : (word : List ℕ) (i : ℕ) → length word ≤ i → hex_digit (get_or word i 0) % 16 ≡ 0
unfolding hex_digit
half_past word i h = rw (get_or-eq_default word 0 h)

pub byte_past : (word : List ℕ) (i : ℕ) → length word ≤ i → hex_byte word i ≡ 0
unfolding hex_byte
byte_past word i h =
    let g : length word ≤ i + 1 = omega arith in
    rw (half_past word i h, half_past word (i + 1) g)

not_hex_is : (word : List ℕ) → not_hex word ≡ list_any (λ b. not (is_digit b 16)) word
unfolding not_hex
not_hex_is word = same_from_clauses not_hex (list_any (λ b. not (is_digit b 16))) (λ b rest. not (is_digit b 16) || rest) refl (λ b word. rw digit_is (grind (arith, nat_tests))) (λ b word. refl) word

pub hex_wrong_is : (word : List ℕ) (digits : ℕ) → hex_wrong digits word ≡ (not (eqb (length word) digits) || list_any (λ b. not (is_digit b 16)) word)
unfolding hex_wrong
hex_wrong_is word digits = rw not_hex_is

-- ---- decimal

pub no_word : (word : List ℕ) → length word ≡ 0 → number_of_word word ≡ None
unfolding number_of_word
no_word [] h = refl
no_word (b ∷ word) h = absurd (omega arith)

pub some_word : (word : List ℕ) → (length word ≡ 0 → ⊥) → number_of_word word ≡ number_from 0 word
unfolding number_of_word
some_word [] h = absurd (h refl)
some_word (b ∷ word) h = refl

module _ (word : List ℕ) (i value : ℕ) (inside : i < length word) where
  pub no_digit_here : 10 ≤ digit_value (get_or word i 0) → number_from value (drop i word) ≡ None
  unfolding number_from
  no_digit_here h = rw (drop-cons word i 0 inside, digit_is, le-leb 10 (min (digit_value (get_or word i 0)) 16) (omega arith))

  pub too_large : digit_value (get_or word i 0) < 10 → 2 ^ 64 ≤ 10 * value + digit_value (get_or word i 0) → number_from value (drop i word) ≡ None
  unfolding number_from
  too_large h g =
      let e : hex_digit (get_or word i 0) ≡ digit_value (get_or word i 0) = omega (arith, digit_is) in
      rw (drop-cons word i 0 inside, e, lt-leb 10 _ h, le-leb (2 ^ 64) _ g)

  pub digit_here : digit_value (get_or word i 0) < 10 → 10 * value + digit_value (get_or word i 0) < 2 ^ 64 →
      number_from value (drop i word) ≡ number_from (10 * value + digit_value (get_or word i 0)) (drop (i + 1) word)
  unfolding number_from
  digit_here h g =
      let e : hex_digit (get_or word i 0) ≡ digit_value (get_or word i 0) = omega (arith, digit_is) in
      rw (drop-cons word i 0 inside, e, lt-leb 10 _ h, lt-leb (2 ^ 64) _ g, add-one)

pub number_end : (word : List ℕ) (i value : ℕ) → length word ≤ i → number_from value (drop i word) ≡ Some value
unfolding number_from
number_end word i value h = rw (drop_of_length-le word h)

pub ruleset decimal_words = (no_word, some_word, no_digit_here, too_large, number_end)
