-- What is printed in decimal reads back as the number: the two definitions of decimal agree.
-- Assumes nothing.
use mathlib.Core.Path.{◌≡◌, refl, ap, ◌∙◌}
use mathlib.Core.Bool.{Bool, true, false}
use mathlib.Core.List.{List, [], ◌∷◌, ◌++◌}
use Rattle.std.proofs.Common.{Option, Some, None}
use Prim.Native.Nat.{ℕ, zero, suc, ◌+◌, ◌*◌, ◌/◌, ◌%◌, ◌^◌, ◌≤◌, ◌<◌}
use native.Mathlib.Omega.{arith}
use borrow.Author.Tests.{le-ltb, ltb-true, ltb-false, le-leb, lt-leb}
use lib.Dec.{ltb, leb}
use lib.ListN.{length, length-append}
use Rattle.wire.specs.Table.{pick}
use Rattle.text.specs.Text.{digit, decimal_in, decimal}
use Rattle.text.specs.Digits.{hex_digit, number_from, number_of_word}
use Rattle.text.proofs.DigitLaws.{some_word}

digit_back : (d : ℕ) → d < 10 → hex_digit (digit d) ≡ d
unfolding hex_digit
digit_back d h =
    let a : 48 ≤ 48 + d = omega arith in
    let b : 48 + d ≤ 57 = omega arith in
    rw (le-ltb (48 + d) 48 a, le-leb (48 + d) 57 b) (omega arith)

-- one digit after a value
one_more : (v d : ℕ) → d < 10 → 10 * v + d < 2 ^ 64 → number_from v (digit d ∷ []) ≡ Some (10 * v + d)
unfolding number_from
one_more v d h g = rw (digit_back d h, lt-leb 10 d h, lt-leb (2 ^ 64) (10 * v + d) g)

-- a word that says w, and more after it
go_on : (a c : Bool) (x y z : Option ℕ) (w : ℕ) → pick a None (pick c None x) ≡ Some w → (x ≡ Some w → y ≡ z) → pick a None (pick c None y) ≡ z
go_on true c x y z w e k = cc
go_on false true x y z w e k = cc
go_on false false x y z w e k = k e

then_more : (xs ys : List ℕ) (v w : ℕ) → number_from v xs ≡ Some w → number_from v (xs ++ ys) ≡ number_from w ys
unfolding number_from
then_more [] ys v w e = let q : v ≡ w = cc in rw q
then_more (b ∷ xs) ys v w e =
    go_on (leb 10 (hex_digit b)) (leb (2 ^ 64) (10 * v + hex_digit b)) (number_from (10 * v + hex_digit b) xs)
    (number_from (10 * v + hex_digit b) (xs ++ ys)) (number_from w ys) w e
    (λ q. then_more xs ys (10 * v + hex_digit b) w q)

-- one digit, or the digits of a tenth and one more
by_size : (n : ℕ) (l : List ℕ) (b : Bool) → n < 2 ^ 64 → ltb n 10 ≡ b → (b ≡ false → number_from 0 l ≡ Some (n / 10)) → number_from 0 (pick b (digit n ∷ []) (l ++ (digit (n % 10) ∷ []))) ≡ Some n
by_size n l true g e tenth =
    let s : n < 10 = ltb-true n 10 e in
    let z : 10 * 0 + n < 2 ^ 64 = omega arith in
    let q : 10 * 0 + n ≡ n = omega arith in
    one_more 0 n s z ∙ ap Some q
by_size n l false g e tenth =
    let d : n % 10 < 10 = omega arith in
    let z : 10 * (n / 10) + n % 10 < 2 ^ 64 = omega arith in
    let q : 10 * (n / 10) + n % 10 ≡ n = omega arith in
    then_more l (digit (n % 10) ∷ []) 0 (n / 10) (tenth refl) ∙ one_more (n / 10) (n % 10) d z ∙ ap Some q

back : (k n : ℕ) → n < 10 ^ suc k → n < 2 ^ 64 → number_from 0 (decimal_in (suc k) n) ≡ Some n
unfolding decimal_in
back zero n h g = by_size n [] (ltb n 10) g refl (λ q. absurd (omega (arith, ltb-false n 10 q)))
back (suc k) n h g =
    let t : n / 10 < 10 ^ suc k = omega arith in
    let u : n / 10 < 2 ^ 64 = omega arith in
    by_size n (decimal_in (suc k) (n / 10)) (ltb n 10) g refl (λ q. back k (n / 10) t u)

some_digit : (k n : ℕ) (b : Bool) → length (pick b (digit n ∷ []) (decimal_in k (n / 10) ++ (digit (n % 10) ∷ []))) ≡ 0 → ⊥
some_digit k n true h = omega arith
some_digit k n false h = omega (arith, length-append (decimal_in k (n / 10)) (digit (n % 10) ∷ []))

pub reads_back : (n : ℕ) → n < 2 ^ 64 → number_of_word (decimal n) ≡ Some n
unfolding decimal decimal_in
reads_back n h =
    let t : n < 10 ^ 20 = omega arith in
    some_word (decimal n) (some_digit 19 n (ltb n 10)) ∙ back 19 n t h
