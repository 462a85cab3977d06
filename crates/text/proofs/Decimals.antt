-- The laws of decimal text: in as many places as it has digits, a number is the digits of a tenth and one more; how many digits it has, and never
-- more than 20.
-- Assumes nothing.
use mathlib.Core.Path.{◌≡◌, refl}
use mathlib.Core.Bool.{Bool, true, false}
use mathlib.Core.List.{List, [], ◌∷◌, ◌++◌}
use Prim.Native.Nat.{ℕ, zero, suc, ◌+◌, ◌*◌, ◌/◌, ◌%◌, ◌^◌, ◌≤◌, ◌<◌}
use native.Mathlib.Omega.{arith}
use native.Mathlib.Numerals.{add-one}
use borrow.Author.Tests.{lt-ltb, le-ltb, ltb-true}
use lib.Dec.{ltb}
use lib.ListN.{length, length-append}
use Rattle.wire.specs.Table.{pick}
use Rattle.text.specs.Text.{digit, decimal_in, decimal}

-- no more places than it has digits are needed for a number
fit : (k n : ℕ) → decimal_in (length (decimal_in k n)) n ≡ decimal_in k n
unfolding decimal_in
fit zero n = refl
fit (suc k) n = by_size (ltb n 10) refl (fit k (n / 10))
  where
    by_size : (b : Bool) → ltb n 10 ≡ b → decimal_in (length (decimal_in k (n / 10))) (n / 10) ≡ decimal_in k (n / 10) → decimal_in (length (pick b (digit n ∷ []) (decimal_in k (n / 10) ++ (digit (n % 10) ∷ [])))) n ≡ pick b (digit n ∷ []) (decimal_in k (n / 10) ++ (digit (n % 10) ∷ []))
    by_size true e i = rw e
    by_size false e i = rw (length-append (decimal_in k (n / 10)) (digit (n % 10) ∷ []), add-one, e, i)

pub fitting : (n : ℕ) → decimal_in (length (decimal n)) n ≡ decimal n
unfolding decimal
fitting n = fit 20 n

-- in as many places as it has digits, the last digit and then those of a tenth
pub last_digit : (k n : ℕ) → length (decimal_in (suc k) n) ≡ suc k → (decimal_in (suc k) n ≡ decimal_in k (n / 10) ++ (digit (n % 10) ∷ [])) × (length (decimal_in k (n / 10)) ≡ k)
unfolding decimal_in
last_digit k n h = by_size (ltb n 10) refl h
  where
    by_size : (b : Bool) → ltb n 10 ≡ b → length (pick b (digit n ∷ []) (decimal_in k (n / 10) ++ (digit (n % 10) ∷ []))) ≡ suc k →
        (pick b (digit n ∷ []) (decimal_in k (n / 10) ++ (digit (n % 10) ∷ [])) ≡ decimal_in k (n / 10) ++ (digit (n % 10) ∷ [])) × (length (decimal_in k (n / 10)) ≡ k)
    by_size true e g =
        let z : k ≡ 0 = omega arith in
        let s : n % 10 ≡ n = omega (arith, ltb-true n 10 e) in
        rw (z, s) (refl, refl)
    by_size false e g = (refl, omega (arith, length-append (decimal_in k (n / 10)) (digit (n % 10) ∷ [])))

-- as many digits as powers of ten reach up to the number
up_to : (k j n : ℕ) → k ≤ j → 10 ^ k ≤ n → n < 10 * 10 ^ k → length (decimal_in (suc j) n) ≡ k + 1
unfolding decimal_in
up_to zero j n h low high = let s : n < 10 = omega arith in rw (lt-ltb n 10 s)
up_to (suc k) zero n h low high = absurd (omega arith)
up_to (suc k) (suc j) n h low high =
    let s : 10 ≤ n = omega arith in
    let a : 10 ^ k ≤ n / 10 = omega arith in
    let b : n / 10 < 10 * 10 ^ k = omega arith in
    let g : k ≤ j = omega arith in
    rw (le-ltb n 10 s) (omega (arith, length-append (decimal_in (suc j) (n / 10)) (digit (n % 10) ∷ []), up_to k j (n / 10) g a b))

pub digits_of : (n k : ℕ) → 10 ^ k ≤ n → n < 10 * 10 ^ k → k < 20 → length (decimal n) ≡ k + 1
unfolding decimal
digits_of n k low high h = let g : k ≤ 19 = omega arith in up_to k 19 n g low high

pub one_digit : length (decimal 0) ≡ 1
unfolding decimal decimal_in
one_digit = refl

by_size : (b : Bool) (k n : ℕ) (l : List ℕ) → length l ≤ k → length (pick b (digit n ∷ []) (l ++ (digit (n % 10) ∷ []))) ≤ suc k
by_size true k n l h = omega arith
by_size false k n l h = rw length-append (omega arith)

at_most : (k n : ℕ) → length (decimal_in k n) ≤ k
unfolding decimal_in
at_most zero n = omega arith
at_most (suc k) n = by_size (ltb n 10) k n (decimal_in k (n / 10)) (at_most k (n / 10))

pub decimal_short : (n : ℕ) → length (decimal n) ≤ 20
unfolding decimal
decimal_short n = at_most 20 n
