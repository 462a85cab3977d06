-- How a chain of early returns meets its segment of the rule table: `search ladder` walks down the table, past each rule whose test
-- failed, to the rule whose test held. The tests' facts are found among what is known at the `return`.
-- Assumes nothing.
use Prim.Native.Nat.{ℕ, suc, ◌+◌, ◌-◌, ◌≤◌, ◌<◌}
use native.Mathlib.Omega.{arith}
use mathlib.Core.Path.{◌≡◌, refl, sym, ◌∙◌}
use mathlib.Core.Bool.{Bool, true, false, not, ◌&&◌}
use lib.Dec.{ltb}
use borrow.Author.Tests.{le-ltb, lt-ltb, le-leb, lt-leb, eq-eqb, ne_eqb}
use Rattle.wire.specs.Table.{pick}

-- the rule is met: it refuses
pub hit : {A : Type 0} (b : Bool) (x y : A) → b ≡ true → x ≡ pick b x y
hit true x y e = refl
hit false x y e = cc

-- the rule is not met: the next
pub miss : {A : Type 0} (b : Bool) (x y z : A) → b ≡ false → x ≡ z → x ≡ pick b y z
miss true x y z e q = cc
miss false x y z e q = q

-- the test was a call
pub called : (r b t : Bool) → r ≡ b → r ≡ t → b ≡ t
called r b t e q = sym e ∙ q

-- a test of parts
pub differ : (a : Bool) → a ≡ false → not a ≡ true
differ true e = cc
differ false e = refl

pub agree : (a : Bool) → a ≡ true → not a ≡ false
agree true e = refl
agree false e = cc

pub and_true : (a b : Bool) → a ≡ true → b ≡ true → (a && b) ≡ true
and_true true b e q = q
and_true false b e q = e

pub and_left : (a b : Bool) → a ≡ false → (a && b) ≡ false
and_left true b e = cc
and_left false b e = refl

pub and_right : (a b : Bool) → b ≡ false → (a && b) ≡ false
and_right true b e = e
and_right false b e = refl

-- a sum above m, by a test that cannot wrap
pub sum_above : (m i e : ℕ) → m - i < e → ltb m (i + e) ≡ true
sum_above m i e h = lt-ltb m (i + e) (omega arith)

pub sum_within : (m i e : ℕ) → i < suc m → e ≤ m - i → ltb m (i + e) ≡ false
sum_within m i e p h = le-ltb m (i + e) (omega arith)

pub ruleset ladder = (hit, miss, called, and_true, and_left, and_right, differ, agree, le-ltb, lt-ltb, le-leb, lt-leb, eq-eqb, ne_eqb, sum_above, sum_within)
