-- The cases of a number at a place, over the width; and 4 bytes written out.
-- Assumes nothing.
use mathlib.Core.Path.{◌≡◌, refl}
use mathlib.Core.Bool.{Bool, true, false}
use mathlib.Core.List.{List}
use Prim.Native.Nat.{ℕ, ◌+◌, ◌-◌, ◌*◌, ◌≤◌}
use native.Mathlib.Nat.{add-zero}
use native.Mathlib.Omega.{arith}
use borrow.Author.Tests.{ltb-true, ltb-false, lt-ltb, le-ltb}
use lib.Dec.{ltb}
use lib.ListN.{length, get_or}
use lib.Seq.{slice_empty}
use Rattle.wire.specs.Table.{refused, accepted, first_met}
use Rattle.wire.specs.Refusals.{SHORT}
use Rattle.wire.specs.Le.{le, le_at, is_short, number_at, number_outcome}
use Rattle.wire.proofs.Le.{le_next}

-- a place is past the last at which n bytes fit exactly if they end past the end
pub past_last : (l at n : ℕ) → n ≤ l → ltb (l - n) at ≡ ltb l (at + n)
past_last l at n h = go (ltb l (at + n)) refl
  where
    go : (t : Bool) → ltb l (at + n) ≡ t → ltb (l - n) at ≡ ltb l (at + n)
    go true e = rw e (lt-ltb (l - n) at (omega (arith, ltb-true l (at + n) e)))
    go false e = rw e (le-ltb (l - n) at (omega (arith, ltb-false l (at + n) e)))

module _ (n : ℕ) (s : List ℕ) (at : ℕ) where
  pub all_there : is_short s at n ≡ false → at + n ≤ length s
  all_there e = ltb-false (length s) (at + n) e

  pub number_none : is_short s at n ≡ true → number_at n s at ≡ 0
  unfolding number_at
  number_none e = rw e

  pub number_whole : is_short s at n ≡ false → number_at n s at ≡ le_at s at n
  unfolding number_at
  number_whole e = rw e

  pub number_inside : at + n ≤ length s → number_at n s at ≡ le_at s at n
  number_inside h = number_whole (le-ltb (length s) (at + n) h)

  pub read_short : is_short s at n ≡ true → number_outcome n s at ≡ refused SHORT at
  unfolding number_outcome first_met
  read_short e = rw e

  pub read_whole : is_short s at n ≡ false → number_outcome n s at ≡ accepted (record { value = le_at s at n; next = at + n })
  unfolding number_outcome first_met
  read_whole e = rw e

pub four_bytes : (s : List ℕ) (at : ℕ) → at + 4 ≤ length s →
    le_at s at 4 ≡ get_or s at 0 + get_or s (at + 1) 0 * 256 + get_or s (at + 2) 0 * 65536 + get_or s (at + 3) 0 * 16777216
unfolding le
four_bytes s at h =
    let none : le_at s (at + 4) 0 ≡ 0 = rw (add-zero, slice_empty (at + 4) s) in
    omega (
      arith,
      rw add-zero at (le_next s at 0 3 (omega arith)),
      le_next s at 1 2 (omega arith),
      le_next s at 2 1 (omega arith),
      le_next s at 3 0 (omega arith),
    )

pub eight_bytes : (s : List ℕ) (at : ℕ) → at + 8 ≤ length s →
    le_at s at 8
    ≡ get_or s at 0
    + get_or s (at + 1) 0 * 256
    + get_or s (at + 2) 0 * 65536
    + get_or s (at + 3) 0 * 16777216
    + get_or s (at + 4) 0 * 4294967296
    + get_or s (at + 5) 0 * 1099511627776
    + get_or s (at + 6) 0 * 281474976710656
    + get_or s (at + 7) 0 * 72057594037927936
unfolding le
eight_bytes s at h =
    let none : le_at s (at + 8) 0 ≡ 0 = rw (add-zero, slice_empty (at + 8) s) in
    omega (
      arith,
      rw add-zero at (le_next s at 0 7 (omega arith)),
      le_next s at 1 6 (omega arith),
      le_next s at 2 5 (omega arith),
      le_next s at 3 4 (omega arith),
      le_next s at 4 3 (omega arith),
      le_next s at 5 2 (omega arith),
      le_next s at 6 1 (omega arith),
      le_next s at 7 0 (omega arith),
    )
