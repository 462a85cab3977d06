-- A count out of the eight bytes at its place, read together: two shifts leave its value. One law for every length.
-- Assumes nothing.
use mathlib.Core.Path.{◌≡◌, sym}
use mathlib.Core.List.{List}
use mathlib.Core.Logic.{◌⊎◌, inl, inr}
use Prim.Native.Nat.{ℕ, ◌+◌, ◌-◌, ◌*◌, ◌/◌, ◌%◌, ◌^◌, ◌≤◌, ◌<◌}
use native.Mathlib.Nat.{mod-eq_of_lt, lt_of_not-le, mul-div-mul_right, lt-div-mul-add, div-eq_of_lt, zero-mul, zero-add}
use native.Mathlib.Omega.{arith}
use lib.Count.{count_trailing_zeros, trailing_le}
use lib.ListN.{length}
use lib.Pow.{pow_pos, pow-add, low, shl_lt, shr-shr}
use Rattle.wire.specs.Le.{Bytes, le_at}
use Rattle.wire.proofs.Le.{le_parts, le-slice_below}
use Rattle.wire.proofs.Counts.{lt_or_ge}
use Rattle.wire.proofs.Forms.{pow_256, trailing_all}

-- a byte that is not 0 ends in fewer than eight zeros
pub byte_zeros : (b : ℕ) → b < 256 → 0 < b → count_trailing_zeros 8 b < 8
byte_zeros b h p = lt_of_not-le (λ (g : 8 ≤ count_trailing_zeros 8 b). omega (arith, trailing_all 8 b (omega (arith, trailing_le 8 b)), mod-eq_of_lt h))

-- a number with nothing above its n lowest bits, and one with something there
pub below_power : (n v : ℕ) → v / 2 ^ n ≡ 0 → v < 2 ^ n
below_power n v e = rw (e, zero-mul, zero-add) at (lt-div-mul-add {a = v} {b = 2 ^ n} (pow_pos n))

pub above_power : (n v : ℕ) → (v / 2 ^ n ≡ 0 → ⊥) → 2 ^ n ≤ v
above_power n v f = go (lt_or_ge v (2 ^ n))
  where
    go : (v < 2 ^ n) ⊎ (2 ^ n ≤ v) → 2 ^ n ≤ v
    go (inl h) = absurd (f (div-eq_of_lt h))
    go (inr h) = h

-- of j low bits a, with r above them, in a word of j + k bits: up by k, so that nothing is above them, and down again past their n lowest
shifted_field : (a r j k n : ℕ) → a < 2 ^ j → (a + 2 ^ j * r) * 2 ^ k % 2 ^ (j + k) / 2 ^ (n + k) ≡ a / 2 ^ n
shifted_field a r j k n h =
    let e : (a + 2 ^ j * r) * 2 ^ k ≡ r * 2 ^ (j + k) + a * 2 ^ k = rw pow-add (omega arith) in
    rw (e, low r (j + k) (shl_lt j k h), pow-add 2 n k) (mul-div-mul_right a (2 ^ n) (pow_pos k))

-- A word of 64 bits, shifted up until the last byte of a count with so many zeros is at the top, which drops what is behind the count, and down past
-- the bits that tell its length.
abbrev pub shifted : ℕ → ℕ → ℕ
shifted word zeros = word * 2 ^ (56 - 8 * zeros) % 2 ^ 64 / 2 ^ (57 - 7 * zeros)

-- in between, what is above its lowest 57 bits is above the value's lowest seven for each byte but the first
pub top_seven : (word zeros : ℕ) → zeros < 8 → word * 2 ^ (56 - 8 * zeros) % 2 ^ 64 / 2 ^ 57 ≡ shifted word zeros / 2 ^ (7 * zeros)
top_seven word zeros m =
    let all : 57 - 7 * zeros + 7 * zeros ≡ 57 = omega arith in
    sym (rw all at (shr-shr (word * 2 ^ (56 - 8 * zeros) % 2 ^ 64) (57 - 7 * zeros) (7 * zeros)))

-- what is left is the count's own bytes, one more than its zeros, without as many low bits as they are bytes
pub value_together : (s : List ℕ) (at zeros : ℕ) → Bytes s → at + 8 ≤ length s → zeros < 8
    → shifted (le_at s at 8) zeros ≡ le_at s at (zeros + 1) / 2 ^ (zeros + 1)
value_together s at zeros bs h m =
    let len = zeros + 1 in
    let all : len + (8 - len) ≡ 8 = omega arith in
    let up : 8 * len + (56 - 8 * zeros) ≡ 64 = omega arith in
    let down : len + (56 - 8 * zeros) ≡ 57 - 7 * zeros = omega arith in
    let own = le_at s at len in
    let after = le_at s (at + len) (8 - len) in
    let word : le_at s at 8 ≡ own + 2 ^ (8 * len) * after = rw (all, pow_256) at (le_parts s at len (8 - len) (omega arith)) in
    let below : own < 2 ^ (8 * len) = rw pow_256 at (le-slice_below len at (at + len) s bs (omega arith)) in
    rw word (rw (up, down) at (shifted_field own after (8 * len) (56 - 8 * zeros) len below))
