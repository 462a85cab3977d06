-- Why the survey of words is right: the upper halves of two words side by side, what their sums mark, and what is counted of them.
-- Assumes nothing.
use mathlib.Core.Path.{◌≡◌, refl, ap, ◌∙◌}
use Prim.Native.Nat.{ℕ, zero, suc, ◌+◌, ◌*◌, ◌-◌, ◌/◌, ◌%◌, ◌^◌, ◌<◌, ◌≤◌}
use native.Mathlib.Nat.{mod-eq_of_lt}
use native.Mathlib.Omega.{arith}
use lib.Arith.{digits_div, digits_mod}
use lib.Bits.{bit_and, bit_or, and_shr, and_block, and_mask, and_lt, or_shr}
use Rattle.rows.specs.Rows.{Narrow, beside, Clear}
use Rattle.rows.proofs.Quick.{or_zeros}

-- the lowest bits of both
both_ends : (x k : ℕ) → 2 ^ k - 1 < 2 ^ 32 → bit_and x (beside (2 ^ k - 1) (2 ^ k - 1)) ≡ beside (x % 2 ^ 32 % 2 ^ k) (x / 2 ^ 32 % 2 ^ k)
both_ends x k fits =
    let parts : x ≡ x / 2 ^ 32 * 2 ^ 32 + x % 2 ^ 32 = omega arith in
    let low : x % 2 ^ 32 < 2 ^ 32 = omega arith in
    ap (λ (y : ℕ). bit_and y (beside (2 ^ k - 1) (2 ^ k - 1))) parts
    ∙ and_block 32 (x / 2 ^ 32) (2 ^ k - 1) (x % 2 ^ 32) (2 ^ k - 1) low fits
    ∙ rw (and_mask (x / 2 ^ 32) k, and_mask (x % 2 ^ 32) k) refl

module _ (pair : ℕ) (fits : pair < 2 ^ 64) where
  abbrev lower : ℕ
  lower = pair % 2 ^ 32

  abbrev higher : ℕ
  higher = pair / 2 ^ 32

  pub pair_halved : bit_and (pair / 2) 0x7FFFFFFF7FFFFFFF ≡ beside (lower / 2) (higher / 2)
  pair_halved =
      let whole : pair / 2 ≡ beside (higher % 2 * 2 ^ 31 + lower / 2) (higher / 2) = omega arith in
      let below : higher % 2 * 2 ^ 31 + lower / 2 < 2 ^ 32 = omega arith in
      let low : pair / 2 % 2 ^ 32 % 2 ^ 31 ≡ lower / 2 =
      ap (λ (x : ℕ). x % 2 ^ 32 % 2 ^ 31) whole ∙ ap (λ (x : ℕ). x % 2 ^ 31) (digits_mod (higher / 2) below) ∙ digits_mod (higher % 2) (omega arith) in
      let high : pair / 2 / 2 ^ 32 % 2 ^ 31 ≡ higher / 2 =
      ap (λ (x : ℕ). x / 2 ^ 32 % 2 ^ 31) whole ∙ ap (λ (x : ℕ). x % 2 ^ 31) (digits_div (higher / 2) below) ∙ mod-eq_of_lt (omega arith) in
      both_ends (pair / 2) 31 (omega arith) ∙ rw (low, high) refl

  pub pair_tops : bit_and (pair / 2 ^ 31) 0x100000001 ≡ beside (lower / 2 ^ 31) (higher / 2 ^ 31)
  pair_tops =
      let whole : pair / 2 ^ 31 ≡ beside (higher % 2 ^ 31 * 2 + lower / 2 ^ 31) (higher / 2 ^ 31) = omega arith in
      let below : higher % 2 ^ 31 * 2 + lower / 2 ^ 31 < 2 ^ 32 = omega arith in
      let low : pair / 2 ^ 31 % 2 ^ 32 % 2 ≡ lower / 2 ^ 31 =
      ap (λ (x : ℕ). x % 2 ^ 32 % 2) whole ∙ ap (λ (x : ℕ). x % 2) (digits_mod (higher / 2 ^ 31) below) ∙ digits_mod (higher % 2 ^ 31) (omega arith) in
      let high : pair / 2 ^ 31 / 2 ^ 32 % 2 ≡ higher / 2 ^ 31 =
      ap (λ (x : ℕ). x / 2 ^ 32 % 2) whole ∙ ap (λ (x : ℕ). x % 2) (digits_div (higher / 2 ^ 31) below) ∙ mod-eq_of_lt (omega arith) in
      both_ends (pair / 2 ^ 31) 1 (omega arith) ∙ rw (low, high) refl

-- the 28 lower bits of both
pub pair_masked : (pair : ℕ) → bit_and pair 0x0FFFFFFF0FFFFFFF ≡ beside (pair % 2 ^ 32 % 2 ^ 28) (pair / 2 ^ 32 % 2 ^ 28)
pair_masked pair = both_ends pair 28 (omega arith)

-- a half: both sums have bit 29, and nothing above it, where the tag is 2 to 5 and the payload is wide
abbrev tag_sum : ℕ → ℕ
tag_sum half = half / 2 + 2 ^ 28

abbrev payload_sum : ℕ → ℕ
payload_sum half = half % 2 ^ 28 + (2 ^ 29 - 1)

unmarked_narrow : (half : ℕ) → bit_and (tag_sum half) (payload_sum half) / 2 ^ 29 % 2 ≡ 0 → Narrow half
unmarked_narrow half z two six = go (half % 2 ^ 28) refl
  where
    go : (k : ℕ) → half % 2 ^ 28 ≡ k → half % 2 ^ 28 ≡ 0
    go zero e = e
    go (suc k) e =
        let a : tag_sum half / 2 ^ 29 ≡ 1 = omega arith in
        let b : payload_sum half / 2 ^ 29 ≡ 1 = omega arith in
        let both : bit_and (tag_sum half) (payload_sum half) / 2 ^ 29 % 2 ≡ 1 = rw (and_shr (tag_sum half) (payload_sum half) 29, a, b) refl in
        absurd (omega (arith, both))

-- what is marked in a number of two is marked in one of them
clear_29 : (low high : ℕ) → low < 2 ^ 32 → Clear 29 (beside low high) → (low / 2 ^ 29 % 2 ≡ 0) × (high / 2 ^ 29 % 2 ≡ 0)
clear_29 low high fits c = (omega (arith, c.0), omega (arith, c.1))

module _ (pair halves : ℕ) (fits : pair < 2 ^ 64) (half : halves ≡ beside (pair % 2 ^ 32 / 2) (pair / 2 ^ 32 / 2)) where
  abbrev low : ℕ
  low = pair % 2 ^ 32

  abbrev high : ℕ
  high = pair / 2 ^ 32

  wide_marks : bit_and (halves + 0x1000000010000000) (bit_and pair 0x0FFFFFFF0FFFFFFF + 0x1FFFFFFF1FFFFFFF)
      ≡ beside (bit_and (tag_sum low) (payload_sum low)) (bit_and (tag_sum high) (payload_sum high))
  wide_marks =
      let a : halves + 0x1000000010000000 ≡ tag_sum high * 2 ^ 32 + tag_sum low = omega (arith, half) in
      let b : bit_and pair 0x0FFFFFFF0FFFFFFF + 0x1FFFFFFF1FFFFFFF ≡ payload_sum high * 2 ^ 32 + payload_sum low = omega (arith, pair_masked pair) in
      rw (a, b) (and_block 32 (tag_sum high) (payload_sum high) (tag_sum low) (payload_sum low) (omega arith) (omega arith))

  pub clear_narrow : Clear 29 (bit_and (halves + 0x1000000010000000) (bit_and pair 0x0FFFFFFF0FFFFFFF + 0x1FFFFFFF1FFFFFFF)) → Narrow low × Narrow high
  clear_narrow c =
      let fit : bit_and (tag_sum low) (payload_sum low) < 2 ^ 32 = and_lt 32 (tag_sum low) (payload_sum low) (omega arith) (omega arith) in
      let k = clear_29 _ _ fit (rw wide_marks at c) in
      (unmarked_narrow low k.0, unmarked_narrow high k.1)

-- an `or` is clear only if both sides are
or_unmarked : (a b k : ℕ) → bit_or a b / 2 ^ k % 2 ≡ 0 → (a / 2 ^ k % 2 ≡ 0) × (b / 2 ^ k % 2 ≡ 0)
or_unmarked a b k z = or_zeros (a / 2 ^ k) (b / 2 ^ k) 1 (rw (← or_shr a b k) z)

pub or_clear : (a b k : ℕ) → Clear k (bit_or a b) → Clear k a × Clear k b
or_clear a b k c =
    let l = or_unmarked a b k c.0 in
    let h = or_unmarked a b (k + 32) c.1 in
    ((l.0, h.0), (l.1, h.1))

-- the halves of two words, and the externals counted in each half
pub pair_parts : (low high pair : ℕ) → low < 2 ^ 64 → high < 2 ^ 64 → pair ≡ beside (low / 2 ^ 32) (high / 2 ^ 32) →
    (pair < 2 ^ 64) × ((pair % 2 ^ 32 ≡ low / 2 ^ 32) × (pair / 2 ^ 32 ≡ high / 2 ^ 32))
pair_parts low high pair l h e = (omega (arith, e), (omega (arith, e), omega (arith, e)))

apart : (externals low high more : ℕ) → externals % 2 ^ 32 + low < 2 ^ 32 → more ≡ beside low high →
    ((externals + more) % 2 ^ 32 ≡ externals % 2 ^ 32 + low) × ((externals + more) / 2 ^ 32 ≡ externals / 2 ^ 32 + high)
apart externals low high more fits e = (omega (arith, e), omega (arith, e))

-- what is counted after one word more of each half: i of each were seen, and at most n are
pub record Counted (externals i low high more : ℕ) : Type 0 where
  pub fits : externals + more < 2 ^ 64
  pub lower : (externals + more) % 2 ^ 32 ≡ externals % 2 ^ 32 + low
  pub higher : (externals + more) / 2 ^ 32 ≡ externals / 2 ^ 32 + high
  pub lower_few : (externals + more) % 2 ^ 32 ≤ i + 1
  pub higher_few : (externals + more) / 2 ^ 32 ≤ i + 1

pub pair_counted : (externals i n low high pair more : ℕ) → low < 2 ^ 64 → high < 2 ^ 64 → pair ≡ beside (low / 2 ^ 32) (high / 2 ^ 32)
    → externals % 2 ^ 32 ≤ i → externals / 2 ^ 32 ≤ i → i < n → n ≤ 2048 → more ≡ beside (pair % 2 ^ 32 / 2 ^ 31) (pair / 2 ^ 32 / 2 ^ 31)
    → Counted externals i (pair % 2 ^ 32 / 2 ^ 31) (pair / 2 ^ 32 / 2 ^ 31) more
pair_counted externals i n low high pair more l h p few many below room e =
    let one : (pair % 2 ^ 32 / 2 ^ 31 ≤ 1) × (pair / 2 ^ 32 / 2 ^ 31 ≤ 1) = (omega arith, omega (arith, pair_parts low high pair l h p)) in
    let k = apart externals _ _ more (omega arith) e in
    record { fits = omega (arith, e); lower = k.0; higher = k.1; lower_few = omega (arith, k.0); higher_few = omega (arith, k.1) }
