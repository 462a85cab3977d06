-- Request 4 of document 02: counts read eight bytes at once. How bytes are read no promise says. Here that of `read_count` is
-- seen to be, in every case, what a reader says that takes eight bytes together and shifts them, and nothing else: `read_count` is such a reader. The
-- bytes of a slice are below 256, as its type says.
-- Assumes nothing.
use mathlib.Core.Path.{◌≡◌, sym, ap, ◌∙◌}
use mathlib.Core.List.{List}
use mathlib.Core.Logic.{◌↔◌, ⊎_elim}
use Prim.Native.Nat.{ℕ, ◌+◌, ◌/◌, ◌^◌, ◌≤◌, ◌<◌}
use native.Mathlib.Omega.{arith}
use lib.Count.{count_trailing_zeros}
use lib.ListN.{length, get_or}
use Rattle.std.specs.Prelude.{Result}
use Rattle.wire.specs.Table.{accepted, refused}
use Rattle.wire.specs.Refusals.{SHORT}
use Rattle.wire.specs.Le.{Bytes, le_at}
use Rattle.wire.specs.Counts.{count_of, count_length, Reads}
use Rattle.wire.specs.Shown.{shown_read}
use Rattle.wire.specs.declared.refusal.Refused.{Refused}
use Rattle.wire.specs.declared.units.ByteOffset.{ByteOffset}
use Rattle.wire.specs.declared.units.Cursor.{Cursor}
use Rattle.wire.specs.declared.count.Count.{Count}
use Rattle.wire.proofs.Counts.{lt_or_ge, length_of_zero, count_short, whole_upto_8, whole_9}
use Rattle.wire.proofs.Together.{shifted, byte_zeros, value_together}
use Rattle.promises.proofs.Calls.{ReadsCount}

-- the trailing zeros of the first byte, and the length that they tell
abbrev pub zeros_at : List ℕ → ℕ → ℕ
zeros_at s at = count_trailing_zeros 8 (get_or s at 0)

abbrev pub length_at : List ℕ → ℕ → ℕ
length_at s at = zeros_at s at + 1

-- the answer is v, in len bytes at `at`, and whether that is the shortest
abbrev pub Says : Result (Count × Cursor) (Refused ByteOffset) → ℕ → ℕ → ℕ → Type 0
Says r at len v = shown_read r ≡ accepted (record { value = count_of len v; next = at + len })

pub record Request4 (s : List ℕ) (at : ℕ) (r : Result (Count × Cursor) (Refused ByteOffset)) : Type 0 where
  -- eight bytes or more are left, and the first is not 0: eight as one word of 64 bits, shifted up and down
  pub together : at + 8 ≤ length s → 0 < get_or s at 0 → Says r at (length_at s at) (shifted (le_at s at 8) (zeros_at s at))
  -- nine or more are left, and the first is 0: the eight after it
  pub longest : at + 9 ≤ length s → get_or s at 0 ≡ 0 → Says r at 9 (le_at s (at + 1) 8)
  -- fewer than eight are left, and hold the count: its own bytes, without the bits that tell its length
  pub near_end : length s < at + 8 → at + length_at s at ≤ length s → Says r at (length_at s at) (le_at s at (length_at s at) / 2 ^ length_at s at)
  -- the count is not whole: past the end too, where a byte reads as 0
  pub cut : length s < at + length_at s at → shown_read r ≡ refused SHORT at

-- the definition says so, and what is said in all cases is the definition: a count is whole or not, near the end or not, and begins with 0 or not
module _ (s : List ℕ) (at : ℕ) (r : Result (Count × Cursor) (Refused ByteOffset)) (bytes : Bytes s) where
  reads_together : at + 8 ≤ length s → 0 < get_or s at 0 → Reads s at (length_at s at) (shifted (le_at s at 8) (zeros_at s at))
  unfolding count_length
  reads_together h p =
      let few = byte_zeros (get_or s at 0) (bytes at) p in
      whole_upto_8 s at (omega arith) (omega arith) ∙ rw (value_together s at (zeros_at s at) bytes h few)

  reads_longest : at + 9 ≤ length s → get_or s at 0 ≡ 0 → Reads s at 9 (le_at s (at + 1) 8)
  reads_longest h e =
      let nine : count_length (get_or s at 0) ≡ 9 = ap count_length e ∙ length_of_zero in
      rw nine at (whole_9 s at (omega arith) (omega arith))

  case_by_case : ReadsCount s at r → Request4 s at r
  unfolding count_length
  case_by_case answer =
      record {
        together = λ h p. answer ∙ reads_together h p;
        longest = λ h e. answer ∙ reads_longest h e;
        near_end = λ h w. answer ∙ whole_upto_8 s at w (omega arith);
        cut = λ h. answer ∙ count_short s at h;
      }

  from_zero : Request4 s at r → at + length_at s at ≤ length s → get_or s at 0 ≡ 0 → ReadsCount s at r
  unfolding count_length
  from_zero q w e =
      let nine : length_at s at ≡ 9 = ap count_length e ∙ length_of_zero in
      let left : at + 9 ≤ length s = omega arith in
      q.longest left e ∙ sym (reads_longest left e)

  from_eight : Request4 s at r → at + length_at s at ≤ length s → at + 8 ≤ length s → ReadsCount s at r
  from_eight q w h = ⊎_elim (λ p. q.together h p ∙ sym (reads_together h p)) (λ z. from_zero q w (omega arith)) (lt_or_ge 0 (get_or s at 0))

  from_whole : Request4 s at r → at + length_at s at ≤ length s → ReadsCount s at r
  unfolding count_length
  from_whole q w = ⊎_elim (λ h. q.near_end h w ∙ sym (whole_upto_8 s at w (omega arith))) (λ h. from_eight q w h) (lt_or_ge (length s) (at + 8))

  from_all : Request4 s at r → ReadsCount s at r
  unfolding count_length
  from_all q = ⊎_elim (λ h. q.cut h ∙ sym (count_short s at h)) (λ w. from_whole q w) (lt_or_ge (length s) (at + length_at s at))

pub counts_together : (s : List ℕ) (at : ℕ) (r : Result (Count × Cursor) (Refused ByteOffset)) → Bytes s → ReadsCount s at r ↔ Request4 s at r
counts_together s at r bytes = (case_by_case s at r bytes, from_all s at r bytes)
