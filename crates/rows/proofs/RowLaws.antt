-- Rows by their number: the cases of a row's place and of the entry in a row.
-- Assumes nothing.
use mathlib.Core.Path.{◌≡◌, refl, sym, ap, ◌∙◌}
use mathlib.Core.Bool.{Bool, true, false}
use mathlib.Core.List.{List}
use Prim.Native.Nat.{ℕ, ◌+◌, ◌-◌, ◌*◌, ◌/◌, ◌^◌, ◌≤◌, ◌<◌}
use native.Mathlib.Nat.{mul_comm, div-lt_iff_lt-mul}
use native.Mathlib.Omega.{arith}
use borrow.Author.Tests.{le-ltb}
use lib.ListN.{length}
use Rattle.std.specs.Prelude.{Option, Some, None, Result, Ok, Err}
use Rattle.std.specs.Result.{MatchResult, IsErrAnd}
use Rattle.wire.specs.Table.{refused, accepted, pick, first_met, At, ◌>>=◌}
use Rattle.wire.specs.Refusals.{OVERFLOW}
use Rattle.wire.specs.Shown.{shown_read, shown_by}
use Rattle.wire.specs.declared.refusal.Refused.{Refused}
use Rattle.wire.specs.declared.units.ByteOffset.{ByteOffset}
use Rattle.wire.specs.declared.units.Cursor.{Cursor}
use Rattle.wire.proofs.Stages.{in_the_end}
use Rattle.wire.proofs.Tables.{replaced}
use Rattle.info.specs.Entry.{entry_of, decode_rules, decode_outcome, entry_rules, entry_outcome}
use Rattle.info.specs.declared.MastNodeEntry.{MastNodeEntry}
use Rattle.info.proofs.Cases.{moved, replaced_moved, told}
use Rattle.rows.specs.Rows.{row_at, row_over, row_place, row_word, row_rules, row_outcome}

-- ---- where a row lies

-- past the last row for which there is room
pub past_last : (room size i : ℕ) → 0 < size → room / size < i → room < size * i
past_last room size i pos q = let far : room < i * size = (div-lt_iff_lt-mul pos).0 q in omega (arith, mul_comm size i)

module _ (section size i : ℕ) where
  -- what a place that was answered tells
  pub placed_over : row_place section size i ≡ None → row_over section size i ≡ true
  placed_over e = go (row_over section size i) e
    where
      go : (t : Bool) → pick {A = Option ByteOffset} t None (Some (record { 0 = section + size * i })) ≡ None → t ≡ true
      go true k = refl
      go false k = cc

  pub placed_at : (at : ByteOffset) → row_place section size i ≡ Some at → (row_over section size i ≡ false) × (at.0 ≡ section + size * i)
  placed_at at e = go (row_over section size i) e
    where
      go : (t : Bool) → pick {A = Option ByteOffset} t None (Some (record { 0 = section + size * i })) ≡ Some at → (t ≡ false) × (at.0 ≡ section + size * i)
      go true k = (cc, cc)
      go false k = let same : at ≡ record { 0 = section + size * i } = cc in (refl, ap (λ (x : ByteOffset). x.0) same)

-- ---- the entry in a row

module _ (s : List ℕ) (first i : ℕ) where
  pub row_over_lem : row_over first 8 i ≡ true → row_outcome s first i ≡ refused OVERFLOW i
  unfolding row_outcome row_rules first_met
  row_over_lem e = rw e

  -- else it is what an entry at the row's place says, told at the row
  pub row_stages : row_over first 8 i ≡ false → row_outcome s first i ≡ (moved i (entry_outcome s (row_at first 8 i)) >>= (λ r. accepted r.value))
  unfolding row_outcome row_rules first_met entry_outcome entry_rules decode_rules
  row_stages below =
      let rules = entry_rules s (row_at first 8 i) in
      let read : At MastNodeEntry = record { value = entry_of (row_word s first i); next = row_at first 8 i + 8 } in
      rw below (in_the_end (replaced i rules) read (λ r. r.value) ∙ ap (λ o. o >>= (λ r. accepted r.value)) (replaced_moved i rules read))

-- of what is read at a place only the entry
only_entry : (r : Result (MastNodeEntry × Cursor) (Refused ℕ))
    → shown_by (λ x. x.0) r ≡ (shown_by (λ x. record { value = x.0; next = x.1.at.0 }) r >>= (λ (v : At MastNodeEntry). accepted v.value))
unfolding ◌>>=◌
only_entry (Ok x) = refl
only_entry (Err e) = refl

-- so `row_entry` says it, by its `map_err`
pub row_told : (s : List ℕ) (first i : ℕ) (at : ByteOffset) (r : Result (MastNodeEntry × Cursor) (Refused ByteOffset)) → row_place first 8 i ≡ Some at
    → shown_read r ≡ entry_outcome s at.0 → (r' : Result (MastNodeEntry × Cursor) (Refused ℕ)) (Learnt : Refused ByteOffset → Refused ℕ → Type 0)
    → ((e : Refused ByteOffset) (e' : Refused ℕ) → Learnt e e' → e' ≡ record { why = e.why; at = i })
    → MatchResult r (λ x. r' ≡ Ok x) (λ e. IsErrAnd r' (Learnt e)) → shown_by (λ x. x.0) r' ≡ row_outcome s first i
row_told s first i at r placed said r' Learnt known k =
    let p = placed_at first 8 i at placed in
    let says : MastNodeEntry × Cursor → At MastNodeEntry = λ x. record { value = x.0; next = x.1.at.0 } in
    let read : shown_by says r' ≡ moved i (entry_outcome s at.0) = told says (λ q. q.0) (λ q. q) i r r' Learnt known k ∙ ap (moved i) said in
    only_entry r' ∙ ap (λ o. o >>= (λ r. accepted r.value)) (rw p.1 at read) ∙ sym (row_stages s first i p.0)

-- a row inside the file says what its word says
pub inside_row : (s : List ℕ) (first i n : ℕ) → first + 8 * n ≤ length s → length s < 2 ^ 64 → i < n → row_outcome s first i ≡ decode_outcome i (row_word s first i)
unfolding row_outcome row_rules first_met decode_outcome
inside_row s first i n inside fits h =
    rw (le-ltb (2 ^ 64 - 1) (first + 8 * i + 8) (omega arith), le-ltb (length s) (first + 8 * i + 8) (omega arith))
