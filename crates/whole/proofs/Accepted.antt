-- What is so of a file that scan and walk accept.
--     scanned_ends, scanned_counted   the scan's laws, by its answer
--     scanned_long                    at most four counts are long
--     walk_inside                     the map ends in the file, and not before it begins
--     walk_long_lem                       and has 33 bytes for each long count but one
-- Assumes nothing.
use mathlib.Core.Path.{◌≡◌, ap}
use mathlib.Core.Bool.{Bool}
use mathlib.Core.List.{List, [], ◌∷◌}
use Prim.Native.Nat.{ℕ, zero, suc, ◌+◌, ◌*◌, ◌^◌, ◌≤◌, ◌<◌}
use native.Mathlib.Omega.{arith}
use borrow.Author.Tests.{ltb-false}
use lib.ListN.{length}
use Rattle.std.specs.Prelude.{Option}
use Rattle.wire.specs.Table.{accepted, NoneMet}
use Rattle.wire.specs.Counts.{long_ones}
use Rattle.wire.specs.Words.{four_at}
use Rattle.wire.proofs.Counts.{one_most}
use Rattle.wire.proofs.Tables.{accepted_none, none_parts}
use Rattle.layout.specs.Scan.{Scanned, internal, external, roots, blocks, head_counts, scan_outcome, scan_rules, scan_shown, layout_shown}
use Rattle.layout.specs.Accepted.{EndToEnd, Counted}
use Rattle.layout.specs.declared.facts.FormatFacts.{FormatFacts}
use Rattle.layout.proofs.Accepted.{end_to_end, all_counted}
use Rattle.advice.specs.Walk.{Walked, map_counts, walk_outcome, map_rules, walk_rules, advice_rules, walk_end, next_entry, first_entry, entry_count}
use Rattle.advice.proofs.Accepts.{walk_accepts}
use Rattle.advice.proofs.Entries.{entry_bytes_lem, long_few}

-- ---- the scan

module _ (f : FormatFacts) (s : List ℕ) (allow : Bool) (bound : Option ℕ) (x : Scanned) (taken : scan_outcome f s allow bound ≡ accepted x) where
  pub scanned_unmet : NoneMet (scan_rules f s allow bound) × (scan_shown f s allow bound ≡ x)
  unfolding scan_outcome
  scanned_unmet = accepted_none (scan_rules f s allow bound) (scan_shown f s allow bound) x taken

  shown : layout_shown f s allow bound ≡ x.layout
  shown = ap (λ (y : Scanned). y.layout) scanned_unmet.1

  pub scanned_ends : EndToEnd f s x.layout
  scanned_ends = rw shown at (end_to_end f s allow bound scanned_unmet.0)

  pub scanned_counted : length s < 2 ^ 64 → Counted f s x.layout
  scanned_counted fits = rw shown at (all_counted f s allow bound scanned_unmet.0 fits)

  -- at most four counts are long
  pub scanned_long : x.long ≤ 4
  unfolding long_ones
  scanned_long =
      let same : long_ones (head_counts f s) ≡ x.long = ap (λ (y : Scanned). y.long) scanned_unmet.1 in
      omega (arith, same, one_most (internal f s).shortest, one_most (external f s).shortest, one_most (roots f s).shortest, one_most (blocks f s).shortest)

-- ---- the walk

entries_inside : (places : ℕ) (s : List ℕ) (at n : ℕ) (seen : List (List ℕ)) → at ≤ length s → NoneMet (walk_rules places s at n seen) →
    (at ≤ walk_end s at n) × (walk_end s at n ≤ length s)
unfolding walk_rules walk_end
entries_inside places s at zero seen h none = (omega arith, h)
entries_inside places s at (suc n) seen h none =
    let parts = none_parts (advice_rules s at places seen) (walk_rules places s (next_entry s at) n (four_at s at ∷ seen)) none in
    let end : next_entry s at ≤ length s = ltb-false (length s) (next_entry s at) parts.0.1.1.1.1.1.0 in
    let rest = entries_inside places s (next_entry s at) n (four_at s at ∷ seen) end parts.1 in
    (omega (arith, rest.0), rest.1)

pub walk_inside : (places : ℕ) (s : List ℕ) (at : ℕ) (w : Walked) → walk_outcome places s at ≡ accepted w → (at ≤ w.end) × (w.end ≤ length s)
unfolding map_rules
walk_inside places s at w e =
    let k = (walk_accepts places s at w).0 e in
    let count : first_entry s at ≤ length s = ltb-false (length s) (first_entry s at) k.0.0 in
    let rest = entries_inside places s (first_entry s at) (entry_count s at).value [] count k.0.1 in
    let end : walk_end s (first_entry s at) (entry_count s at).value ≡ w.end = ap (λ (x : Walked). x.end) k.1 in
    (omega (arith, rest.0, end), omega (arith, rest.1, end))

-- each entry has at least 33 bytes
entries_far : (s : List ℕ) (at n : ℕ) → at + 33 * n ≤ walk_end s at n
unfolding walk_end
entries_far s at zero = omega arith
entries_far s at (suc n) = omega (arith, entry_bytes_lem s at, entries_far s (next_entry s at) n)

pub walk_long_lem : (places : ℕ) (s : List ℕ) (at : ℕ) (w : Walked) → walk_outcome places s at ≡ accepted w → 33 * w.long ≤ 33 + w.end
unfolding long_ones
walk_long_lem places s at w e =
    let k = (walk_accepts places s at w).0 e in
    let n = (entry_count s at).value in
    let long : long_ones (map_counts s at) ≡ w.long = ap (λ (x : Walked). x.long) k.1 in
    let end : walk_end s (first_entry s at) n ≡ w.end = ap (λ (x : Walked). x.end) k.1 in
    omega (arith, long, end, one_most (entry_count s at).shortest, long_few s (first_entry s at) n, entries_far s (first_entry s at) n)
