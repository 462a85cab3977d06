-- The entries and the roots of an accepted file by index are those that its parts have.
--     row_at          number i of n rows of k bytes at a place
--     entry_shown     the entry of node i is that of word i of the parts
--     root_shown      root i is number i of the parts' roots, or ROOT-ID exactly if that names no node
-- Assumes nothing.
use mathlib.Core.Path.{◌≡◌, sym, ap, ◌∙◌}
use mathlib.Core.Bool.{Bool}
use mathlib.Core.List.{List, ◌∷◌}
use Prim.Native.Nat.{ℕ, zero, suc, ◌+◌, ◌*◌, ◌^◌, ◌≤◌, ◌<◌}
use native.Mathlib.Nat.{mul-suc, mul-zero, add_comm, add-zero, zero-add}
use native.Mathlib.Omega.{arith}
use lib.ListN.{length, get_or}
use lib.Seq.{slice}
use Rattle.std.specs.Prelude.{Option}
use Rattle.wire.specs.Table.{refused, accepted, NoneMet}
use Rattle.wire.specs.Refusals.{ROOT-ID}
use Rattle.wire.specs.Le.{le_at}
use Rattle.wire.specs.Rows.{numbers_of}
use Rattle.wire.proofs.Tables.{accepted_none}
use Rattle.wire.proofs.Words.{rows_next}
use Rattle.info.specs.Entry.{entry_of}
use Rattle.rows.specs.Rows.{row_word}
use Rattle.layout.specs.Scan.{nodes, roots, root_rows, entries_at, scan_rules, layout_shown}
use Rattle.layout.specs.Index.{root_outcome, node_rules, node_outcome}
use Rattle.layout.specs.declared.facts.FormatFacts.{FormatFacts}
use Rattle.layout.specs.declared.forest.ForestLayout.{ForestLayout}
use Rattle.layout.proofs.Accepted.{end_to_end, node_answers, root_answers}
use Rattle.writer.specs.Parts.{parts_shown}

-- at a distance j from `at`, so that it chains
row_from : (k n : ℕ) (s : List ℕ) (at j i : ℕ) → at + (j + k * n) ≤ length s → i < n → get_or (numbers_of k n (slice (at + j) (at + (j + k * n)) s)) i 0 ≡ le_at s (at + (j + k * i)) k
row_from k zero s at j i h l = absurd (omega arith)
row_from k (suc n) s at j i h l =
    let e : k * suc n ≡ k + k * n = mul-suc k n ∙ add_comm (k * n) k in
    let there : at + (j + (k + k * n)) ≤ length s = rw e at h in
    rw (e, rows_next k n s at j (k * n) (omega arith)) (go i l (λ m b. row_from k n s at (j + k) m (omega arith) b))
  where
    go : (i : ℕ) → i < suc n → ((m : ℕ) → m < n → get_or (numbers_of k n (slice (at + (j + k)) (at + (j + k + k * n)) s)) m 0 ≡ le_at s (at + (j + k + k * m)) k)
        → get_or (le_at s (at + j) k ∷ numbers_of k n (slice (at + (j + k)) (at + (j + k + k * n)) s)) i 0 ≡ le_at s (at + (j + k * i)) k
    go zero l later = let e : j + k * 0 ≡ j = rw mul-zero (add-zero j) in rw e
    go (suc i) l later =
        let e : k * suc i ≡ k + k * i = mul-suc k i ∙ add_comm (k * i) k in
        let f : j + (k + k * i) ≡ j + k + k * i = omega arith in
        rw (e, f) (later i (omega arith))

pub row_at : (k n : ℕ) (s : List ℕ) (at i : ℕ) → at + k * n ≤ length s → i < n → get_or (numbers_of k n (slice at (at + k * n) s)) i 0 ≡ le_at s (at + k * i) k
row_at k n s at i h l = simp (zero-add, add-zero) at (row_from k n s at 0 i (omega arith) l)

module _ (f : FormatFacts) (s : List ℕ) (allow : Bool) (bound : Option ℕ) (unmet : NoneMet (scan_rules f s allow bound)) (fits : length s < 2 ^ 64) where
  abbrev l : ForestLayout
  l = layout_shown f s allow bound

  pub entry_shown : (i : ℕ) → i < l.node_count → node_outcome s l i ≡ accepted (entry_of (get_or (parts_shown f s).words i 0))
  unfolding node_outcome parts_shown
  entry_shown i h =
      let x = end_to_end f s allow bound unmet in
      let found = node_answers f s allow bound unmet fits i h in
      let same = (accepted_none (node_rules s l i) (entry_of (row_word s (entries_at f s) i)) found.0 found.1).1 in
      let inside : entries_at f s + 8 * nodes f s ≤ length s = omega (arith, x.map, x.inside) in
      found.1 ∙ ap accepted (sym same) ∙ ap (λ (w : ℕ). accepted (entry_of w)) (sym (row_at 8 (nodes f s) s (entries_at f s) i inside h))

  pub root_shown : (i : ℕ) → i < l.roots_count
      → (get_or (parts_shown f s).roots i 0 < l.node_count → root_outcome s l i ≡ accepted (get_or (parts_shown f s).roots i 0)) × (l.node_count ≤ get_or (parts_shown f s).roots i 0 → root_outcome s l i ≡ refused ROOT-ID i)
  unfolding parts_shown
  root_shown i h =
      let x = end_to_end f s allow bound unmet in
      let inside : root_rows f s + 4 * (roots f s).value ≤ length s = omega (arith, x.blocks, x.entries, x.digests, x.map, x.inside) in
      rw (row_at 4 (roots f s).value s (root_rows f s) i inside h) (root_answers f s allow bound unmet fits i h)
