-- Slots and digests. The builder fills a table for an accepted file, given room and as many bytes as it asks, and the table has at each node the
-- number of earlier nodes of its kind, below its section's count; so the digest rows lie inside their sections, in node order, and a digest by
-- either way is its row's word, or NO-HASH, or ELEMENT, and nothing else; over a table that the builder wrote the two digest readers agree.
-- Assumes nothing.
use mathlib.Core.Path.{◌≡◌, sym}
use mathlib.Core.Bool.{Bool, false}
use mathlib.Core.List.{List}
use Prim.Native.Nat.{ℕ, ◌+◌, ◌*◌, ◌≤◌, ◌<◌}
use lib.ListN.{length, get_or}
use Rattle.std.specs.Prelude.{Option, Some, Result, Ok}
use Rattle.wire.specs.declared.refusal.Refused.{Refused}
use Rattle.wire.specs.declared.units.ByteOffset.{ByteOffset}
use Rattle.rows.specs.Rows.{row_at}
use Rattle.layout.specs.Accepted.{EndToEnd, Counted}
use Rattle.layout.specs.declared.facts.FormatFacts.{FormatFacts}
use Rattle.layout.specs.declared.forest.ForestLayout.{ForestLayout}
use Rattle.layout.specs.declared.scan.Scanned.{Scanned as Scan}
use Rattle.resolved.specs.Nodes.{external_node}
use Rattle.resolved.specs.Slots.{slot_of, rows_of, lacks, spent}
use Rattle.resolved.specs.Digests.{section_of, digest_by_counting, digest_with_table, DigestSaid}
use Rattle.resolved.specs.Shown.{shown_digest}
use Rattle.resolved.proofs.SlotLaws.{slots_distinct}
use Rattle.resolved.proofs.Sections as sections
use Rattle.resolved.proofs.Fills as fills
use Rattle.resolved.proofs.Readers.{built_slot, readers_agree}
use Rattle.promises.proofs.Terms.{one_by}
use Rattle.promises.proofs.Calls.{Scans, Builds, ByCounting, WithTable}
use Rattle.promises.proofs.Scan.{sections_end_to_end, nodes_counted}

-- ---- over a table that the builder wrote, whatever the record

module _ (s : List ℕ) (l : ForestLayout) (bound left : Option ℕ) (t₀ t : List ℕ) (built : Builds s l bound t₀ t (Ok left)) where
  pub slot_of_each : (i : ℕ) → i < l.node_count → get_or t i 0 ≡ slot_of (external_node s l) i
  slot_of_each i h = rw built.table (built_slot s l bound left t₀ (sym built.answer) i h)

  same_digests : (i : ℕ) → digest_with_table s l i t ≡ digest_by_counting s l i
  same_digests i = rw built.table (readers_agree s l bound left t₀ (sym built.answer) i)

  pub both_ways_agree : (i : ℕ) (x y : Result (List ℕ) (Refused ℕ)) → WithTable s l i t x → ByCounting s l i y → x ≡ y
  both_ways_agree i x y p q = one_by _ x y (rw (same_digests i) at p) q

-- a digest reader answers x at node i: by counting, or with a table that the builder left
pub data ReadsDigest (s : List ℕ) (l : ForestLayout) (i : ℕ) (x : Result (List ℕ) (Refused ℕ)) : Type 0 where
  by_counting : ByCounting s l i x → ReadsDigest s l i x
  with_table : (bound left : Option ℕ) (t₀ t : List ℕ) → Builds s l bound t₀ t (Ok left) → WithTable s l i t x → ReadsDigest s l i x

-- ---- of a file that the scan accepts

module _ (s : List ℕ) (f : FormatFacts) (allow : Bool) (bound : Option ℕ) (r : Result Scan (Refused ByteOffset)) (promised : Scans s f allow bound r) (l : ForestLayout) (long : ℕ) (taken : r ≡ Ok (record { layout = l; long_counts = long })) where
  ends : EndToEnd f s l
  ends = sections_end_to_end s f allow bound r promised l long taken

  counted : Counted f s l
  counted = nodes_counted s f allow bound r promised l long taken

  -- the builder fills, and says what is left of its bound
  pub slots_fill : (limit : Option ℕ) (t₀ t : List ℕ) (x : Result (Option ℕ) (Refused ℕ)) → Builds s l limit t₀ t x → lacks limit (4 * l.node_count) ≡ false → l.node_count ≤ length t₀
      → x ≡ Ok (spent limit (4 * l.node_count))
  slots_fill limit t₀ t x built enough room =
      one_by _ x (Ok _) built.answer (sym (fills.slots_fill f s l ends counted limit (length t₀) enough room))

  pub slot_below_count : (i : ℕ) → i < l.node_count → slot_of (external_node s l) i < rows_of l (external_node s l i)
  slot_below_count = sections.slot_in_section f s l ends counted

  -- a node's digest row lies inside its section, and that inside the file
  pub digest_row_inside : (i : ℕ) → i < l.node_count → (section : ByteOffset) → section_of l (external_node s l i) ≡ Some section →
      (row_at section.0 32 (slot_of (external_node s l) i) + 32 ≤ section.0 + 32 * rows_of l (external_node s l i))
      × (section.0 + 32 * rows_of l (external_node s l i) ≤ length s)
  digest_row_inside = sections.row_in_section f s l ends counted

  -- a digest by either way is the row's word, or NO-HASH, or ELEMENT
  pub digest_of_each : (i : ℕ) (x : Result (List ℕ) (Refused ℕ)) → i < l.node_count → ReadsDigest s l i x → DigestSaid s i (slot_of (external_node s l) i) (section_of l (external_node s l i)) (shown_digest x)
  digest_of_each i x h (by_counting read) = rw read (fills.digest_said f s l ends counted promised.given.below i h)
  digest_of_each i x h (with_table limit left t₀ t built read) =
      rw (read, same_digests s l limit left t₀ t built i) (fills.digest_said f s l ends counted promised.given.below i h)

-- slots of one kind are distinct, and rows of one kind are in node order: of any record
pub slots_differ : (s : List ℕ) (l : ForestLayout) (i j : ℕ) → external_node s l i ≡ external_node s l j → slot_of (external_node s l) i ≡ slot_of (external_node s l) j → i ≡ j
slots_differ s l = slots_distinct (external_node s l)

pub rows_in_node_order : (s : List ℕ) (l : ForestLayout) (section i j : ℕ) → i < j → external_node s l i ≡ external_node s l j
    → row_at section 32 (slot_of (external_node s l) i) + 32 ≤ row_at section 32 (slot_of (external_node s l) j)
rows_in_node_order s l = sections.rows_in_order (external_node s l)
