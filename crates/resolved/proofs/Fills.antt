-- Of a record that fits its file, as the record of an accepted scan does (`EndToEnd` and `Counted` of layout's specs).
--     slots_fill      the slot builder fills, given room and as many bytes as it asks
--     digest_said     a node's digest by counting is what its row says: the word, or NO-HASH, or ELEMENT, and nothing else
-- Assumes nothing.
use mathlib.Core.Path.{◌≡◌, refl, ap}
use mathlib.Core.Bool.{Bool, true, false}
use mathlib.Core.List.{List}
use Prim.Native.Nat.{ℕ, ◌+◌, ◌-◌, ◌*◌, ◌^◌, ◌≤◌, ◌<◌}
use native.Mathlib.Omega.{arith}
use borrow.Author.Tests.{le-ltb}
use lib.ListN.{length}
use Rattle.std.specs.Prelude.{Option, Some, None}
use Rattle.wire.specs.Table.{accepted, first_met, ◌>>=◌}
use Rattle.wire.specs.Words.{not_elements, four_at}
use Rattle.wire.specs.declared.units.ByteOffset.{ByteOffset}
use Rattle.wire.proofs.Tables.{none_accepted}
use Rattle.info.specs.declared.MastNodeEntry.{MastNodeEntry}
use Rattle.rows.specs.Rows.{row_at, row_over, count_external, entry_pass}
use Rattle.layout.specs.Accepted.{EndToEnd, Counted}
use Rattle.layout.specs.declared.facts.FormatFacts.{FormatFacts}
use Rattle.layout.specs.declared.forest.ForestLayout.{ForestLayout}
use Rattle.resolved.specs.Nodes.{external_in, node_entry, external_node}
use Rattle.resolved.specs.Slots.{slot_of, lacks, spent, table_rules, slots_outcome}
use Rattle.resolved.specs.Digests.{section_of, digest_rules, digest_at, digest_in, digest_by_counting, DigestSaid, word, no_hash, no_element}
use Rattle.rows.proofs.Pass.{pass_each}
use Rattle.resolved.proofs.DigestLaws.{counting_digest}
use Rattle.resolved.proofs.Sections.{row_in_section}

module _ (f : FormatFacts) (s : List ℕ) (l : ForestLayout) (sections : EndToEnd f s l) (counted : Counted f s l) where
  abbrev nodes : ℕ
  nodes = l.node_count

  -- no rule stands before the entries, and every entry reads
  pub slots_fill : (bound : Option ℕ) (room : ℕ) → lacks bound (4 * nodes) ≡ false → nodes ≤ room → slots_outcome s l bound room ≡ accepted (spent bound (4 * nodes))
  unfolding slots_outcome table_rules ◌>>=◌
  slots_fill bound room enough h =
      rw (none_accepted (table_rules nodes bound room) (tt {0}) (le-ltb (2 ^ 30) nodes counted.limit, (enough, (le-ltb room nodes h, tt {0}))), counted.pass) refl

  -- the node and those before it were read
  read_to : (i : ℕ) → i < nodes → (externals : ℕ) × ((e : MastNodeEntry) × ((entry_pass (node_entry s l) i ≡ accepted externals) × (node_entry s l i ≡ accepted e)))
  read_to i h =
      let p = pass_each (node_entry s l) count_external 0 nodes l.external_node_count.0 counted.pass i h in
      (p.before, (p.entry, (p.so_far, p.read_as)))

  -- a row inside the file is its word, unless that is none
  row_said : (i slot : ℕ) (section : ByteOffset) → row_at section.0 32 slot + 32 ≤ length s → length s < 2 ^ 64 → (b : Bool) → not_elements (four_at s (row_at section.0 32 slot)) ≡ b
      → DigestSaid s i slot (Some section) (digest_at s i section.0 slot)
  unfolding digest_at digest_rules first_met
  row_said i slot section inside fits true e =
      let low : row_over section.0 32 slot ≡ false = le-ltb (2 ^ 64 - 1) (row_at section.0 32 slot + 32) (omega arith) in
      rw (low, le-ltb (length s) (row_at section.0 32 slot + 32) inside, e) (no_element section refl e)
  row_said i slot section inside fits false e =
      let low : row_over section.0 32 slot ≡ false = le-ltb (2 ^ 64 - 1) (row_at section.0 32 slot + 32) (omega arith) in
      rw (low, le-ltb (length s) (row_at section.0 32 slot + 32) inside, e) (word section refl e)

  pub digest_said : length s < 2 ^ 64 → (i : ℕ) → i < nodes → DigestSaid s i (slot_of (external_node s l) i) (section_of l (external_node s l i)) (digest_by_counting s l i)
  digest_said fits i h =
      let c = read_to i h in
      let kind : external_node s l i ≡ _ = ap external_in c.1.1.1 in
      let said = counting_digest s l i h c.0 c.1.1.0 c.1.0 c.1.1.1 in
      rw (said, ← kind) (go (section_of l (external_node s l i)) refl)
    where
      go : (section : Option ByteOffset) → section_of l (external_node s l i) ≡ section → DigestSaid s i (slot_of (external_node s l) i) section (digest_in s i (slot_of (external_node s l) i) section)
      go None e = no_hash refl
      go (Some section) e =
          let inside = row_in_section f s l sections counted i h section e in
          row_said i (slot_of (external_node s l) i) section (omega (arith, inside.0, inside.1)) fits (not_elements (four_at s (row_at section.0 32 (slot_of (external_node s l) i)))) refl
