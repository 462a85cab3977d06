-- What the slot builder's table is good for.
--     built_slot      it has the slot of each node
--     readers_agree   over it the two digest readers agree at every index
-- Assumes nothing.
use mathlib.Core.Path.{◌≡◌, refl, sym, ◌∙◌}
use mathlib.Core.Bool.{Bool, true, false}
use mathlib.Core.List.{List, ◌++◌}
use Prim.Native.Nat.{ℕ, ◌≤◌, ◌<◌}
use native.Mathlib.Omega.{arith}
use borrow.Author.Tests.{ltb-true, ltb-false}
use lib.Dec.{ltb}
use lib.ListN.{length, get_or, drop, length-append, length-drop, get_or-append}
use Rattle.std.specs.Prelude.{Option}
use Rattle.wire.specs.Table.{accepted, checked}
use Rattle.wire.proofs.Stages.{both_taken}
use Rattle.wire.proofs.Tables.{accepted_none}
use Rattle.info.specs.declared.MastNodeEntry.{MastNodeEntry}
use Rattle.rows.specs.Rows.{count_external, entry_pass}
use Rattle.rows.proofs.Pass.{pass_each}
use Rattle.layout.specs.declared.forest.ForestLayout.{ForestLayout}
use Rattle.resolved.specs.Nodes.{node_entry, external_node}
use Rattle.resolved.specs.Slots.{slot_of, slots_of, table_rules, slots_outcome, table_after}
use Rattle.resolved.specs.Digests.{digest_by_counting, digest_with_table}
use Rattle.resolved.proofs.SlotLaws.{length_slots, slot_at, filled_table}
use Rattle.resolved.proofs.DigestLaws.{counting_index, counting_digest, table_index, table_digest}

module _ (s : List ℕ) (l : ForestLayout) (bound left : Option ℕ) (table : List ℕ) (built : slots_outcome s l bound (length table) ≡ accepted left) where
  abbrev nodes : ℕ
  nodes = l.node_count

  abbrev kinds : ℕ → Bool
  kinds = external_node s l

  abbrev written : List ℕ
  written = table_after s l bound table

  -- no rule was met, and every entry was read
  room : nodes ≤ length table
  unfolding slots_outcome table_rules
  room =
      let b = both_taken (checked (table_rules nodes bound (length table))) _ left built in
      ltb-false (length table) nodes (accepted_none (table_rules nodes bound (length table)) tt b.0 b.1).0.1.1.0

  clean : (externals : ℕ) × (entry_pass (node_entry s l) nodes ≡ accepted externals)
  unfolding slots_outcome
  clean =
      let b = both_taken (checked (table_rules nodes bound (length table))) _ left built in
      let c = both_taken (entry_pass (node_entry s l) nodes) _ left b.2 in
      (c.0, c.1)

  is_written : written ≡ slots_of kinds nodes ++ drop nodes table
  is_written = filled_table s l bound table left built

  pub built_length : length written ≡ length table
  built_length = rw is_written (simp (length-append, length_slots, length-drop) (omega (arith, room)))

  pub built_slot : (i : ℕ) → i < nodes → get_or written i 0 ≡ slot_of kinds i
  built_slot i h =
      let inside : i < length (slots_of kinds nodes) = rw length_slots h in
      rw (is_written, get_or-append (slots_of kinds nodes) (drop nodes table) 0 i inside) (slot_at kinds i nodes h)

  -- the nodes up to any one were read too
  clean_to : (i : ℕ) → i < nodes → (externals : ℕ) × ((entry : MastNodeEntry) × ((entry_pass (node_entry s l) i ≡ accepted externals) × (node_entry s l i ≡ accepted entry)))
  clean_to i h =
      let p = pass_each (node_entry s l) count_external 0 nodes clean.0 clean.1 i h in
      (p.before, (p.entry, (p.so_far, p.read_as)))

  pub readers_agree : (index : ℕ) → digest_with_table s l index written ≡ digest_by_counting s l index
  readers_agree index = go (ltb index nodes) refl
    where
      go : (t : Bool) → ltb index nodes ≡ t → digest_with_table s l index written ≡ digest_by_counting s l index
      go true q =
          let h : index < nodes = ltb-true index nodes q in
          let c = clean_to index h in
          let enough : nodes ≤ length written = omega (arith, built_length, room) in
          table_digest s l index written h enough c.1.0 c.1.1.1
          ∙ rw (built_slot index h)
          (sym (counting_digest s l index h c.0 c.1.1.0 c.1.0 c.1.1.1))
      go false q = let h : nodes ≤ index = ltb-false index nodes q in table_index s l index written h ∙ sym (counting_index s l index h)
