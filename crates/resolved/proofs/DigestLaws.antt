-- Laws of the digest readers, for the code's proofs: what is answered, stage by stage.
-- Assumes nothing.
use mathlib.Core.Path.{◌≡◌, ap, ◌∙◌}
use mathlib.Core.Bool.{true, false}
use mathlib.Core.List.{List}
use Prim.Native.Nat.{ℕ, ◌+◌, ◌-◌, ◌≤◌, ◌<◌}
use borrow.Author.Tests.{lt-ltb, le-ltb, le-leb, lt-leb}
use lib.ListN.{length, get_or}
use Rattle.wire.specs.Table.{Outcome, refused, accepted, pick, first_met, At, ◌>>=◌}
use Rattle.wire.specs.Refusals.{OVERFLOW, INDEX, ROOM}
use Rattle.wire.specs.Words.{four_at, word_rules, word_outcome}
use Rattle.wire.proofs.Stages.{in_the_end}
use Rattle.wire.proofs.Tables.{replaced}
use Rattle.info.proofs.Cases.{moved, replaced_moved}
use Rattle.info.specs.Node.{is_external}
use Rattle.info.specs.declared.MastNodeEntry.{MastNodeEntry}
use Rattle.rows.specs.Rows.{row_at, row_over, entry_pass}
use Rattle.layout.specs.declared.forest.ForestLayout.{ForestLayout}
use Rattle.resolved.specs.Nodes.{node_entry, external_in, external_node}
use Rattle.resolved.specs.Slots.{slot_of}
use Rattle.resolved.specs.Digests.{section_of, digest_rules, digest_at, digest_in, digest_by_counting, digest_with_table}
use Rattle.resolved.proofs.SlotLaws.{slot_is, counted_kinds}

-- ---- a row of a section

module _ (s : List ℕ) (index section slot : ℕ) where
  pub at_over : row_over section 32 slot ≡ true → digest_at s index section slot ≡ refused OVERFLOW index
  unfolding digest_at digest_rules first_met
  at_over e = rw e

  -- the word there, whose refusal is told at the index
  pub at_stages : row_over section 32 slot ≡ false → digest_at s index section slot ≡ (moved index (word_outcome s (row_at section 32 slot)) >>= (λ w. accepted w.value))
  unfolding digest_at digest_rules first_met word_outcome word_rules
  at_stages below =
      let at = row_at section 32 slot in
      let rules = word_rules s at in
      let there : At (List ℕ) = record { value = four_at s at; next = at + 32 } in
      rw below (in_the_end (replaced index rules) there (λ w. w.value) ∙ ap (λ o. o >>= (λ w. accepted w.value)) (replaced_moved index rules there))

-- ---- by counting

module _ (s : List ℕ) (l : ForestLayout) (index : ℕ) where
  pub counting_index : l.node_count ≤ index → digest_by_counting s l index ≡ refused INDEX index
  unfolding digest_by_counting first_met ◌>>=◌
  counting_index h = rw (le-leb l.node_count index h)

  module _ (h : index < l.node_count) where
    pub counting_stages : digest_by_counting s l index
        ≡ (entry_pass (node_entry s l) index >>= (λ _. node_entry s l index >>= (λ e. digest_in s index (slot_of (external_node s l) index) (section_of l (is_external e)))))
    unfolding digest_by_counting first_met ◌>>=◌
    counting_stages = rw (lt-leb l.node_count index h)

    module _ (externals : ℕ) (clean : entry_pass (node_entry s l) index ≡ accepted externals) where
      pub counting_digest : (e : MastNodeEntry) → node_entry s l index ≡ accepted e →
          digest_by_counting s l index ≡ digest_in s index (slot_of (external_node s l) index) (section_of l (is_external e))
      unfolding ◌>>=◌
      counting_digest e q = rw (counting_stages, clean) (ap (λ (o : Outcome MastNodeEntry). o >>= (λ x. digest_in s index (slot_of (external_node s l) index) (section_of l (is_external x)))) q)

    -- the slot is one of the two numbers that are counted
    pub counted_slot : (externals : ℕ) → entry_pass (node_entry s l) index ≡ accepted externals → (e : MastNodeEntry) → node_entry s l index ≡ accepted e →
        pick (is_external e) externals (index - externals) ≡ slot_of (external_node s l) index
    counted_slot externals clean e q =
        slot_is (external_node s l) (is_external e) externals index (counted_kinds s l.node_entry_offset.0 index externals clean) ∙ rw (ap external_in q)

-- ---- with a table

module _ (s : List ℕ) (l : ForestLayout) (index : ℕ) (table : List ℕ) where
  pub table_index : l.node_count ≤ index → digest_with_table s l index table ≡ refused INDEX index
  unfolding digest_with_table first_met ◌>>=◌
  table_index h = rw (le-leb l.node_count index h)

  module _ (h : index < l.node_count) where
    pub table_room : length table < l.node_count → digest_with_table s l index table ≡ refused ROOM index
    unfolding digest_with_table first_met ◌>>=◌
    table_room k = rw (lt-leb l.node_count index h, lt-ltb (length table) l.node_count k)

    module _ (room : l.node_count ≤ length table) where
      pub table_stages : digest_with_table s l index table ≡ (node_entry s l index >>= (λ e. digest_in s index (get_or table index 0) (section_of l (is_external e))))
      unfolding digest_with_table first_met ◌>>=◌
      table_stages = rw (lt-leb l.node_count index h, le-ltb (length table) l.node_count room)

      pub table_digest : (e : MastNodeEntry) → node_entry s l index ≡ accepted e → digest_with_table s l index table ≡ digest_in s index (get_or table index 0) (section_of l (is_external e))
      unfolding ◌>>=◌
      table_digest e q = rw (table_stages, q)
