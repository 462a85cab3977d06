-- The slots of a record that fits its file, as the record of an accepted scan does (`EndToEnd` and `Counted` of layout's specs).
--     slot_in_section     each node's slot, the number of earlier nodes of its kind, is below its section's count
--     row_in_section      so every external digest row, and with hashes every internal one, lies inside its section, and that inside the file
--     rows_in_order       rows of one kind are in node order
-- That slots of one kind are distinct holds of any record: `slots_distinct` of SlotLaws.
-- Assumes nothing.
use mathlib.Core.Path.{◌≡◌, sym, ap, ◌∙◌}
use mathlib.Core.Bool.{Bool, true, false}
use mathlib.Core.List.{List}
use Prim.Native.Nat.{ℕ, ◌+◌, ◌*◌, ◌≤◌, ◌<◌}
use native.Mathlib.Omega.{arith}
use lib.ListN.{length}
use Rattle.std.specs.Prelude.{Some}
use Rattle.wire.specs.declared.units.ByteOffset.{ByteOffset}
use Rattle.layout.specs.Facts.{hash_bytes}
use Rattle.rows.specs.Rows.{row_at}
use Rattle.layout.specs.Scan.{section_at, is_hashless}
use Rattle.layout.specs.declared.facts.FormatFacts.{FormatFacts}
use Rattle.layout.specs.declared.forest.ForestLayout.{ForestLayout}
use Rattle.layout.specs.Accepted.{EndToEnd, Counted}
use Rattle.resolved.specs.Nodes.{external_node}
use Rattle.resolved.specs.Slots.{count_of, slot_of, rows_of}
use Rattle.resolved.specs.Digests.{section_of}
use Rattle.resolved.proofs.SlotLaws.{count_both, counted_kinds, slot_below, slots_rise}

-- a hash section that is there has its rows before the map
hash_section : (hashless : Bool) (at rows file : ℕ) (section : ByteOffset) → section_at hashless at ≡ Some section → at + hash_bytes hashless rows ≤ file → section.0 + 32 * rows ≤ file
hash_section true at rows file section e h = let z : ◌≡◌ {A = ℕ} 0 1 = cc in absurd (omega arith)
hash_section false at rows file section e h =
    let same : record { 0 = at } ≡ section = cc in
    let place : at ≡ section.0 = ap (λ (x : ByteOffset). x.0) same in
    omega arith

module _ (f : FormatFacts) (s : List ℕ) (l : ForestLayout) (sections : EndToEnd f s l) (counted : Counted f s l) where
  abbrev kinds : ℕ → Bool
  kinds = external_node s l

  -- there are as many nodes of a kind as the record says
  pub kind_count : (kind : Bool) → count_of kinds kind l.node_count ≡ rows_of l kind
  kind_count true = sym (counted_kinds s l.node_entry_offset.0 l.node_count l.external_node_count.0 counted.pass)
  kind_count false =
      omega (
        arith,
        count_both kinds l.node_count,
        counted_kinds s l.node_entry_offset.0 l.node_count l.external_node_count.0 counted.pass,
        counted.sum,
      )

  pub slot_in_section : (i : ℕ) → i < l.node_count → slot_of kinds i < rows_of l (kinds i)
  slot_in_section i h = omega (arith, slot_below kinds i l.node_count h, kind_count (kinds i))

  -- a section that is there lies inside the file
  section_inside : (kind : Bool) (section : ByteOffset) → section_of l kind ≡ Some section → section.0 + 32 * rows_of l kind ≤ length s
  section_inside true section e =
      let same : l.external_digest_offset ≡ section = cc in
      let place : l.external_digest_offset.0 ≡ section.0 = ap (λ (x : ByteOffset). x.0) same in
      omega (arith, sections.map, sections.inside)
  section_inside false section e =
      let end : l.external_digest_offset.0 + 32 * l.external_node_count.0 + hash_bytes (is_hashless f s) l.internal_node_count.0 ≤ length s =
      omega (arith, sections.map, sections.inside) in
      hash_section (is_hashless f s) (l.external_digest_offset.0 + 32 * l.external_node_count.0) l.internal_node_count.0 (length s) section (sym sections.hashes ∙ e) end

  pub row_in_section : (i : ℕ) → i < l.node_count → (section : ByteOffset) → section_of l (kinds i) ≡ Some section →
      (row_at section.0 32 (slot_of kinds i) + 32 ≤ section.0 + 32 * rows_of l (kinds i)) × (section.0 + 32 * rows_of l (kinds i) ≤ length s)
  row_in_section i h section e = (omega (arith, slot_in_section i h), section_inside (kinds i) section e)

-- a row of a node ends before that of a later node of its kind begins
pub rows_in_order : (kinds : ℕ → Bool) (section i j : ℕ) → i < j → kinds i ≡ kinds j → row_at section 32 (slot_of kinds i) + 32 ≤ row_at section 32 (slot_of kinds j)
rows_in_order kinds section i j h e = omega (arith, slots_rise kinds i j h e)
