-- What is so of a file that the scan accepts: its sections lie end to end inside it, at the layout's offsets; its nodes are few; every entry
-- reads, and as many are External as the layout says; and the index readers answer.
-- Assumes nothing.
use mathlib.Core.Path.{◌≡◌, refl, sym, ap, ◌∙◌}
use mathlib.Core.Bool.{Bool, false}
use mathlib.Core.List.{List, [], ◌∷◌}
use Prim.Native.Nat.{ℕ, ◌+◌, ◌-◌, ◌*◌, ◌^◌, ◌≤◌, ◌<◌}
use native.Mathlib.Omega.{arith}
use borrow.Author.Tests.{le-ltb, eqb-true, not-false}
use lib.Dec.{eqb}
use lib.ListN.{length}
use Rattle.std.specs.Prelude.{Option}
use Rattle.wire.specs.Table.{Outcome, refused, accepted, NoneMet}
use Rattle.wire.specs.Refusals.{ROOT-ID}
use Rattle.wire.specs.Le.{le_at, is_short}
use Rattle.wire.specs.Counts.{counted, count_rule, count_outcome, Reads}
use Rattle.wire.proofs.Tables.{none_accepted, none_parts}
use Rattle.info.specs.declared.MastNodeEntry.{MastNodeEntry}
use Rattle.rows.specs.Rows.{row_over, row_outcome, count_external}
use Rattle.rows.proofs.Pass.{pass_each}
use Rattle.layout.specs.Scan.{words_rules, externals, internal, external_at, external, nodes, roots_at, roots as roots_of_call, blocks_at, blocks as blocks_of_call, entries_at, words, scan_rules, layout_shown}
use Rattle.layout.specs.Steps.{entry_section_rules}
use Rattle.layout.specs.Accepted.{EndToEnd, Counted}
use Rattle.layout.specs.Index.{root_at, root_outcome, node_outcome}
use Rattle.layout.specs.declared.facts.FormatFacts.{FormatFacts}
use Rattle.layout.specs.declared.forest.ForestLayout.{ForestLayout}
use Rattle.layout.proofs.Entries.{at_byte, words_pass}
use Rattle.layout.proofs.Split.{count_1, count_2, count_3, count_4, maximum, roots_there, sections_there, entries_clean}
use Rattle.layout.proofs.IndexLaws.{node_row, root_high, root_found}

-- row numbers and byte places agree where nothing is refused
at_byte_lem : (first x : ℕ) (o : Outcome ℕ) → at_byte first o ≡ accepted x → o ≡ accepted x
at_byte_lem first x (refused k i) e = cc
at_byte_lem first x (accepted y) e = e

module _ (f : FormatFacts) (s : List ℕ) (allow : Bool) (bound : Option ℕ) (unmet : NoneMet (scan_rules f s allow bound)) where
  abbrev l : ForestLayout
  l = layout_shown f s allow bound

  count_read : (at : ℕ) → (count_rule s at).met ≡ false → Reads s at (counted s at).len (counted s at).value
  unfolding count_outcome counted
  count_read at e = none_accepted (count_rule s at ∷ []) (record { value = counted s at; next = at + (counted s at).len }) (e, tt)

  pub end_to_end : EndToEnd f s l
  end_to_end =
      record {
        first = (internal f s).len;
        second = (external f s).len;
        third = (roots_of_call f s).len;
        fourth = (blocks_of_call f s).len;
        internals = count_read 8 (count_1 f s allow bound unmet);
        externals = count_read (external_at f s) (count_2 f s allow bound unmet);
        root_count = count_read (roots_at f s) (count_3 f s allow bound unmet);
        roots = refl;
        block_length = count_read (blocks_at f s) (count_4 f s allow bound unmet);
        blocks = refl;
        entries = refl;
        digests = refl;
        hashes = refl;
        map = refl;
        inside = omega (arith, sections_there f s allow bound unmet);
      }

  -- the rules of the words, and then the number of externals
  clean : NoneMet (words_rules 8 (entries_at f s) (words f s)) × (externals (words f s) ≡ (external f s).value)
  unfolding entry_section_rules
  clean =
      let last = none_parts (words_rules 8 (entries_at f s) (words f s)) _ (entries_clean f s allow bound unmet) in
      (last.0, eqb-true (externals (words f s)) (external f s).value (not-false (eqb (externals (words f s)) (external f s).value) last.1.0))

  module _ (fits : length s < 2 ^ 64) where
    pub all_counted : Counted f s l
    all_counted =
        let most = maximum f s allow bound unmet in
        let inside : entries_at f s + 8 * nodes f s ≤ length s = omega (arith, sections_there f s allow bound unmet) in
        let said = none_accepted (words_rules 8 (entries_at f s) (words f s)) (externals (words f s)) clean.0 in
        record {
          sum = refl;
          most = most.1;
          limit = omega arith;
          pass = at_byte_lem (entries_at f s) (external f s).value _ (sym (words_pass s (entries_at f s) fits (nodes f s) inside) ∙ said ∙ ap accepted clean.1);
        }

    -- the entry is answered at every index below the node count
    pub node_answers : (i : ℕ) → i < l.node_count → (e : MastNodeEntry) × (node_outcome s l i ≡ accepted e)
    node_answers i h =
        let row = pass_each (row_outcome s l.node_entry_offset.0) count_external 0 l.node_count l.external_node_count.0 all_counted.pass i h in
        (row.entry, node_row s l i h ∙ row.read_as)

    -- the root at every index below the number of roots, or ROOT-ID exactly if it names no node
    pub root_answers : (i : ℕ) → i < l.roots_count
        → (le_at s (root_at s l i) 4 < l.node_count → root_outcome s l i ≡ accepted (le_at s (root_at s l i) 4)) × (l.node_count ≤ le_at s (root_at s l i) 4 → root_outcome s l i ≡ refused ROOT-ID i)
    root_answers i h =
        let rows : l.roots_offset.0 + 4 * l.roots_count ≤ length s = roots_there f s allow bound unmet in
        let low : row_over l.roots_offset.0 4 i ≡ false = le-ltb (2 ^ 64 - 1) (l.roots_offset.0 + 4 * i + 4) (omega arith) in
        let whole : is_short s (root_at s l i) 4 ≡ false = le-ltb (length s) (l.roots_offset.0 + 4 * i + 4) (omega arith) in
        (root_found s l i h low whole, root_high s l i h low whole)
