-- The scan and the readers by index: the scan accepts a file exactly if no rule of its table is met, and every refusal is that of the first rule
-- met; an accepted file's sections lie end to end inside it, its nodes are few, each of its entries reads, and entries and roots by index are
-- those that its parts have.
-- Assumes nothing.
use mathlib.Core.Path.{◌≡◌, sym, ap, subst}
use mathlib.Core.Bool.{Bool}
use mathlib.Core.List.{List}
use mathlib.Core.Logic.{◌↔◌}
use Prim.Native.Nat.{ℕ, ◌≤◌, ◌<◌}
use lib.ListN.{get_or}
use Rattle.std.specs.Prelude.{Option, Result, Ok, Err}
use Rattle.wire.specs.Table.{refused, accepted, NoneMet, FirstMet}
use Rattle.wire.specs.Refusals.{ROOT-ID, number_of}
use Rattle.wire.specs.Counts.{long_ones}
use Rattle.wire.specs.declared.refusal.Refusal.{Refusal}
use Rattle.wire.specs.declared.refusal.Refusal.TheVariants.{RootId}
use Rattle.wire.specs.declared.refusal.Refused.{Refused}
use Rattle.wire.specs.declared.units.ByteOffset.{ByteOffset}
use Rattle.wire.proofs.Tables.{accepts_exactly, refuses_exactly}
use Rattle.info.specs.Entry.{entry_of}
use Rattle.info.specs.declared.MastNodeEntry.{MastNodeEntry}
use Rattle.layout.specs.Scan.{Scanned, head_counts, map_at, scan_rules, layout_shown, scan_shown, scan_outcome}
use Rattle.layout.specs.Accepted.{EndToEnd, Counted}
use Rattle.layout.specs.Index.{root_outcome, node_outcome}
use Rattle.layout.specs.Shown.{shown_scan}
use Rattle.layout.specs.declared.facts.FormatFacts.{FormatFacts}
use Rattle.layout.specs.declared.forest.ForestLayout.{ForestLayout}
use Rattle.layout.specs.declared.scan.Scanned.{Scanned as Scan}
use Rattle.layout.proofs.Answers.{scan_one}
use Rattle.layout.proofs.Accepted.{end_to_end, all_counted}
use Rattle.writer.specs.Parts.{parts_shown}
use Rattle.renderings.proofs.Indexed.{entry_shown, root_shown}
use Rattle.promises.proofs.Terms.{exactly, one_by}
use Rattle.promises.proofs.Calls.{Scans, ReadsNode, ReadsRoot}

module _ (s : List ℕ) (f : FormatFacts) (allow : Bool) (bound : Option ℕ) (r : Result Scan (Refused ByteOffset)) (promised : Scans s f allow bound r) where
  -- accepted, with the layout that the table's places give and the number of long counts, exactly if no rule is met
  pub accepts : (l : ForestLayout) (long : ℕ) → (r ≡ Ok (record { layout = l; long_counts = long })) ↔ (NoneMet (scan_rules f s allow bound) × (scan_shown f s allow bound ≡ record { layout = l; long = long }))
  unfolding scan_outcome
  accepts l long = exactly shown_scan scan_one r _ promised.answer (accepts_exactly (scan_rules f s allow bound) (scan_shown f s allow bound) (record { layout = l; long = long }))

  -- refused by the first rule that is met, all earlier ones unmet
  pub refuses : (why : Refusal) (at : ByteOffset) → (r ≡ Err (record { why = why; at = at })) ↔ FirstMet (scan_rules f s allow bound) (number_of why) at.0
  unfolding scan_outcome
  refuses why at = exactly shown_scan scan_one r _ promised.answer (refuses_exactly (scan_rules f s allow bound) (scan_shown f s allow bound) (number_of why) at.0)

  -- of an accepted file
  module _ (l : ForestLayout) (long : ℕ) (taken : r ≡ Ok (record { layout = l; long_counts = long })) where
    unmet : NoneMet (scan_rules f s allow bound)
    unmet = ((accepts l long).0 taken).0

    same : layout_shown f s allow bound ≡ l
    same = ap (λ (x : Scanned). x.layout) ((accepts l long).0 taken).1

    -- its map lies where the layout says
    pub map_placed : map_at f s ≡ l.advice_map_offset.0
    map_placed = ap (λ (k : ForestLayout). k.advice_map_offset.0) same

    -- the number of long ones among the file's first four counts
    pub long_counted : long ≡ long_ones (head_counts f s)
    long_counted = sym (ap (λ (x : Scanned). x.long) ((accepts l long).0 taken).1)

    pub sections_end_to_end : EndToEnd f s l
    sections_end_to_end = rw same at (end_to_end f s allow bound unmet)

    pub nodes_counted : Counted f s l
    nodes_counted = rw same at (all_counted f s allow bound unmet promised.given.below)

    -- the reader of an entry answers at every index below the node count, with the parts' entry
    pub every_entry : (i : ℕ) (x : Result MastNodeEntry (Refused ℕ)) → ReadsNode s l i x → i < l.node_count → x ≡ Ok (entry_of (get_or (parts_shown f s).words i 0))
    every_entry i x said h =
        let found = subst (λ (k : ForestLayout). (i : ℕ) → i < k.node_count → node_outcome s k i ≡ accepted (entry_of (get_or (parts_shown f s).words i 0))) same (entry_shown f s allow bound unmet promised.given.below) i h in
        one_by _ x (Ok _) said (sym found)

    -- and the reader of a root below the number of roots with the parts' root, or ROOT-ID exactly if that names no node
    pub every_root : (i : ℕ) (x : Result ℕ (Refused ℕ)) → ReadsRoot s l i x → i < l.roots_count
        → (get_or (parts_shown f s).roots i 0 < l.node_count → x ≡ Ok (get_or (parts_shown f s).roots i 0)) × (l.node_count ≤ get_or (parts_shown f s).roots i 0 → x ≡ Err (record { why = RootId; at = i }))
    every_root i x said h =
        let law =
        subst (λ (k : ForestLayout). (i : ℕ) → i < k.roots_count
        → (get_or (parts_shown f s).roots i 0 < k.node_count → root_outcome s k i ≡ accepted (get_or (parts_shown f s).roots i 0)) × (k.node_count ≤ get_or (parts_shown f s).roots i 0 → root_outcome s k i ≡ refused ROOT-ID i)) same
        (root_shown f s allow bound unmet promised.given.below) i h in (
          λ k. one_by _ x (Ok _) said (sym (law.0 k)),
          λ k. one_by _ x (Err _) said (sym (law.1 k)),
        )
