-- The scan's table says what its stages say, one after the other; and where no rule of it is met, none of any segment is.
-- Assumes nothing.
use Prim.Native.Nat.{ℕ, ◌+◌, ◌*◌, ◌^◌, ◌≤◌}
use mathlib.Core.Path.{◌≡◌, refl}
use mathlib.Core.List.{List, ◌++◌}
use mathlib.Core.Bool.{Bool, false, not, ◌||◌}
use borrow.Author.Tests.{ltb-false}
use lib.Count.{ones}
use lib.Dec.{ltb, eqb}
use lib.ListN.{length, get_or}
use Rattle.std.specs.Prelude.{Option}
use Rattle.wire.specs.Table.{Rule, NoneMet}
use Rattle.wire.specs.Counts.{long_ones, count_rule}
use Rattle.wire.proofs.Tables.{none_parts}
use Rattle.wire.proofs.Stages.{in_turn, in_the_end}
use Rattle.layout.specs.Facts.{share, bad_format}
use Rattle.layout.specs.Scan.{Scanned, scan_rules, scan_outcome}
use Rattle.layout.specs.Steps.{Nodes, here, nodes_here, node_count, fixed_of, scanned_of, preamble_rules, mark_rules, head_rules, budget_rules, roots_rules, blocks_rules, entry_section_rules, stages_outcome}
use Rattle.layout.specs.declared.facts.FormatFacts.{FormatFacts}
use Rattle.layout.specs.declared.head.CountAt.{CountAt}
use Rattle.layout.proofs.Tests.{or_right}

module _ (f : FormatFacts) (s : List ℕ) (allow : Bool) (bound : Option ℕ) where
  -- the rules from a stage on
  abbrev entries_on : Nodes → CountAt → List Rule
  entries_on h blocks = entry_section_rules (blocks.next.0 + blocks.count) h s

  abbrev length_at : CountAt → ℕ
  length_at roots = roots.next.0 + 4 * roots.count

  abbrev blocks_on : Nodes → CountAt → List Rule
  blocks_on h roots = blocks_rules bound (length_at roots) (fixed_of h) s ++ entries_on h (here s (length_at roots))

  abbrev roots_on : Nodes → List Rule
  roots_on h = roots_rules bound h.external.next.0 s ++ blocks_on h (here s h.external.next.0)

  abbrev budgets_on : Nodes → List Rule
  budgets_on h = budget_rules bound h ++ roots_on h

  abbrev head_on : Bool → List Rule
  head_on hashless = head_rules f s ++ budgets_on (nodes_here hashless s)

  abbrev hashless_here : Bool
  hashless_here = share (get_or s 4 0) f.hashless

  -- the table is its segments, one after the other
  pub segments : scan_rules f s allow bound ≡ preamble_rules f s ++ (mark_rules f allow s ++ head_on hashless_here)
  unfolding scan_rules entry_section_rules
  segments = refl

  -- and so it says what the stages say
  abbrev scanned_by : Nodes → Scanned
  scanned_by h = let roots = here s h.external.next.0 in scanned_of h roots (here s (length_at roots))

  pub split : scan_outcome f s allow bound ≡ stages_outcome f allow bound s
  unfolding scan_outcome stages_outcome long_ones
  split =
      let v : Bool → Scanned = λ hashless. scanned_by (nodes_here hashless s) in
      rw segments
      (in_turn (preamble_rules f s) tt (λ _. mark_rules f allow s ++ head_on hashless_here) (λ _. v hashless_here) _
      (λ _. in_turn (mark_rules f allow s) hashless_here head_on v _
      (λ hashless. (in_turn (head_rules f s) (nodes_here hashless s) budgets_on scanned_by _
      (λ h. in_turn (budget_rules bound h) tt (λ _. roots_on h) (λ _. scanned_by h) _
      (λ _. (in_turn (roots_rules bound h.external.next.0 s) (here s h.external.next.0) (blocks_on h) (λ roots. scanned_of h roots (here s (length_at roots))) _
      (λ roots. (in_turn (blocks_rules bound (length_at roots) (fixed_of h) s) (here s (length_at roots)) (entries_on h) (scanned_of h roots) _
      (λ blocks. in_the_end (entries_on h blocks) tt (λ _. scanned_of h roots blocks)))))))))))

  -- ---- where no rule of the table is met, no rule of any segment is

  module _ (unmet : NoneMet (scan_rules f s allow bound)) where
    abbrev head : Nodes
    head = nodes_here hashless_here s

    abbrev roots : CountAt
    roots = here s head.external.next.0

    abbrev blocks : CountAt
    blocks = here s (length_at roots)

    preamble : NoneMet (preamble_rules f s) × NoneMet (mark_rules f allow s ++ head_on hashless_here)
    preamble = none_parts (preamble_rules f s) (mark_rules f allow s ++ head_on hashless_here) (rw segments at unmet)

    counts : NoneMet (head_rules f s) × NoneMet (budgets_on head)
    counts = none_parts (head_rules f s) (budgets_on head) (none_parts (mark_rules f allow s) (head_on hashless_here) preamble.1).1

    root_section : NoneMet (roots_rules bound head.external.next.0 s) × NoneMet (blocks_on head roots)
    root_section = none_parts (roots_rules bound head.external.next.0 s) (blocks_on head roots) (none_parts (budget_rules bound head) (roots_on head) counts.1).1

    sections : NoneMet (blocks_rules bound (length_at roots) (fixed_of head) s) × NoneMet (entries_on head blocks)
    sections = none_parts (blocks_rules bound (length_at roots) (fixed_of head) s) (entries_on head blocks) root_section.1

    -- what each segment's unmet rules say
    pub count_1 : (count_rule s 8).met ≡ false
    count_1 = counts.0.0

    pub count_2 : (count_rule s head.internal.next.0).met ≡ false
    count_2 = counts.0.1.0

    pub count_3 : (count_rule s head.external.next.0).met ≡ false
    count_3 = root_section.0.0

    pub count_4 : (count_rule s (length_at roots)).met ≡ false
    count_4 = sections.0.0

    pub maximum : (f.max_nodes ≤ 2 ^ 30) × (node_count head ≤ f.max_nodes)
    unfolding bad_format
    maximum = (
      ltb-false (2 ^ 30) f.max_nodes (or_right (not (eqb (ones f.hashless) 1) || share f.hashless f.reserved) (ltb (2 ^ 30) f.max_nodes) preamble.0.0),
      ltb-false f.max_nodes (node_count head) counts.0.1.1.1.0,
    )

    pub roots_there : length_at roots ≤ length s
    roots_there = ltb-false (length s) (length_at roots) root_section.0.1.1.1.0

    pub sections_there : blocks.next.0 + (blocks.count + fixed_of head) ≤ length s
    sections_there = ltb-false (length s) (blocks.next.0 + (blocks.count + fixed_of head)) sections.0.1.1.1.0

    pub entries_clean : NoneMet (entries_on head blocks)
    entries_clean = sections.1
